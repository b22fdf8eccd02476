-- What the row of the first word says.
use Rattle.std.proofs.Common.{◌≡◌, Bor, List, Some, ℕ, codes, false, map, rules}
use Rattle.model.specs.Grammar.{is_called}
use Rattle.model.specs.Renamed.{renamed}
use Rattle.lines.proofs.RowLaws.{call_first, called_command, long_no_call}
use Rattle.std.proofs.lemmas.List.{length-map}
use Rattle.lines.proofs.parse.other_command.Goals as goal

pub returns-in-Some : goal.returns-in-Some
returns-in-Some c =
    let words = map (λ word. word.now) c.args.words.now in
    let other : is_called words (codes "load") ≡ false = search rules in
    let view = renamed (λ (name : Bor (List ℕ)). name.now) (λ (name : Bor (List ℕ)). name.now) in
    called_command words other (Some (view c.in-Some.call)) (call_first words _ _ (view c.in-Some.call) c.first-called.ensures c.others.ensures c.in-Some.ensures)

pub operate_command-requires-clause-no_call : goal.operate_command-requires-clause-no_call
operate_command-requires-clause-no_call c = long_no_call (map (λ word. word.now) c.args.words.now) (search (rules, length-map)) (search rules)
