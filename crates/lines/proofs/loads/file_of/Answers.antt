-- Other words name no file, and those of a load its own.
use Rattle.std.proofs.Common.{◌≡◌, ◌∙◌, Some, None, codes, false, map, rules, sym, true, ap}
use Rattle.std.specs.Option.{option_and_then}
use Rattle.lines.specs.Meaning.{load_in}
use Rattle.model.specs.Grammar.{is_called, load_of}
use Rattle.model.specs.Loads.{file_named}
use Rattle.lines.proofs.LoadLaws.{file_of_load, not_load}
use Rattle.lines.proofs.loads.file_of.Goals as goal

pub returns-then-not-is_load : goal.returns-then-not-is_load
returns-then-not-is_load c =
    let words = map (λ word. word.now) c.args.words.now in
    let other : is_called words (codes "load") ≡ false = search rules in
    sym (not_load words other)

pub returns-in-Some : goal.returns-in-Some
returns-in-Some c =
    let words = map (λ word. word.now) c.args.words.now in
    let called : is_called words (codes "load") ≡ true = search rules in
    let read : load_of words ≡ Some (load_in c.in-Some.load) = search rules in
    sym (file_of_load words called ∙ ap (option_and_then file_named) read)

pub returns-in-None : goal.returns-in-None
returns-in-None c =
    let words = map (λ word. word.now) c.args.words.now in
    let called : is_called words (codes "load") ≡ true = search rules in
    let read : load_of words ≡ None = search rules in
    sym (file_of_load words called ∙ ap (option_and_then file_named) read)
