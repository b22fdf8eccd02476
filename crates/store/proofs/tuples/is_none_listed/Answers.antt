-- Lists that were joined have an entry each.
use Rattle.std.proofs.Common.{◌≡◌, ◌∙◌, ◌++◌, ◌∷◌, ◌<◌, ◌==◌, [], List, arith, false, length, sym}
use Rattle.std.proofs.lemmas.Bool.Decides.{nat_tests}
use Rattle.std.proofs.lemmas.List.Elements.{All-head}
use Rattle.std.proofs.lemmas.List.{length-append}
use Rattle.std.specs.Global.{Vec}
use Rattle.model.specs.declared.entry.Entry.{Entry}
use Rattle.store.specs.Tuples.{NoneIsEmpty, listed}
use Rattle.store.proofs.tuples.is_none_listed.Goals as goal

-- where there are lists, there is an entry
some_listed : (lists : List (Vec Entry)) (list : List Entry) → NoneIsEmpty lists → 0 < length lists
    → 0 < length (listed lists ++ list)
some_listed [] list all there = absurd (omega arith)
some_listed (l ∷ ls) list all there =
    let first = All-head (λ (list : Vec Entry). 0 < length list.items) l ls all in
    let whole = length-append (listed (l ∷ ls)) list in
    let front = length-append l.items (listed ls) in
    omega arith

pub returns-then-is_empty-clause-no : goal.returns-then-is_empty-clause-no
returns-then-is_empty-clause-no c h =
    let many : (length c.args.joined.now == 0) ≡ false = sym c.is_empty-then-is_empty.ensures ∙ h in
    some_listed c.args.joined.now c.args.list.now c.requires (grind (arith, nat_tests))
