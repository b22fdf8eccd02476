use Rattle.std.proofs.Common.{◌≡◌, ◌∙◌, ℕ, ◌+◌, ◌≤◌, ◌||◌, Bool, true, false, arith, eqb, ap, length, slice_get, sym, subst}
use Rattle.std.specs.Prelude.{MatchBool, insert}
use Rattle.std.proofs.lemmas.List.Edits.{length-insert}
use Rattle.stages.specs.Numbers.{IsPlace, numbers}
use Rattle.stages.proofs.NumberLaws.{length_numbers, numbers_with, numbers_with_same}
use Rattle.stages.proofs.ready.insert.Goals as goal

on_result : {A B P : Type 0} (r : Bool) → MatchBool r A B → (A → P) → (B → P) → P
on_result true h f g = f h
on_result false h f g = g h

pub returns-then-stands_at-clause-numbers : goal.returns-then-stands_at-clause-numbers
returns-then-stands_at-clause-numbers c p n is low room =
    is ∙ sym (numbers_with_same p n c.args.number c.place_of-place.result (ap (λ l. slice_get l c.place_of-place.result) (sym is) ∙ c.if-stands_at.ensures))

pub returns-clause-numbers : goal.returns-clause-numbers
returns-clause-numbers c p n is low room =
    let place : ℕ = c.place_of-place.result in
    let with : numbers (λ k. p k || eqb k c.args.number) n ≡ insert (numbers p n) place c.args.number =
    numbers_with p n c.args.number place (subst (λ l. IsPlace l c.args.number place) is c.place_of-place.ensures) low
    (λ at. c.if-stands_at.ensures (ap (λ l. slice_get l place) is ∙ at)) in
    let within : place ≤ length c.args.ready.now.items = c.place_of-place.ensures.within in
    on_result c.put_at.result c.put_at.ensures.items
    (λ items. items ∙ (ap (λ l. insert l place c.args.number) is ∙ sym with))
    (λ full.
    let most = length_numbers (λ k. p k || eqb k c.args.number) n in
    let grown : length (insert (numbers p n) place c.args.number) ≡ length (numbers p n) + 1 = length-insert (numbers p n) place c.args.number (subst (λ l. place ≤ length l) is within) in
    absurd (omega (arith, most, ap length with, grown, ap length is, full, room)))
