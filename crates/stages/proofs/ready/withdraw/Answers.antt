use Rattle.std.proofs.Common.{◌∙◌, ap, arith, slice_get, sym, subst}
use Rattle.std.specs.Prelude.{remove}
use Rattle.std.proofs.lemmas.Option.{slice_get_within}
use Rattle.stages.specs.Numbers.{IsPlace}
use Rattle.stages.proofs.NumberLaws.{numbers_without, numbers_without_none}
use Rattle.stages.proofs.ready.withdraw.Goals as goal

pub remove_at-requires : goal.remove_at-requires
remove_at-requires c =
    let within = slice_get_within c.args.ready.now.items c.place_of-place.result c.args.number c.if-stands_at.ensures in
    omega (arith, within)

pub returns-then-stands_at-clause-numbers : goal.returns-then-stands_at-clause-numbers
returns-then-stands_at-clause-numbers c p n is low =
    c.remove_at.ensures.items
    ∙ (ap (λ l. remove l c.place_of-place.result) is ∙ sym (numbers_without p n c.args.number c.place_of-place.result (ap (λ l. slice_get l c.place_of-place.result) (sym is) ∙ c.if-stands_at.ensures)))

pub returns-else-stands_at-clause-numbers : goal.returns-else-stands_at-clause-numbers
returns-else-stands_at-clause-numbers c p n is low =
    is ∙ sym (numbers_without_none p n c.args.number c.place_of-place.result (subst (λ l. IsPlace l c.args.number c.place_of-place.result) is c.place_of-place.ensures) low
    (λ at. c.if-stands_at.ensures (ap (λ l. slice_get l c.place_of-place.result) is ∙ at)))
