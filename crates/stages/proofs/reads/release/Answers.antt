use Rattle.std.proofs.Common.{◌≡◌, ◌∙◌, ℕ, ◌+◌, true, ap, slice_get, sym, arith}
use Rattle.std.specs.Prelude.{slice_index}
use Rattle.std.specs.Option.{option_map}
use Rattle.std.proofs.lemmas.Bool.{ltb-false}
use Rattle.stages.specs.Stages.{has_store, is_at, released_if}
use Rattle.stages.proofs.StageLaws.{release_one}
use Rattle.stages.proofs.reads.release.Goals as goal

pub returns : goal.returns
returns c k =
    let i = c.in-Some.number in
    let uses : ℕ → ℕ = λ j. slice_index c.args.holds.now j + slice_index c.args.reads.now j in
    let a = ltb-false 0 (slice_index c.args.holds.now i) (sym c.is_used.ensures ∙ c.if-is_used.false) in
    let b = ltb-false 0 (slice_index c.args.reads.now i) (sym c.is_used-else-is_used.ensures ∙ c.if-is_used-2.false) in
    let there : has_store (slice_get c.args.stages.now.items i) ≡ true = ap (λ l. has_store (slice_get l i)) (sym c.deref.ensures.value) ∙ (sym c.is_done.ensures ∙ c.if-not-is_done.false) in
    ap (λ l. slice_get l k) c.put.ensures
    ∙ (release_one c.args.stages.now.items i uses (omega (arith, a, b)) there k
    ∙ ap (λ o. option_map (released_if (is_at o k) (slice_index c.args.holds.now k + slice_index c.args.reads.now k)) (slice_get c.args.stages.now.items k)) (sym c.in-Some.is))
