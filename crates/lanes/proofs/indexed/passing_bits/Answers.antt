-- Each place is that of the next position.
use Rattle.std.proofs.Common.{◌≡◌, ◌+◌, ◌/◌, ◌%◌, ◌<◌, ◌∙◌, ap, arith, eqb, inl, inr, refl, sym}
use Rattle.std.proofs.lemmas.Bool.{cases_eq}
use Rattle.std.proofs.lemmas.Nat.{div-mul-add, mod-mul-add}
use Rattle.lanes.proofs.BitLaws.{mark_away, mark_here}
use Rattle.lanes.proofs.indexed.passing_bits.Goals as goal

pub loop-k-preserved : goal.loop-k-preserved
loop-k-preserved c =
    let s = c.loop-k in
    let h = s.invariant in
    let cols = c.args.cols in
    let next = c.next_position.ensures in
    let passes = c.passes.result in
    let few = c.requires.few in
    let small : s.k < 64 = omega (arith, c.loop-k-test.true) in
    let place = c.args.base + s.k in
    let row_is : place / cols ≡ s.row = ap (λ n. n / cols) (sym h.place) ∙ div-mul-add s.row cols s.col h.col in
    let col_is : place % cols ≡ s.col = ap (λ n. n % cols) (sym h.place) ∙ mod-mul-add s.row cols s.col h.col in
    let more : c.args.base + s.k + 1 ≡ c.args.base + (s.k + 1) = omega arith in
    record {
      place = next.place ∙ ap (λ n. n + 1) h.place ∙ more;
      col = next.col;
      row = let up = next.row in let low = h.row in omega arith;
      done = λ at less. elim (cases_eq at s.k) [
        | inl same ↦ rw same (mark_here s.bits s.k passes small (h.left s.k (omega arith)) ∙ c.passes.ensures ∙ rw (row_is, col_is) refl)
        | inr other ↦ ap (λ b. eqb b 1) (mark_away s.bits s.k at passes small other) ∙ h.done at (omega (arith, other))
      ];
      left = λ at low. mark_away s.bits s.k at passes small (λ e. absurd (omega arith)) ∙ h.left at (omega arith);
    }
