use Rattle.std.proofs.Common.{◌∙◌, ◌<◌, ap, arith, eqb, inl, inr}
use Rattle.std.proofs.lemmas.Bool.{cases_eq}
use Rattle.std.proofs.lemmas.Nat.Bits.{bit_at-zero}
use Rattle.lanes.proofs.BitLaws.{mark_away, mark_here}
use Rattle.masks.proofs.marked.MarkedMask.asked_bits.Goals as goal

pub loop-k-init : goal.loop-k-init
loop-k-init c = record { done = λ at less. absurd (omega arith); left = λ at low. bit_at-zero at }

pub loop-k-preserved : goal.loop-k-preserved
loop-k-preserved c =
    let s = c.loop-k in
    let mark = c.lets.result in
    let small : s.k < 64 = omega (arith, c.loop-k-test.true) in
    record {
      done = λ at less.
          elim (cases_eq at s.k) [
            | inl same ↦ rw same (mark_here s.bits s.k mark small (s.invariant.left s.k (omega arith)) ∙ c.lets.ensures)
            | inr other ↦ ap (λ b. eqb b 1) (mark_away s.bits s.k at mark small other) ∙ s.invariant.done at (omega arith)
          ];
      left = λ at low. mark_away s.bits s.k at mark small (λ e. absurd (omega arith)) ∙ s.invariant.left at (omega arith);
    }
