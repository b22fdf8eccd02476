use Rattle.std.proofs.Common.{◌≡◌, Some, arith, get_or}
use Rattle.terms.specs.Marked.{lets_marked}
use Rattle.spgemm.proofs.KeptBits.{none_more, word_kept}
use Rattle.spgemm.proofs.keep.keep_bits.Goals as goal
use Rattle.spgemm.proofs.keep.keep_bits.Goals.{then-here-ne0, else-here-ne0}

pub loop-at-preserved : goal.loop-at-preserved
loop-at-preserved c =
    let s = c.loop-at in
    let keeps = lets_marked (Some c.in-Some.mask) in
    elim c.if-here-ne0.branch [
      | then-here-ne0 w ↦ rw w.bits-is (record { kept = word_kept keeps c.args.bits.now s.bits s.at w.let_bits.result (omega (arith, c.loop-at-test.true)) s.invariant.kept w.let_bits.ensures })
      | else-here-ne0 w ↦
          let none : get_or s.bits s.at 0 ≡ 0 = omega (arith, w.if-here-ne0.false) in
          rw w.bits-is (record { kept = none_more keeps c.args.bits.now s.bits s.at none s.invariant.kept })
    ]
