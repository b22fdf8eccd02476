use Rattle.std.proofs.Common.{◌∙◌, arith}
use Rattle.lanes.proofs.PresentLaws.{fold_more}
use Rattle.lanes.proofs.present.fold_rest.Goals as goal

pub loop-k-preserved : goal.loop-k-preserved
loop-k-preserved c =
    let m = c.args.monoid in
    let s = c.loop-k in
    c.add_where-sum.ensures ∙ rw c.has_bit.ensures (fold_more m.kind m.op.domain m.op.kind c.args.bits.now c.args.words.now s.k s.sum m.combines (omega (arith, c.loop-k-test.true)) s.invariant)
