use Rattle.std.proofs.Common.{◌∙◌, arith}
use Rattle.lanes.proofs.PresentLaws.{bit_of_word, fold_more}
use Rattle.lanes.proofs.present.fold_some.Goals as goal

pub loop-k-preserved : goal.loop-k-preserved
loop-k-preserved c =
    let m = c.args.monoid in
    let s = c.loop-k in
    let bit = bit_of_word c.args.bits.now c.args.base s.k c.requires.whole (omega arith) (omega (arith, c.loop-k-test.true)) in
    c.add_where-sum.ensures ∙ rw (c.is_set.ensures ∙ bit) (fold_more m.kind m.op.domain m.op.kind c.args.bits.now c.args.words.now s.k s.sum m.combines (omega (arith, c.loop-k-test.true, c.requires.inside)) s.invariant)
