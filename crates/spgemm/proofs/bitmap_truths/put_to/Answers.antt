use Rattle.std.proofs.Common.{arith}
use Rattle.spgemm.proofs.TruthLaws.{either_bits}
use Rattle.spgemm.proofs.bitmap_truths.put_to.Goals as goal

pub returns-clause-bits : goal.returns-clause-bits
returns-clause-bits c =
    let long = c.loop-at.auto.bits in
    either_bits c.args.bits.now c.args.others.now c.loop-at.bits c.requires (omega arith) (λ k less. c.loop-at.invariant.words k (omega (arith, c.loop-at-test.false)))
