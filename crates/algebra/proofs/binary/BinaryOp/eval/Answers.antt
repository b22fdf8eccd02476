-- The word instructions that give TIMES, BOR and BXOR.
use Rattle.std.proofs.Common.{◌≡◌, true}
use Rattle.algebra.proofs.Words.{times-words, or-words, xor-words}
use Rattle.algebra.specs.Operators.{offers}
use Rattle.algebra.specs.declared.kinds.BinaryKind.TheVariants.{Times, Bor, Bxor}
use Rattle.algebra.proofs.binary.BinaryOp.eval.Goals as goal

pub returns-in-Times : goal.returns-in-Times
returns-in-Times c =
    let offered : offers Times c.args.self.domain ≡ true = rw c.in-Times.is at c.args.self.offered in
    rw c.in-Times.is (times-words c.args.self.domain c.args.a c.args.b offered c.ranges.a.fits c.ranges.b.fits)

pub returns-in-Bor : goal.returns-in-Bor
returns-in-Bor c =
    let offered : offers Bor c.args.self.domain ≡ true = rw c.in-Bor.is at c.args.self.offered in
    rw c.in-Bor.is (or-words c.args.self.domain c.args.a c.args.b offered c.ranges.a.fits c.ranges.b.fits)

pub returns-in-Bxor : goal.returns-in-Bxor
returns-in-Bxor c =
    let offered : offers Bxor c.args.self.domain ≡ true = rw c.in-Bxor.is at c.args.self.offered in
    rw c.in-Bxor.is (xor-words c.args.self.domain c.args.a c.args.b offered c.ranges.a.fits c.ranges.b.fits)
