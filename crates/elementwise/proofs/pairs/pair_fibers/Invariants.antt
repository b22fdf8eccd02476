use Rattle.std.proofs.Common.{length, ◌+◌}
use Rattle.elementwise.proofs.FiberPairs.{IsPaired}
use Rattle.elementwise.proofs.pairs.pair_fibers.Given as goal

abbrev pub invariant-loop-right : goal.invariant-loop-right
invariant-loop-right l = IsPaired l.fn.left.entries l.fn.right.entries l.left.entries l.right.entries l.count l.ends.items l.inner l.lefts l.rights (length l.fn.inner)

abbrev pub decreases-loop-right : goal.decreases-loop-right
decreases-loop-right l = length l.left.entries + length l.right.entries
