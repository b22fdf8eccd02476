use Rattle.std.proofs.Common.{length, ◌+◌}
use Rattle.masks.proofs.FiberMerges.{IsPart}
use Rattle.masks.proofs.merge.merge_fibers.Given as goal

abbrev pub invariant-loop-right : goal.invariant-loop-right
invariant-loop-right l = IsPart l.fn.left.entries l.fn.right.entries l.left.entries l.right.entries l.count l.ends.items l.inner l.lefts l.rights l.sides (length l.fn.inner)

abbrev pub decreases-loop-right : goal.decreases-loop-right
decreases-loop-right l = length l.left.entries + length l.right.entries
