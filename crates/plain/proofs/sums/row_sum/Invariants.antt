use Rattle.std.proofs.Common.{◌≡◌}
use Rattle.algebra.specs.Monoids.{sum_of}
use Rattle.model.specs.Reductions.{row_words}
use Rattle.plain.proofs.sums.row_sum.Given as goal

-- the sum of the columns so far
abbrev pub invariant-loop-col : goal.invariant-loop-col
invariant-loop-col g l = l.sum ≡ sum_of l.monoid.kind l.monoid.op.domain (row_words l.col (g.M.Mapping.content l.mapping) l.row)
