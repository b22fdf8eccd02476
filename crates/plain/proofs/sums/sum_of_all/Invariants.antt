use Rattle.std.proofs.Common.{◌≡◌, map, take}
use Rattle.algebra.specs.Monoids.{sum_of}
use Rattle.plain.proofs.sums.sum_of_all.Given as goal

-- the sum of the entries so far
abbrev pub invariant-loop-entry : goal.invariant-loop-entry
invariant-loop-entry l = l.sum ≡ sum_of l.monoid.kind l.monoid.op.domain (map (λ e. e.word) (take l.entry-index l.entry-items))
