use Rattle.model.proofs.IndexLaws.{NeighboursDiffer}
use Rattle.model.proofs.indices.rises.Given as goal

abbrev pub invariant-loop-k : goal.invariant-loop-k
invariant-loop-k l = NeighboursDiffer l.sorted l.k
