use Rattle.store.proofs.PutLaws.{AreCounted}
use Rattle.store.proofs.putting.count_missing.Given as goal

abbrev pub invariant-loop-k : goal.invariant-loop-k
invariant-loop-k l = AreCounted l.list l.rows l.left l.k l.count

abbrev pub decreases-loop-k : goal.decreases-loop-k
decreases-loop-k l = l.k
