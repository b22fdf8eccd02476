use Rattle.std.proofs.Common.{take}
use Rattle.store.proofs.PutLaws.{IsMergedFrom}
use Rattle.store.proofs.putting.merge_back.Given as goal

abbrev pub invariant-loop-k : goal.invariant-loop-k
invariant-loop-k l =
    IsMergedFrom (take l.fn.old l.fn.inner) (take l.fn.old l.fn.words) l.fn.rows l.fn.row_words l.left l.gap l.k l.inner l.words

abbrev pub decreases-loop-k : goal.decreases-loop-k
decreases-loop-k l = l.k
