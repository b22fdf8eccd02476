use Rattle.std.proofs.Common.{◌≡◌, []}
use Rattle.masks.specs.Joins.{IsJoinSoFar}
use Rattle.masks.proofs.few.join_few.Given as goal

abbrev pub invariant-loop-k : goal.invariant-loop-k
invariant-loop-k l = record {
  joined : IsJoinSoFar l.by l.left.inner.now l.left.words.now l.right.inner.now l.right.words.now l.from l.k l.lists.inner.items l.lists.words.items;
  none : l.lists.ends.items ≡ [];
}
