use Rattle.std.proofs.Common.{length, ◌-◌, ◌+◌, ◌<◌, ◌≤◌}
use Rattle.masks.proofs.Merges.{IsAlong}
use Rattle.masks.proofs.merge.merge_others.Given as goal

abbrev pub invariant-loop-i : goal.invariant-loop-i
invariant-loop-i l = IsAlong l.left l.left_words l.right l.right_words l.i l.j l.k l.inner l.lefts l.rights l.sides

abbrev pub decreases-loop-i : goal.decreases-loop-i
decreases-loop-i l = (length l.left - l.i) + (length l.right - l.j)

abbrev pub invariant-loop-i-2 : goal.invariant-loop-i-2
invariant-loop-i-2 l = record {
  along : IsAlong l.left l.left_words l.right l.right_words l.i l.j l.k l.inner l.lefts l.rights l.sides;
  right_done : l.i < length l.left → length l.right ≤ l.j;
}

abbrev pub decreases-loop-i-2 : goal.decreases-loop-i-2
decreases-loop-i-2 l = length l.left - l.i

abbrev pub invariant-loop-j : goal.invariant-loop-j
invariant-loop-j l = record {
  along : IsAlong l.left l.left_words l.right l.right_words l.i l.j l.k l.inner l.lefts l.rights l.sides;
  left_done : length l.left ≤ l.i;
}

abbrev pub decreases-loop-j : goal.decreases-loop-j
decreases-loop-j l = length l.right - l.j
