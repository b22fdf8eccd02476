use Rattle.std.proofs.Common.{◌≤◌, ◌-◌}
use Rattle.store.specs.Parts.{HasRows}
use Rattle.store.specs.Stored.{content_of}
use Rattle.masks.specs.Joins.{joined}
use Rattle.masks.proofs.join.join_between.Given as goal

abbrev pub invariant-loop-row : goal.invariant-loop-row
invariant-loop-row l = record {
  rows : HasRows (joined l.by (content_of l.left) (content_of l.right)) l.fn.range.start l.row l.left.cols l.lists;
  low : l.fn.range.start ≤ l.row;
  high : l.row ≤ l.past;
}

abbrev pub decreases-loop-row : goal.decreases-loop-row
decreases-loop-row l = l.past - l.row
