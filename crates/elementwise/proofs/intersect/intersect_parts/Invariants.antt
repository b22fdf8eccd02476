use Rattle.std.proofs.Common.{◌≤◌, ◌-◌}
use Rattle.store.specs.Parts.{HasRows}
use Rattle.store.specs.Stored.{content_of}
use Rattle.elementwise.specs.Meets.{met_content}
use Rattle.elementwise.proofs.intersect.intersect_parts.Given as goal

abbrev pub invariant-loop-row : goal.invariant-loop-row
invariant-loop-row l = record {
  rows : HasRows (met_content l.op (content_of l.a) (content_of l.b)) l.fn.range.start l.row l.a.cols l.lists;
  low : l.fn.range.start ≤ l.row;
  high : l.row ≤ l.past;
}

abbrev pub decreases-loop-row : goal.decreases-loop-row
decreases-loop-row l = l.past - l.row
