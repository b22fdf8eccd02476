-- No byte so far is a gap.
use Rattle.std.proofs.Common.{◌≤◌, ◌-◌, length}
use Rattle.lines.specs.Gaps.{AreInner}
use Rattle.lines.proofs.gaps.next_gap.Given as goal

abbrev pub invariant-loop-at : goal.invariant-loop-at
invariant-loop-at l = record {
  behind : l.fn.from ≤ l.at;
  within : l.at ≤ length l.line;
  inner : AreInner l.line l.fn.from l.at;
}

abbrev pub decreases-loop-at : goal.decreases-loop-at
decreases-loop-at l = length l.line - l.at
