use Rattle.std.proofs.Common.{◌≤◌, ◌-◌}
use Rattle.store.proofs.putting.start_before.Given as goal

abbrev pub invariant-loop-width : goal.invariant-loop-width
invariant-loop-width l = 1 ≤ l.width

abbrev pub decreases-loop-width : goal.decreases-loop-width
decreases-loop-width l = l.left - l.width
