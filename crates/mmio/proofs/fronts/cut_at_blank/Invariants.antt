-- No byte so far is a blank.
use Rattle.std.proofs.Common.{length, take, drop, ◌-◌, ◌≡◌, ◌≤◌, ◌++◌}
use Rattle.mmio.specs.Fronts.{behind_front, front_of}
use Rattle.mmio.proofs.fronts.cut_at_blank.Given as goal

abbrev pub invariant-loop-end : goal.invariant-loop-end
invariant-loop-end l = record {
  within : l.end ≤ length l.text;
  front : front_of l.text ≡ take l.end l.text ++ front_of (drop l.end l.text);
  behind : behind_front l.text ≡ behind_front (drop l.end l.text);
}

abbrev pub decreases-loop-end : goal.decreases-loop-end
decreases-loop-end l = length l.text - l.end
