use Rattle.std.proofs.Common.{◌≡◌, ◌-◌, ◌<◌, ◌≤◌, ℕ, false, get_or, true}
use Rattle.spgemm.proofs.many.marked_from.Given as goal

abbrev pub invariant-loop-count : goal.invariant-loop-count
invariant-loop-count l = record {
  least : l.known ≤ l.count;
  bound : l.count ≤ l.past;
  marked : (at : ℕ) → at < l.count → get_or l.marks at false ≡ true;
}

abbrev pub decreases-loop-count : goal.decreases-loop-count
decreases-loop-count l = l.past - l.count
