use Rattle.std.proofs.Common.{◌≡◌, ◌-◌, ◌<◌, ◌≤◌, ℕ, None}
use Rattle.model.specs.Entries.{word_at}
use Rattle.spgemm.proofs.bitmap_truths.next_between.Given as goal

-- no row so far has an entry
abbrev pub invariant-loop-row : goal.invariant-loop-row
invariant-loop-row l = record {
  low : l.from ≤ l.row;
  none : (k : ℕ) → l.from ≤ k → k < l.row → word_at l.u.entries k 0 ≡ None;
}

abbrev pub decreases-loop-row : goal.decreases-loop-row
decreases-loop-row l = l.past - l.row
