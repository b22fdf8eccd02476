use Rattle.std.proofs.Common.{◌≡◌, ℕ, ◌≤◌, ◌<◌, length}
use Rattle.std.specs.List.{All}
use Rattle.model.specs.Entries.{word_at}
use Rattle.masks.proofs.keep.seek.Given as goal

abbrev pub invariant-loop-first : goal.invariant-loop-first
invariant-loop-first l = record {
  words : (i j : ℕ) → l.outer ≤ i → word_at l.rest.entries i j ≡ word_at l.fn.fibers.entries i j;
  below : All (λ e. l.first ≤ e.row) l.rest.entries;
  there : All (λ e. l.first < e.row) l.rest.entries → length l.rest.entries ≡ 0;
  none : length l.rest.entries ≡ 0 → l.first ≡ 18446744073709551615;
}

abbrev pub decreases-loop-first : goal.decreases-loop-first
decreases-loop-first l = length l.rest.entries
