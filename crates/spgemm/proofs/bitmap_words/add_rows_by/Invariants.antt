use Rattle.std.proofs.Common.{◌≡◌, ◌<◌, ◌≤◌, ℕ, false, get_or, length, true}
use Rattle.model.specs.Entries.{word_at}
use Rattle.model.specs.Object.{transposed_content}
use Rattle.spgemm.specs.Dense.{AreMarkedSums}
use Rattle.spgemm.proofs.BitmapWalk.{IsWalkedAcross}
use Rattle.spgemm.proofs.bitmap_words.add_rows_by.Given as goal

abbrev pub invariant-loop-line : goal.invariant-loop-line
invariant-loop-line l = record {
  walked : IsWalkedAcross l.semiring.multiply (transposed_content (word_at l.u.entries)) l.a l.fn.rows.start l.fn.rows.end (λ terms. AreMarkedSums l.semiring.add terms l.marks l.sums) l.rest.entries;
  bound : l.known ≤ l.a.cols;
  marked : (at : ℕ) → at < l.known → get_or l.marks at false ≡ true;
}

abbrev pub decreases-loop-line : goal.decreases-loop-line
decreases-loop-line l = length l.rest.entries
