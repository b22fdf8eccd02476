use Rattle.std.proofs.Common.{◌≡◌, ℕ, length}
use Rattle.bitmap.proofs.OverLaws.{over}
use Rattle.model.specs.Entries.{IsInside, word_at}
use Rattle.store.proofs.forms.put_rows.Given as goal

abbrev pub invariant-loop-row : goal.invariant-loop-row
invariant-loop-row l = record {
  content : (i j : ℕ) → over (word_at l.rest.entries) (word_at l.bitmap.entries) i j
      ≡ over (word_at l.fn.rows.entries) (word_at l.fn.bitmap.entries) i j;
  inside : IsInside l.fn.bitmap.rows l.fn.bitmap.cols l.rest.entries;
  rows : l.bitmap.rows ≡ l.fn.bitmap.rows;
  cols : l.bitmap.cols ≡ l.fn.bitmap.cols;
}

abbrev pub decreases-loop-row : goal.decreases-loop-row
decreases-loop-row l = length l.rest.entries
