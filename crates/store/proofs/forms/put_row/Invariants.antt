use Rattle.std.proofs.Common.{◌≡◌, ℕ, take}
use Rattle.bitmap.proofs.OverLaws.{over}
use Rattle.model.specs.Entries.{word_at}
use Rattle.store.specs.Fibers.{entries_along}
use Rattle.store.proofs.forms.put_row.Given as goal

abbrev pub invariant-loop-k : goal.invariant-loop-k
invariant-loop-k l = record {
  content : (i j : ℕ) → word_at l.bitmap.entries i j
      ≡ over (word_at (take l.k (entries_along l.row.index l.row.cols.now l.row.words.now))) (word_at l.fn.bitmap.entries) i j;
  rows : l.bitmap.rows ≡ l.fn.bitmap.rows;
  cols : l.bitmap.cols ≡ l.fn.bitmap.cols;
}
