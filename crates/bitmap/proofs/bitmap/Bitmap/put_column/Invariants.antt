use Rattle.std.proofs.Common.{◌≡◌, ℕ, take}
use Rattle.model.specs.Entries.{word_at}
use Rattle.bitmap.specs.Bitmaps.{entries_down}
use Rattle.bitmap.proofs.OverLaws.{over}
use Rattle.bitmap.proofs.bitmap.Bitmap.put_column.Given as goal

abbrev pub invariant-loop-k : goal.invariant-loop-k
invariant-loop-k l = record {
  content : (p q : ℕ) → word_at l.self.entries p q
      ≡ over (word_at (take l.k (entries_down l.rows l.words))) (word_at l.fn.self.entries) p q;
  rows : l.self.rows ≡ l.fn.self.rows;
  cols : l.self.cols ≡ l.fn.self.cols;
}
