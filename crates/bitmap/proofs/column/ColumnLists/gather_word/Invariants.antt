use Rattle.std.proofs.Common.{◌≡◌, ◌*◌, ◌++◌, ℕ, get_or}
use Rattle.lanes.proofs.BitLaws.{AreLeft}
use Rattle.bitmap.specs.Bitmaps.{column_entries, word_in}
use Rattle.bitmap.proofs.column.ColumnLists.gather_word.Given as goal

abbrev pub invariant-loop-left : goal.invariant-loop-left
invariant-loop-left l = record {
  p : ℕ;
  are_left : AreLeft (get_or l.bits l.at 0) l.left p;
  entries : l.self.entries ≡ l.fn.self.entries ++ column_entries (word_in l.bits l.words) (64 * l.at) p;
  room : l.self.room ≡ l.fn.self.room;
}

abbrev pub decreases-loop-left : goal.decreases-loop-left
decreases-loop-left l = l.left
