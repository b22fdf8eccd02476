use Rattle.std.proofs.Common.{◌≡◌, ◌*◌, ◌++◌}
use Rattle.bitmap.specs.Bitmaps.{column_entries, word_in}
use Rattle.bitmap.proofs.column.ColumnLists.gather.Given as goal

abbrev pub invariant-loop-at : goal.invariant-loop-at
invariant-loop-at l = record {
  entries : l.self.entries ≡ l.fn.self.entries ++ column_entries (word_in l.bits l.words) 0 (64 * l.at);
  room : l.self.room ≡ l.fn.self.room;
}
