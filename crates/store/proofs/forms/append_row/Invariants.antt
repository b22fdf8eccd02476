use Rattle.std.proofs.Common.{◌≡◌, ◌*◌, ◌++◌, map}
use Rattle.bitmap.specs.Bitmaps.{row_part}
use Rattle.model.specs.declared.entry.Entry.{Entry}
use Rattle.model.specs.Entries.{word_at}
use Rattle.store.proofs.forms.append_row.Given as goal

abbrev pub invariant-loop-part : goal.invariant-loop-part
invariant-loop-part l = record {
  ends : l.lists.ends ≡ l.fn.lists.ends;
  inner : l.lists.inner.items ≡ l.fn.lists.inner.items
      ++ map (λ (e : Entry). e.col) (row_part (word_at l.bitmap.entries) l.i 0 (64 * l.part));
  words : l.lists.words.items ≡ l.fn.lists.words.items
      ++ map (λ (e : Entry). e.word) (row_part (word_at l.bitmap.entries) l.i 0 (64 * l.part));
}
