use Rattle.std.proofs.Common.{◌≡◌, ◌+◌, ◌≤◌, ◌*◌, ◌++◌, ℕ, map}
use Rattle.std.specs.Prelude.{count_ones}
use Rattle.std.specs.Vec.{vec_len, vec_capacity}
use Rattle.lanes.proofs.BitLaws.{AreLeft, higher}
use Rattle.bitmap.specs.Bitmaps.{row_part}
use Rattle.model.specs.declared.entry.Entry.{Entry}
use Rattle.model.specs.Entries.{word_at}
use Rattle.store.proofs.forms.append_part.Given as goal

abbrev pub invariant-loop-left : goal.invariant-loop-left
invariant-loop-left l = record {
  p : ℕ;
  are_left : AreLeft l.bits l.left p;
  ends : l.lists.ends ≡ l.initial.lists.ends;
  inner : l.lists.inner.items ≡ l.initial.lists.inner.items
      ++ map (λ (e : Entry). e.col) (row_part (word_at l.bitmap.entries) l.i (64 * l.part) p);
  words : l.lists.words.items ≡ l.initial.lists.words.items
      ++ map (λ (e : Entry). e.word) (row_part (word_at l.bitmap.entries) l.i (64 * l.part) p);
  inner_room : vec_len l.lists.inner + count_ones (higher p l.bits) ≤ vec_capacity l.lists.inner;
  words_room : vec_len l.lists.words + count_ones (higher p l.bits) ≤ vec_capacity l.lists.words;
}

abbrev pub decreases-loop-left : goal.decreases-loop-left
decreases-loop-left l = l.left
