-- Entries put into a store with one column.
use Rattle.std.proofs.Common.{◌≡◌, ℕ, ◌+◌, ◌<◌, ◌≤◌, eqb, true, List, [], ◌∷◌, length, Option, Result, Ok, Err, OnOk, OnErr, refl, sym, ◌∙◌, ap, subst, arith}
use Rattle.std.specs.Option.{option_or}
use Rattle.std.proofs.lemmas.Bool.{eqb-true}
use Rattle.std.proofs.lemmas.Bool.Decides.{nat_tests}
use Rattle.std.proofs.lemmas.List.Elements.{All-nil, All-weaker}
use Rattle.model.specs.declared.entry.Entry.{Entry}
use Rattle.model.specs.declared.memory.NoMemory.{NoMemory}
use Rattle.model.specs.Entries.{InOrder, IsInside, word_at}
use Rattle.store.specs.declared.lists.FiberEnd.{FiberEnd}
use Rattle.store.specs.declared.lists.FiberLists.{FiberLists}
use Rattle.store.specs.Fibers.{AreFlat, Rises, end_at, entries_along, entries_from, entries_in, last_end, outers}
use Rattle.store.specs.Puts.{HasPut}
use Rattle.store.specs.Stored.{AreHeld, AreIn, along, transposed}
use Rattle.store.specs.Walks.{entries_down}
use Rattle.store.proofs.Contents.{as_column, down_rise, held_stored, in_inside, length_along, one_column, transposed_along}
use Rattle.store.proofs.FlatLaws.{row_in_order}
use Rattle.store.proofs.Order.{all_pairs_cons, all_pairs_nil}
use Rattle.store.proofs.Places.{length_placed, long_outers}
use Rattle.store.proofs.Walks.{one_fiber_is}

-- rows that rise are one fiber
pub column_held : (rows cols : ℕ) (ends : List FiberEnd) (inner words : List ℕ) → eqb cols 1 ≡ true
    → length words ≡ length inner → 0 < length inner → ends ≡ end_at 0 (length inner) ∷ []
    → InOrder (entries_down inner words) → IsInside rows cols (entries_down inner words)
    → AreHeld 0 rows cols ends inner words × (along cols (entries_from 0 ends inner words) ≡ entries_down inner words)
unfolding Rises last_end
column_held rows cols ends inner words one same some is order inside =
    let fibers = end_at 0 (length inner) ∷ [] in
    let all : entries_from 0 fibers inner words ≡ entries_along 0 inner words = one_fiber_is inner words in
    let rising = down_rise inner words same order in
    let down : along cols (entries_from 0 fibers inner words) ≡ entries_down inner words = as_column cols (entries_from 0 fibers inner words) one ∙ ap transposed all ∙ transposed_along inner words in
    let sum : length inner ≡ 0 + length inner = omega arith in
    rw is (
      record {
        flat = record {
          same_length = same;
          rises = (some, tt);
          whole = sum;
          apart = all_pairs_cons (λ (r s : FiberEnd). r.outer < s.outer) (end_at 0 (length inner)) [] (All-nil (λ (s : FiberEnd). 0 < s.outer)) (all_pairs_nil (λ (r s : FiberEnd). r.outer < s.outer));
          order = subst InOrder (sym all) (row_in_order 0 inner words rising);
        };
        inside = subst (AreIn 0 rows cols) (sym down) (All-weaker (λ e. (e.row < rows) × (e.col < cols)) (λ e. ((0 ≤ e.row) × (e.row < rows)) × (e.col < cols)) (λ e p. ((omega arith, p.0), p.1)) (entries_down inner words) inside);
      },
      down,
    )

-- there are as many entries as inner indices
pub length_held : (cols : ℕ) (ends : List FiberEnd) (inner words : List ℕ) → AreFlat ends inner words
    → length (along cols (entries_from 0 ends inner words)) ≡ length inner
length_held cols ends inner words flat =
    let long = long_outers ends inner words flat in
    length_along cols (entries_from 0 ends inner words) ∙ length_placed (outers 0 ends) inner words long.0 long.1 ∙ sym long.0

-- nothing put leaves all as it is
pub none_put_words : (put : List Entry) (old : Option ℕ) (i j : ℕ) → eqb (length put) 0 ≡ true
    → old ≡ option_or (word_at put i j) old
unfolding word_at
none_put_words [] old i j none = refl
none_put_words (e ∷ put) old i j none = absurd (let is = eqb-true (length (e ∷ put)) 0 none in omega arith)

-- what a store with one column holds with the entries of a block put into it
pub record IsPutIn (rows cols block_cols : ℕ) (old block new : FiberLists) (r : Result (Unit {0}) NoMemory) : Type 0 where
  pub held : AreHeld 0 rows cols new.ends.items new.inner.items new.words.items
  pub words : OnOk r ((i j : ℕ) → word_at (along cols (entries_in new)) i j
      ≡ option_or (word_at (along block_cols (entries_in block)) i j) (word_at (along cols (entries_in old)) i j))

pub column_put : (rows cols first past block_cols : ℕ) (old block new : FiberLists) (r : Result (Unit {0}) NoMemory)
    → cols ≡ 1 → block_cols ≡ 1 → past ≤ rows → AreHeld 0 rows cols old.ends.items old.inner.items old.words.items
    → AreHeld first past block_cols block.ends.items block.inner.items block.words.items
    → OnOk r (new.ends.items ≡ end_at 0 (length new.inner.items) ∷ [])
    → OnOk r (length new.words.items ≡ length new.inner.items) → OnOk r (0 < length new.inner.items)
    → OnOk r (HasPut (entries_down block.inner.items block.words.items) (entries_down old.inner.items old.words.items) (entries_down new.inner.items new.words.items))
    → OnErr r ((new.ends.items ≡ old.ends.items) × (new.inner.items ≡ old.inner.items) × (new.words.items ≡ old.words.items))
    → IsPutIn rows cols block_cols old block new r
column_put rows cols first past block_cols old block new (Err e) one block_one high held block_held ends same some put refused =
    record { held = rw (refused.0, refused.1, refused.2) held; words = tt }
column_put rows cols first past block_cols old block new (Ok u) one block_one high held block_held ends same some put refused =
    let is : eqb cols 1 ≡ true = grind (arith, nat_tests) in
    let block_is : eqb block_cols 1 ≡ true = grind (arith, nat_tests) in
    let olds = one_column 0 rows cols old.ends.items old.inner.items old.words.items is held in
    let blocks = one_column first past block_cols block.ends.items block.inner.items block.words.items block_is block_held in
    let old_in : IsInside rows cols (entries_down old.inner.items old.words.items) = subst (IsInside rows cols) olds.down (held_stored rows cols old.ends.items old.inner.items old.words.items held).inside in
    let part : IsInside past block_cols (entries_down block.inner.items block.words.items) = subst (IsInside past block_cols) blocks.down (in_inside first past block_cols (along block_cols (entries_in block)) block_held.inside) in
    let block_in : IsInside rows cols (entries_down block.inner.items block.words.items) = All-weaker (λ e. (e.row < past) × (e.col < block_cols)) (λ e. (e.row < rows) × (e.col < cols)) (λ e p. let row = p.0 in let col = p.1 in (omega arith, omega arith)) (entries_down block.inner.items block.words.items) part in
    let new_held = column_held rows cols new.ends.items new.inner.items new.words.items is same some ends put.order (put.inside rows cols block_in old_in) in
    record { held = new_held.0; words = λ i j. rw (new_held.1, blocks.down, olds.down) (put.words i j) }
