-- Walks along the rows of a store: what is left of the map.
use Rattle.std.proofs.Common.{◌≡◌, ◌≢◌, ℕ, ◌+◌, ◌<◌, ◌≤◌, false, cond, ◌&&◌, ltb, List, [], ◌++◌, length, get_or, None, refl, sym, ◌∙◌, ap, subst, inl, inr, arith}
use Rattle.std.specs.List.{All}
use Rattle.std.proofs.lemmas.Bool.Decides.{nat_tests}
use Rattle.std.proofs.lemmas.Bool.{cases_lt, cases_Bool}
use Rattle.std.proofs.lemmas.List.{get_or_default}
use Rattle.std.proofs.lemmas.List.Elements.{All-weaker}
use Rattle.model.specs.declared.entry.Entry.{Entry}
use Rattle.model.specs.Entries.{InOrder, entries_between, entry_at, row_entries, word_at}
use Rattle.model.specs.Object.{Content, IsWithin}
use Rattle.store.specs.Fibers.{entries_along}
use Rattle.store.specs.Stored.{AreIn}
use Rattle.store.specs.Walks.{IsFirstRow}
use Rattle.shapes.specs.Rows.{IsRowOf, IsWalk}
use Rattle.store.proofs.Content.{word_at-in_row}
use Rattle.store.proofs.FlatLaws.{all_rows}
use Rattle.store.proofs.Order.{all_append_left, all_append_right}
use Rattle.store.proofs.Walks.{cols_rise}
use Rattle.store.proofs.PartLaws.{none_there, word_before, word_behind}
use Rattle.store.proofs.Places.{length_row, row_at}
use Rattle.store.proofs.RowEntries.{entries_between-inside, entries_between-row, row_entries-inside}
use Rattle.store.proofs.RowWords.{columns_rise, no_column, word_at-row_entries}

-- ---- words of rows

-- a map has nothing in columns behind its shape
pub only_inside : (rows cols : ℕ) (c : Content) (i j : ℕ) → IsWithin rows cols c
    → cond (ltb j cols) (c i j) None ≡ c i j
only_inside rows cols c i j within = elim (cases_Bool (ltb j cols)) [
  | inl inside ↦ rw inside refl
  | inr outside ↦ rw outside (sym (within i j (no_column (ltb i rows) (ltb j cols) outside)))
]

-- ---- a walk

pub walk_from : (c : Content) (rows cols first past : ℕ) (rest : List Entry) → IsWithin rows cols c
    → rest ≡ entries_between first past cols c → IsWalk c first past cols rest
walk_from c rows cols first past rest within is = record {
  inside = subst (AreIn first past cols) (sym is) (entries_between-inside first past cols c);
  words = λ i j low high.
      ap (λ es. word_at es i j) is
      ∙ sym (word_at-in_row i j (entries_between first past cols c))
      ∙ ap (λ es. word_at es i j) (entries_between-row first past cols c i low high)
      ∙ word_at-row_entries cols c i j ∙ only_inside rows cols c i j within;
}

-- the first row of a walk, and what is left behind it
pub record IsStep (c : Content) (next past cols index : ℕ) (cs ws : List ℕ) (others : List Entry) : Type 0 where
  pub low : next ≤ index
  pub high : index < past
  pub inside : All (λ col. col < cols) cs
  pub words : (j : ℕ) → word_at (entries_along index cs ws) index j ≡ c index j
  pub gap : (i j : ℕ) → next ≤ i → i < index → c i j ≡ None
  pub left : IsWalk c (index + 1) past cols others

-- what holds of the columns of a row's entries
cols_have : (P : ℕ → Type 0) (index : ℕ) (cs ws : List ℕ) → length ws ≡ length cs
    → All (λ e. P e.col) (entries_along index cs ws) → All P cs
cols_have P index cs ws lengths h k d within =
    let at = row_at index cs ws k (entry_at 0 0 0) lengths within in
    let here : P (get_or (entries_along index cs ws) k (entry_at 0 0 0)).col = h k (entry_at 0 0 0) (omega (arith, length_row index cs ws lengths)) in
    rw (get_or_default cs k d 0 within) (subst (λ (e : Entry). P e.col) at here)

pub walk_step : (c : Content) (next past cols index : ℕ) (cs ws : List ℕ) (rest others : List Entry)
    → IsWalk c next past cols rest → IsFirstRow index cs ws rest others → IsStep c next past cols index cs ws others
walk_step c next past cols index cs ws rest others here starts =
    let row = entries_along index cs ws in
    let all : AreIn next past cols (row ++ others) = subst (AreIn next past cols) starts.whole here.inside in
    let P : Entry → Type 0 = λ e. ((next ≤ e.row) × (e.row < past)) × (e.col < cols) in
    let ours = all_append_left P row others all in
    let theirs = all_append_right P row others all in
    let d = entry_at 0 0 0 in
    let some : 0 < length row = omega (arith, length_row index cs ws starts.lengths, starts.some) in
    let one : (get_or row 0 d).row ≡ index = all_rows index cs ws 0 d some in
    let first = ours 0 d some in
    let rows_are = all_rows index cs ws in
    let low : next ≤ index = subst (λ r. next ≤ r) one first.0.0 in
    let high : index < past = subst (λ r. r < past) one first.0.1 in
    let split = λ (i j : ℕ). ap (λ es. word_at es i j) starts.whole in
    record {
      low = low;
      high = high;
      inside = cols_have (λ col. col < cols) index cs ws starts.lengths (All-weaker P (λ (e : Entry). e.col < cols) (λ e p. p.1) row ours);
      words = λ j.
          sym (word_before index j row others (All-weaker (λ (e : Entry). index < e.row) (λ (e : Entry). index ≢ e.row) (λ e p q. omega arith) others starts.behind))
          ∙ sym (split index j) ∙ here.words index j low high;
      gap = λ i j from below.
          sym (here.words i j from (omega arith)) ∙ split i j
          ∙ word_behind i j row others (All-weaker (λ (e : Entry). e.row ≡ index) (λ (e : Entry). i ≢ e.row) (λ e p q. omega arith) row rows_are)
          ∙ none_there i j others (All-weaker (λ (e : Entry). index < e.row) (λ (e : Entry). i ≢ e.row) (λ e p q. omega arith) others starts.behind);
      left = record {
        inside = λ k d within. let a = theirs k d within in let b = starts.behind k d within in ((omega arith, a.0.1), a.1);
        words = λ i j from below.
            sym (word_behind i j row others (All-weaker (λ (e : Entry). e.row ≡ index) (λ (e : Entry). i ≢ e.row) (λ e p q. omega arith) row rows_are))
            ∙ sym (split i j) ∙ here.words i j (omega arith) below;
      };
    }

-- where nothing is left of a walk, the map has nothing in the rows behind it
pub walk_end : (c : Content) (next past cols : ℕ) (rest : List Entry) → IsWalk c next past cols rest → rest ≡ []
    → (i j : ℕ) → next ≤ i → i < past → c i j ≡ None
unfolding word_at
walk_end c next past cols rest here none i j low high = sym (here.words i j low high) ∙ ap (λ es. word_at es i j) none

-- ---- one row

-- the columns and words of a map's row
pub row_is : (rows cols : ℕ) (c : Content) (i : ℕ) (cs ws : List ℕ) → IsWithin rows cols c → length ws ≡ length cs
    → entries_along i cs ws ≡ row_entries cols c i → IsRowOf c i cols cs ws
row_is rows cols c i cs ws within lengths is = record {
  lengths = lengths;
  rising = cols_rise i cs ws lengths (subst InOrder (sym is) (columns_rise c i cols 0));
  inside = cols_have (λ col. col < cols) i cs ws lengths (subst (All (λ (e : Entry). e.col < cols)) (sym is) (All-weaker (λ (e : Entry). (e.row ≡ i) × (e.col < cols)) (λ (e : Entry). e.col < cols) (λ e p. p.1) (row_entries cols c i) (row_entries-inside cols c i)));
  words = λ j. ap (λ es. word_at es i j) is ∙ word_at-row_entries cols c i j ∙ only_inside rows cols c i j within;
}

-- ---- all rows

-- the words of all entries of a map
pub all_words : (rows cols : ℕ) (c : Content) (i j : ℕ) → IsWithin rows cols c
    → word_at (entries_between 0 rows cols c) i j ≡ c i j
all_words rows cols c i j within = elim (cases_lt i rows) [
  | inl inside ↦ (walk_from c rows cols 0 rows (entries_between 0 rows cols c) within refl).words i j (omega arith) inside
  | inr outside ↦
      let none : (ltb i rows && ltb j cols) ≡ false = let out : ltb i rows ≡ false = grind (arith, nat_tests) in rw out refl in
      none_there i j (entries_between 0 rows cols c) (All-weaker (λ (e : Entry). ((0 ≤ e.row) × (e.row < rows)) × (e.col < cols)) (λ (e : Entry). i ≢ e.row) (λ e p same. let less = p.0.1 in omega arith) (entries_between 0 rows cols c) (entries_between-inside 0 rows cols c))
      ∙ sym (within i j none)
]

-- what the first row of entries in some rows has, and those behind it
pub record IsInsideRow (first past cols index : ℕ) (cs : List ℕ) (others : List Entry) : Type 0 where
  pub low : first ≤ index
  pub high : index < past
  pub inside : All (λ col. col < cols) cs
  pub left : AreIn first past cols others

pub first_inside : (first past cols index : ℕ) (cs ws : List ℕ) (rest others : List Entry) → AreIn first past cols rest
    → IsFirstRow index cs ws rest others → IsInsideRow first past cols index cs others
first_inside first past cols index cs ws rest others inside starts =
    let row = entries_along index cs ws in
    let P : Entry → Type 0 = λ e. ((first ≤ e.row) × (e.row < past)) × (e.col < cols) in
    let all : All P (row ++ others) = subst (All P) starts.whole inside in
    let ours = all_append_left P row others all in
    let d = entry_at 0 0 0 in
    let some : 0 < length row = omega (arith, length_row index cs ws starts.lengths, starts.some) in
    let one : (get_or row 0 d).row ≡ index = all_rows index cs ws 0 d some in
    record {
      low = subst (λ r. first ≤ r) one (ours 0 d some).0.0;
      high = subst (λ r. r < past) one (ours 0 d some).0.1;
      inside = cols_have (λ col. col < cols) index cs ws starts.lengths (All-weaker P (λ (e : Entry). e.col < cols) (λ e p. p.1) row ours);
      left = all_append_right P row others all;
    }
