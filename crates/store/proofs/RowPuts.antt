-- The rows of a bitmap: put into it, and gathered from it.
use Rattle.std.proofs.Common.{◌≡◌, ℕ, zero, suc, ◌+◌, ◌<◌, false, eqb, ◌&&◌, List, [], ◌∷◌, ◌++◌, length, map, get_or, take, None, refl, sym, subst, ◌∙◌, ap, inl, inr, arith}
use Rattle.std.specs.List.{All, AllPairs, cons_option, filter_map, flat_map}
use Rattle.std.specs.Option.{option_map}
use Rattle.std.proofs.lemmas.Bool.{cases_eq}
use Rattle.std.proofs.lemmas.Bool.Decides.{nat_tests}
use Rattle.std.proofs.lemmas.Grind.{flat_map-append}
use Rattle.std.proofs.lemmas.List.{append-nil, length-map, take_more}
use Rattle.std.proofs.lemmas.List.Elements.{All-head, All-tail, All-weaker, filter_map-append}
use Rattle.bitmap.specs.Bitmaps.{row_part}
use Rattle.bitmap.proofs.OverLaws.{over, over_more}
use Rattle.bitmap.proofs.WordLaws.{append_left, append_right, word_at-none}
use Rattle.model.specs.declared.entry.Entry.{Entry}
use Rattle.model.specs.Entries.{InOrder, IsInside, count_from, entry_at, row_entries, word_at}
use Rattle.model.specs.Object.{Content, with_entry}
use Rattle.store.specs.declared.lists.FiberEnd.{FiberEnd}
use Rattle.store.specs.Fibers.{AreFlat, entries_along, entries_from}
use Rattle.store.proofs.CloseLaws.{closed, close_fiber}
use Rattle.store.proofs.Order.{all_take}
use Rattle.store.proofs.Places.{length_row, row_at}
use Rattle.store.proofs.RowEntries.{row_entries-inside}
use Rattle.store.proofs.RowWords.{columns_rise}
use Rattle.store.proofs.Walks.{cols_rise}

-- ---- rows put over a map

-- columns rise, so that the next entry of a row isn't one of those before
next_absent : (i : ℕ) (cs ws : List ℕ) (k : ℕ) → length ws ≡ length cs → AllPairs (λ a b. a < b) cs → k < length cs
    → word_at (take k (entries_along i cs ws)) i (get_or cs k 0) ≡ None
next_absent i cs ws k same rising within =
    let es = entries_along i cs ws in
    word_at-none i (get_or cs k 0) (take k es)
    (all_take (λ e. (eqb i e.row && eqb (get_or cs k 0) e.col) ≡ false) k es
    (λ n d low high.
    let is = row_at i cs ws n d same (omega arith) in
    let less : get_or cs n 0 < get_or cs k 0 = rising n k 0 high within in
    let col : (get_or es n d).col ≡ get_or cs n 0 = ap (λ (e : Entry). e.col) is in
    grind (arith, nat_tests)))

pub next_put : (old : Content) (i : ℕ) (cs ws : List ℕ) (k p q : ℕ) → length ws ≡ length cs
    → AllPairs (λ a b. a < b) cs → k < length cs
    → with_entry (over (word_at (take k (entries_along i cs ws))) old) i (get_or cs k 0) (get_or ws k 0) p q
    ≡ over (word_at (take (k + 1) (entries_along i cs ws))) old p q
next_put old i cs ws k p q same rising within =
    let e = entry_at i (get_or cs k 0) (get_or ws k 0) in
    let es = entries_along i cs ws in
    let long = length_row i cs ws same in
    let more : take (k + 1) es ≡ take k es ++ e ∷ [] = take_more es k e (omega arith) ∙ ap (λ x. take k es ++ x ∷ []) (row_at i cs ws k e same within) in
    over_more old (take k es) e p q (next_absent i cs ws k same rising within) ∙ ap (λ es. over (word_at es) old p q) (sym more)

-- each entry of a row lies in a shape in which the row does
pub place_in : (rows cols i : ℕ) (cs ws : List ℕ) (k : ℕ) → length ws ≡ length cs → k < length cs
    → IsInside rows cols (entries_along i cs ws) → (i < rows) × (get_or cs k 0 < cols)
place_in rows cols i cs ws k same within inside =
    let e = entry_at i (get_or cs k 0) (get_or ws k 0) in
    let long = length_row i cs ws same in
    rw (row_at i cs ws k e same within) at (inside k e (omega arith))

-- a row and the rows behind it have no position in common
pub rows_put : (old : Content) (index : ℕ) (xs ys : List Entry) (p q : ℕ) → All (λ e. e.row ≡ index) xs
    → All (λ e. index < e.row) ys
    → over (word_at ys) (over (word_at xs) old) p q ≡ over (word_at (xs ++ ys)) old p q
rows_put old index xs ys p q here behind =
    elim (cases_eq p index) [
      | inl same ↦
          let none : word_at ys p q ≡ None = word_at-none p q ys (All-weaker (λ e. index < e.row) (λ e. (eqb p e.row && eqb q e.col) ≡ false) (λ e less. grind (arith, nat_tests)) ys behind) in
          rw (none, append_right p q xs ys none) refl
      | inr away ↦
          let none : word_at xs p q ≡ None = word_at-none p q xs (All-weaker (λ e. e.row ≡ index) (λ e. (eqb p e.row && eqb q e.col) ≡ false) (λ e is. grind (arith, nat_tests)) xs here) in
          rw (none, append_left p q xs ys none) refl
    ]

-- ---- rows gathered

counted_more : (first n : ℕ) → count_from first (suc n) ≡ count_from first n ++ (first + n) ∷ []
unfolding count_from
counted_more first zero = let at : first + 0 ≡ first = omega arith in rw at refl
counted_more first (suc n) = let at : first + 1 + n ≡ first + suc n = omega arith in ap (λ xs. first ∷ xs) (rw at at (counted_more (first + 1) n))

next_number : (n : ℕ) → count_from 0 (n + 1) ≡ count_from 0 n ++ n ∷ []
next_number n = let next : n + 1 ≡ suc n = omega arith in let at : 0 + n ≡ n = omega arith in rw next (rw at at (counted_more 0 n))

-- the entries of a row with one column more
pub next_column : (c : Content) (i j : ℕ)
    → row_part c i 0 (j + 1) ≡ row_part c i 0 j ++ cons_option (option_map (entry_at i j) (c i j)) []
next_column c i j =
    ap (filter_map (λ k. option_map (entry_at i k) (c i k))) (next_number j)
    ∙ filter_map-append (λ k. option_map (entry_at i k) (c i k)) (count_from 0 j) (j ∷ [])

-- the columns and the words of entries of one row are that row
along_row : (i : ℕ) (es : List Entry) → All (λ e. e.row ≡ i) es
    → entries_along i (map (λ (e : Entry). e.col) es) (map (λ (e : Entry). e.word) es) ≡ es
along_row i [] here = refl
along_row i (e ∷ es) here =
    let first : e.row ≡ i = All-head (λ (e : Entry). e.row ≡ i) e es here in
    let same : entry_at i e.col e.word ≡ e = ap (λ r. entry_at r e.col e.word) (sym first) in
    rw (same, along_row i es (All-tail (λ (e : Entry). e.row ≡ i) e es here)) refl

-- lists with the rows of a map below some row
pub record HaveRows (cols : ℕ) (c : Content) (i : ℕ) (ends : List FiberEnd) (inner words : List ℕ) : Type 0 where
  pub flat : AreFlat ends inner words
  pub entries : entries_from 0 ends inner words ≡ flat_map (row_entries cols c) (count_from 0 i)
  pub below : All (λ r. r.outer < i) ends

pub next_row : (cols : ℕ) (c : Content) (i : ℕ) (ends : List FiberEnd) (inner words : List ℕ)
    → HaveRows cols c i ends inner words
    → let row = row_entries cols c i in
    let inner' = inner ++ map (λ (e : Entry). e.col) row in
    HaveRows cols c (i + 1) (closed ends i (length inner')) inner' (words ++ map (λ (e : Entry). e.word) row)
next_row cols c i ends inner words have =
    let row = row_entries cols c i in
    let cs = map (λ (e : Entry). e.col) row in
    let ws = map (λ (e : Entry). e.word) row in
    let same : length ws ≡ length cs = length-map row (λ (e : Entry). e.word) ∙ sym (length-map row (λ (e : Entry). e.col)) in
    let here : All (λ e. e.row ≡ i) row = All-weaker (λ e. (e.row ≡ i) × (e.col < cols)) (λ e. e.row ≡ i) (λ e p. p.0) row (row_entries-inside cols c i) in
    let is : entries_along i cs ws ≡ row = along_row i row here in
    let order : InOrder (entries_along i cs ws) = subst InOrder (sym is) (columns_rise c i cols 0) in
    let made = close_fiber ends inner words i cs ws have.flat have.below same (cols_rise i cs ws same order) in
    record {
      flat = made.flat;
      entries = made.entries ∙ rw (have.entries, is) (sym (ap (flat_map (row_entries cols c)) (next_number i) ∙ flat_map-append (row_entries cols c) (count_from 0 i) (i ∷ []) ∙ ap (λ es. flat_map (row_entries cols c) (count_from 0 i) ++ es) (append-nil row)));
      below = made.outers_are (λ outer. outer < i + 1) (All-weaker (λ (r : FiberEnd). r.outer < i) (λ (r : FiberEnd). r.outer < i + 1) (λ r less. omega arith) ends have.below) (omega arith);
    }
