-- What rows have at listed columns, collected by the places of the columns.
use Rattle.std.proofs.Common.{◌≡◌, ◌≢◌, ℕ, ◌+◌, ◌<◌, ◌≤◌, true, cond, eqb, ltb, ◌&&◌, List, [], ◌∷◌, ◌++◌, length, map, take, get_or, false, Option, Some, None, refl, sym, ◌∙◌, ap, inl, inr, arith, append_assoc, slice_get}
use Rattle.std.specs.Option.{option_and_then}
use Rattle.std.specs.List.{All, flat_map}
use Rattle.std.specs.List.Sorted.{IsPermutation}
use Rattle.std.proofs.lemmas.Bool.{cases_Bool, cases_eq, cases_lt, eq-eqb, eqb-true, ne_eqb}
use Rattle.std.proofs.lemmas.Bool.Decides.{nat_tests}
use Rattle.std.proofs.lemmas.List.{append-nil, take_more}
use Rattle.std.proofs.lemmas.List.Elements.{All-append, All-cons, All-head, All-map, All-nil, All-tail, All-weaker}
use Rattle.std.proofs.lemmas.List.Concat.{flat_map-append}
use Rattle.std.proofs.lemmas.List.Sorted.{All-permutation, IsPermutation-sym}
use Rattle.std.proofs.lemmas.Option.{get_or_from_slice_get, none-some, slice_get-get_or, slice_get_within}
use Rattle.model.specs.declared.entry.Entry.{Entry}
use Rattle.model.specs.Entries.{entry_at, row_entries, word_at}
use Rattle.model.specs.Object.{Content}
use Rattle.store.specs.Fibers.{entries_along}
use Rattle.store.specs.Stored.{AreIn}
use Rattle.store.specs.Walks.{IsFirstRow}
use Rattle.store.proofs.FlatLaws.{all_rows, row_in_order}
use Rattle.store.proofs.Positions.{word_at-here, word_at-none}
use Rattle.store.proofs.RowEntries.{row_entries-inside}
use Rattle.shapes.specs.Collects.{IsCollected, collected, index_content}
use Rattle.shapes.specs.Rows.{IsRowOf, IsWalk}
use Rattle.shapes.proofs.Gathering.{AreOf, and_both, order_of}
use Rattle.shapes.proofs.Going.{StaysEmpty}
use Rattle.shapes.proofs.PlaceLaws.{behind_none}
use Rattle.shapes.proofs.RowWords.{same_words}
use Rattle.shapes.proofs.Walked.{walk_end, walk_step}
use Rattle.store.proofs.RowWords.{columns_rise, word_at-row_entries}

-- ---- words of entries one behind the other

none_left : (i j : ℕ) (xs ys : List Entry) → word_at (xs ++ ys) i j ≡ None → word_at xs i j ≡ None
unfolding word_at
none_left i j [] ys none = refl
none_left i j (x ∷ xs) ys none = elim (cases_Bool (eqb i x.row && eqb j x.col)) [
  | inl at ↦ absurd (none-some x.word (sym none ∙ word_at-here i j x (xs ++ ys) at))
  | inr away ↦ rw away (none_left i j xs ys (behind_none i j x (xs ++ ys) none))
]

none_right : (i j : ℕ) (xs ys : List Entry) → word_at (xs ++ ys) i j ≡ None → word_at ys i j ≡ None
none_right i j [] ys none = none
none_right i j (x ∷ xs) ys none = none_right i j xs ys (behind_none i j x (xs ++ ys) none)

none_all : (i j : ℕ) (es : List Entry) → word_at es i j ≡ None
    → All (λ e. (eqb i e.row && eqb j e.col) ≡ false) es
none_all i j [] none = All-nil (λ e. (eqb i e.row && eqb j e.col) ≡ false)
none_all i j (e ∷ es) none = elim (cases_Bool (eqb i e.row && eqb j e.col)) [
  | inl at ↦ absurd (none-some e.word (sym none ∙ word_at-here i j e es at))
  | inr away ↦ All-cons (λ e. (eqb i e.row && eqb j e.col) ≡ false) e es away (none_all i j es (behind_none i j e es none))
]

-- ---- places of columns

-- a store has the places of columns
pub record HasPlaces (cols : List ℕ) (n : ℕ) (places : Content) : Type 0 where
  pub fits : n ≡ length cols
  pub agree : (i j : ℕ) → places i j ≡ index_content cols i j

column_of : (o : Option ℕ) (col word : ℕ) → option_and_then (λ c. cond (eqb c col) (Some 0) None) o ≡ Some word
    → o ≡ Some col
column_of None col word is = absurd (none-some word is)
column_of (Some c) col word is = elim (cases_Bool (eqb c col)) [
  | inl same ↦ ap (λ c. Some c) (eqb-true c col same)
  | inr other ↦ absurd (none-some word (rw other at is))
]

-- each entry of a row of a map is one of it
row_are : (cols : ℕ) (c : Content) (i : ℕ) → All (λ s. (s.col < cols) × (c i s.col ≡ Some s.word))
    (row_entries cols c i)
row_are cols c i = λ k d within.
    let s = get_or (row_entries cols c i) k d in
    let at = row_entries-inside cols c i k d within in
    let less = at.1 in
    let is : word_at (row_entries cols c i) s.row s.col ≡ Some s.word = order_of (row_entries cols c i) (columns_rise c i cols 0) k d within in
    let in_it : ltb s.col cols ≡ true = grind (arith, nat_tests) in
    let there : cond (ltb s.col cols) (c i s.col) None ≡ Some s.word = sym (word_at-row_entries cols c i s.col) ∙ ap (λ r. word_at (row_entries cols c i) r s.col) (sym at.0) ∙ is in
    (less, rw in_it at there)

empty : (xs : List Entry) (P : Entry → Type 0) → ((x : Entry) → P x → ⊥) → All P xs → xs ≡ []
empty [] P none all = refl
empty (x ∷ xs) P none all = absurd (none x (All-head P x xs all))

-- a column that isn't listed has no place
pub no_places : (cols : List ℕ) (n : ℕ) (places : Content) (col : ℕ)
    → ((i j : ℕ) → places i j ≡ index_content cols i j) → ((k : ℕ) → k < length cols → get_or cols k 0 ≢ col)
    → row_entries n places col ≡ []
no_places cols n places col agree other =
    empty (row_entries n places col) (λ s. (s.col < n) × (places col s.col ≡ Some s.word))
    (λ s p.
    let at : slice_get cols s.col ≡ Some col = column_of (slice_get cols s.col) col s.word (sym (agree col s.col) ∙ p.1) in
    other s.col (slice_get_within cols s.col col at) (get_or_from_slice_get cols s.col col 0 at))
    (row_are n places col)

-- ---- one row

-- the map of a row's words at listed columns
abbrev pub at_columns : Content → ℕ → List ℕ → ℕ → Option ℕ
at_columns source row cols j = option_and_then (source row) (slice_get cols j)

-- each entry that is collected of a row is one of the map
collected_are : (source made : Content) (row index n : ℕ) (places : Content) (cols : List ℕ) (es : List Entry)
    → HasPlaces cols n places → ((j : ℕ) → made index j ≡ at_columns source row cols j)
    → All (λ e. source row e.col ≡ Some e.word) es
    → AreOf made (collected index n places es)
collected_are source made row index n places cols [] has is are = All-nil (λ e. made e.row e.col ≡ Some e.word)
collected_are source made row index n places cols (e ∷ es) has is are =
    let Q : Entry → Type 0 = λ e. made e.row e.col ≡ Some e.word in
    let here = All-head (λ e. source row e.col ≡ Some e.word) e es are in
    All-append Q (map (λ (s : Entry). entry_at index s.col e.word) (row_entries n places e.col)) (collected index n places es)
    (All-map Q (λ (s : Entry). entry_at index s.col e.word) (row_entries n places e.col)
    (All-weaker (λ (s : Entry). (s.col < n) × (places e.col s.col ≡ Some s.word)) (λ (s : Entry). made index s.col ≡ Some e.word)
    (λ s p. is s.col ∙ ap (option_and_then (source row)) (column_of (slice_get cols s.col) e.col s.word (sym (has.agree e.col s.col) ∙ p.1)) ∙ here) (row_entries n places e.col) (row_are n places e.col)))
    (collected_are source made row index n places cols es has is (All-tail (λ e. source row e.col ≡ Some e.word) e es are))

collected_inside : (first past index n : ℕ) (places : Content) (es : List Entry) → first ≤ index → index < past
    → AreIn first past n (collected index n places es)
collected_inside first past index n places [] low high = All-nil (λ (e : Entry). ((first ≤ e.row) × (e.row < past)) × (e.col < n))
collected_inside first past index n places (e ∷ es) low high =
    let Q : Entry → Type 0 = λ e. ((first ≤ e.row) × (e.row < past)) × (e.col < n) in
    All-append Q (map (λ (s : Entry). entry_at index s.col e.word) (row_entries n places e.col)) (collected index n places es)
    (All-map Q (λ (s : Entry). entry_at index s.col e.word) (row_entries n places e.col)
    (All-weaker (λ (s : Entry). (s.row ≡ e.col) × (s.col < n)) (λ (s : Entry). ((first ≤ index) × (index < past)) × (s.col < n)) (λ s p. ((low, high), p.1)) (row_entries n places e.col) (row_entries-inside n places e.col)))
    (collected_inside first past index n places es low high)

put_there : (index i j w : ℕ) (ss : List Entry)
    → word_at (map (λ (s : Entry). entry_at index s.col w) ss) index j ≡ None → word_at ss i j ≡ None
unfolding word_at
put_there index i j w [] none = refl
put_there index i j w (s ∷ ss) none =
    let put = entry_at index s.col w in
    let rest = map (λ (s : Entry). entry_at index s.col w) ss in
    elim (cases_Bool (eqb i s.row && eqb j s.col)) [
      | inl at ↦ absurd (none-some w (sym none ∙ word_at-here index j put rest (rw (eq-eqb index index refl, (and_both (eqb i s.row) (eqb j s.col) at).1) refl)))
      | inr away ↦ rw away (put_there index i j w ss (behind_none index j put rest none))
    ]

-- a column that is listed and not collected is not in the row
not_collected : (index n j col : ℕ) (places : Content) (cols : List ℕ) (es : List Entry) → HasPlaces cols n places
    → slice_get cols j ≡ Some col → word_at (collected index n places es) index j ≡ None → word_at es 0 col ≡ None
unfolding word_at
not_collected index n j col places cols [] has at none = refl
not_collected index n j col places cols (e ∷ es) has at none =
    let row = map (λ (s : Entry). entry_at index s.col e.word) (row_entries n places e.col) in
    let rest = collected index n places es in
    elim (cases_Bool (eqb 0 e.row && eqb col e.col)) [
      | inl here ↦
          let same : col ≡ e.col = eqb-true col e.col (and_both (eqb 0 e.row) (eqb col e.col) here).1 in
          let within = slice_get_within cols j col at in
          let fits = has.fits in
          let in_it : ltb j n ≡ true = grind (arith, nat_tests) in
          let place : places e.col j ≡ Some 0 = has.agree e.col j ∙ rw at (rw (eq-eqb col e.col same) refl) in
          let found : word_at (row_entries n places e.col) e.col j ≡ Some 0 = word_at-row_entries n places e.col j ∙ rw in_it place in
          absurd (none-some 0 (sym (put_there index e.col j e.word (row_entries n places e.col) (none_left index j row rest none)) ∙ found))
      | inr away ↦ rw away (not_collected index n j col places cols es has at (none_right index j row rest none))
    ]

at_none : (source : Content) (row : ℕ) (o : Option ℕ) → ((col : ℕ) → o ≡ Some col → source row col ≡ None)
    → option_and_then (source row) o ≡ None
at_none source row None h = refl
at_none source row (Some col) h = h col refl

-- ---- row by row

pub collected_none : (made : Content) (first past n : ℕ) (es : List Entry) → es ≡ []
    → IsCollected made first first past n es
collected_none made first past n es none = rw none (record {
  low = omega arith;
  are = All-nil (λ (e : Entry). made e.row e.col ≡ Some e.word);
  inside = All-nil (λ (e : Entry). ((first ≤ e.row) × (e.row < past)) × (e.col < n));
  whole = λ i j low high. absurd (omega arith);
})

pub collected_skip : (made : Content) (first next row past n : ℕ) (es : List Entry)
    → IsCollected made first next past n es → next ≤ row → ((i j : ℕ) → next ≤ i → i < row → made i j ≡ None)
    → IsCollected made first row past n es
collected_skip made first next row past n es here up empty =
    let start = here.low in
    record {
      low = omega arith;
      are = here.are;
      inside = here.inside;
      whole = λ i j low high none. elim (cases_lt i next) [
        | inl before ↦ here.whole i j low before none
        | inr behind ↦ empty i j behind high
      ];
    }

pub collected_more : (source made : Content) (first index past row size n : ℕ) (places : Content) (cols cs ws : List ℕ)
    (es : List Entry) → HasPlaces cols n places → index < past → IsRowOf source row size cs ws
    → ((j : ℕ) → made index j ≡ at_columns source row cols j)
    → IsCollected made first index past n es
    → IsCollected made first (index + 1) past n (es ++ collected index n places (entries_along 0 cs ws))
collected_more source made first index past row size n places cols cs ws es has high here is done =
    let start = done.low in
    let fs = entries_along 0 cs ws in
    let words = λ (col : ℕ). same_words 0 row col cs ws ∙ here.words col in
    let each : All (λ (e : Entry). source row e.col ≡ Some e.word) fs = λ k d within.
    let zero_is = all_rows 0 cs ws k d within in
    let at = order_of fs (row_in_order 0 cs ws here.rising) k d within in
    sym (words (get_or fs k d).col) ∙ ap (λ i. word_at fs i (get_or fs k d).col) (sym zero_is) ∙ at in
    record {
      low = omega arith;
      are = All-append (λ (e : Entry). made e.row e.col ≡ Some e.word) es (collected index n places fs) done.are (collected_are source made row index n places cols fs has is each);
      inside = All-append (λ (e : Entry). ((first ≤ e.row) × (e.row < past)) × (e.col < n)) es (collected index n places fs) done.inside (collected_inside first past index n places fs start high);
      whole = λ i j low less none. elim (cases_eq i index) [
        | inl same ↦
            let none' : word_at (collected index n places fs) index j ≡ None = ap (λ i. word_at (collected index n places fs) i j) (sym same) ∙ none_right i j es (collected index n places fs) none in
            ap (λ i. made i j) same ∙ is j ∙ at_none source row (slice_get cols j) (λ col at. sym (words col) ∙ not_collected index n j col places cols fs has at none')
        | inr other ↦ done.whole i j low (omega arith) (none_left i j es (collected index n places fs) none)
      ];
    }

-- entries in another order are as many
pub permuted : (made : Content) (first next past n : ℕ) (es fs : List Entry) → IsPermutation es fs
    → IsCollected made first next past n es → IsCollected made first next past n fs
permuted made first next past n es fs is done = record {
  low = done.low;
  are = All-permutation (λ (e : Entry). made e.row e.col ≡ Some e.word) es fs is done.are;
  inside = All-permutation (λ (e : Entry). ((first ≤ e.row) × (e.row < past)) × (e.col < n)) es fs is done.inside;
  whole = λ i j low less none.
      let away = λ (e : Entry). (eqb i e.row && eqb j e.col) ≡ false in
      let others : All away es = All-permutation away fs es (IsPermutation-sym es fs is) (none_all i j fs none) in
      done.whole i j low less (word_at-none i j es others);
}

-- ---- along a walk

pub record IsCollecting (source made : Content) (first past size n : ℕ) (rest es : List Entry) : Type 0 where
  pub next : ℕ
  pub high : next ≤ past
  pub done : IsCollected made first next past n es
  pub walk : IsWalk source next past size rest

pub collecting_from : (source made : Content) (first past size n : ℕ) (rest es : List Entry) → first ≤ past
    → IsWalk source first past size rest → es ≡ [] → IsCollecting source made first past size n rest es
collecting_from source made first past size n rest es up walk none = record {
  next = first;
  high = up;
  done = collected_none made first past n es none;
  walk = walk;
}

pub collecting_more : (source made : Content) (first past size n index : ℕ) (places : Content) (cols cs ws : List ℕ)
    (rest others es : List Entry) → StaysEmpty source made → HasPlaces cols n places
    → IsFirstRow index cs ws rest others → ((j : ℕ) → index < past → made index j ≡ at_columns source index cols j)
    → IsCollecting source made first past size n rest es
    → IsCollecting source made first past size n others (es ++ collected index n places (entries_along 0 cs ws))
collecting_more source made first past size n index places cols cs ws rest others es empty has starts is here =
    let step = walk_step source here.next past size index cs ws rest others here.walk starts in
    let high = step.high in
    let up = collected_skip made first here.next index past n es here.done step.low (λ i j low below. empty i (λ j. step.gap i j low below) j) in
    record {
      next = index + 1;
      high = omega arith;
      done = collected_more source made first index past index size n places cols cs ws es has high (record { lengths = starts.lengths; rising = starts.rising; inside = step.inside; words = step.words }) (λ j. is j high) up;
      walk = step.left;
    }

pub collecting_permuted : (source made : Content) (first past size n : ℕ) (rest es fs : List Entry) → IsPermutation es fs
    → IsCollecting source made first past size n rest es → IsCollecting source made first past size n rest fs
collecting_permuted source made first past size n rest es fs is here = record {
  next = here.next;
  high = here.high;
  done = permuted made first here.next past n es fs is here.done;
  walk = here.walk;
}

pub collecting_end : (source made : Content) (first past size n : ℕ) (rest es : List Entry) → StaysEmpty source made
    → IsCollecting source made first past size n rest es → rest ≡ [] → IsCollected made first past past n es
collecting_end source made first past size n rest es empty here none =
    let nothing = walk_end source here.next past size rest here.walk none in
    collected_skip made first here.next past past n es here.done here.high (λ i j low below. empty i (λ j. nothing i j low below) j)

-- ---- the places of a list

-- the first so many columns are put with their places
pub record ArePlaced (size : ℕ) (cols : List ℕ) (k : ℕ) (es : List Entry) : Type 0 where
  pub are : AreOf (index_content cols) es
  pub inside : AreIn 0 size (length cols) es
  pub whole : (m : ℕ) → m < k → word_at es (get_or cols m 0) m ≢ None

pub places_none : (size : ℕ) (cols : List ℕ) (es : List Entry) → es ≡ [] → ArePlaced size cols 0 es
places_none size cols es none = rw none (record {
  are = All-nil (λ (e : Entry). index_content cols e.row e.col ≡ Some e.word);
  inside = All-nil (λ (e : Entry). ((0 ≤ e.row) × (e.row < size)) × (e.col < length cols));
  whole = λ m less. absurd (omega arith);
})

pub places_more : (size : ℕ) (cols : List ℕ) (k : ℕ) (es : List Entry) → k < length cols → get_or cols k 0 < size
    → ArePlaced size cols k es → ArePlaced size cols (k + 1) (es ++ entry_at (get_or cols k 0) k 0 ∷ [])
places_more size cols k es within less here =
    let col = get_or cols k 0 in
    let put = entry_at col k 0 in
    let Q : Entry → Type 0 = λ e. index_content cols e.row e.col ≡ Some e.word in
    let R : Entry → Type 0 = λ e. ((0 ≤ e.row) × (e.row < size)) × (e.col < length cols) in
    let is : index_content cols col k ≡ Some 0 = rw (slice_get-get_or cols k 0 within) (rw (eq-eqb col col refl) refl) in
    record {
      are = All-append Q es (put ∷ []) here.are (All-cons Q put [] is (All-nil Q));
      inside = All-append R es (put ∷ []) here.inside (All-cons R put [] ((omega arith, less), within) (All-nil R));
      whole = λ m low none. elim (cases_eq m k) [
        | inl same ↦
            let none' : word_at (put ∷ []) col k ≡ None = ap (λ m. word_at (put ∷ []) (get_or cols m 0) m) (sym same) ∙ none_right (get_or cols m 0) m es (put ∷ []) none in
            none-some 0 (sym none' ∙ word_at-here col k put [] (rw (eq-eqb col col refl, eq-eqb k k refl) refl))
        | inr other ↦ here.whole m (omega arith) (none_left (get_or cols m 0) m es (put ∷ []) none)
      ];
    }

none_of : (i : ℕ) (o : Option ℕ) → ((col : ℕ) → o ≡ Some col → col ≢ i) → option_and_then {T = ℕ} {U = ℕ} (λ col. cond (eqb col i) (Some 0) None) o ≡ None
none_of i None other = refl
none_of i (Some col) other = rw (ne_eqb col i (other col refl)) refl

-- where all are put, no place is missing
pub places_whole : (size : ℕ) (cols : List ℕ) (k i j : ℕ) (es : List Entry) → length cols ≤ k
    → ArePlaced size cols k es → word_at es i j ≡ None → index_content cols i j ≡ None
places_whole size cols k i j es all here none =
    none_of i (slice_get cols j) (λ col at same.
    let within = slice_get_within cols j col at in
    let is : get_or cols j 0 ≡ i = get_or_from_slice_get cols j col 0 at ∙ same in
    here.whole j (omega arith) (ap (λ i. word_at es i j) is ∙ none))

-- ---- what the code appends

-- the columns of a row's entries, as entries of another row
pub cols_along : (row : ℕ) (cs ws : List ℕ) → length ws ≡ length cs
    → map (λ (s : Entry). s.col) (entries_along row cs ws) ≡ cs
cols_along row [] [] same = refl
cols_along row [] (v ∷ ws) same = absurd (omega arith)
cols_along row (c ∷ cs) [] same = absurd (omega arith)
cols_along row (c ∷ cs) (v ∷ ws) same = ap (λ cs. c ∷ cs) (cols_along row cs ws (omega arith))

-- one entry more
pub collected_step : (index n k : ℕ) (places : Content) (es old now found : List Entry) (d : Entry) → k < length es
    → now ≡ old ++ collected index n places (take k es)
    → found ≡ map (λ (s : Entry). entry_at index s.col (get_or es k d).word) (row_entries n places (get_or es k d).col)
    → now ++ found ≡ old ++ collected index n places (take (k + 1) es)
collected_step index n k places es old now found d within is is_found =
    let f = λ (e : Entry). map (λ (s : Entry). entry_at index s.col e.word) (row_entries n places e.col) in
    let e = get_or es k d in
    let split : collected index n places (take (k + 1) es) ≡ collected index n places (take k es) ++ found = ap (flat_map f) (take_more es k d within) ∙ flat_map-append f (take k es) (e ∷ []) ∙ ap (λ xs. collected index n places (take k es) ++ xs) (append-nil (f e) ∙ sym is_found) in
    rw (is, split) (append_assoc old (collected index n places (take k es)) found)
