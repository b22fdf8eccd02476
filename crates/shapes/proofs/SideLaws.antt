-- What rows have inside the positions that lists name, or outside of them.
use Rattle.std.proofs.Common.{◌≡◌, ◌≢◌, ℕ, ◌+◌, ◌<◌, ◌≤◌, Bool, true, false, cond, eqb, ltb, ◌&&◌, List, [], ◌∷◌, ◌++◌, length, map, take, get_or, is_some, Option, Some, None, Result, Ok, Err, OnOk, MatchResult, is_ok, refl, sym, ◌∙◌, ap, subst, inl, inr, arith, append_assoc}
use Rattle.std.specs.List.{All, filter}
use Rattle.std.proofs.lemmas.Bool.{cases_Bool, cases_lt, eqb-true, ne_eqb}
use Rattle.std.proofs.lemmas.Bool.Decides.{nat_tests}
use Rattle.std.proofs.lemmas.List.{append-nil, get_or_default, length-map, map-append, take_all, take_more}
use Rattle.std.proofs.lemmas.List.Elements.{All-filter, All-head, All-map, All-nil, All-tail, All-weaker, filter-append}
use Rattle.model.specs.declared.entry.Entry.{Entry}
use Rattle.model.specs.declared.memory.NoMemory.{NoMemory}
use Rattle.model.specs.ElementWise.{of_either}
use Rattle.model.specs.Entries.{InOrder, Precedes, entry_at, word_at}
use Rattle.model.specs.Indices.{All as Every, HasSorted, Indices, place_in}
use Rattle.model.specs.Object.{Content, IsWithin}
use Rattle.model.specs.Regions.{is_listed}
use Rattle.store.specs.declared.lists.FiberLists.{FiberLists}
use Rattle.store.specs.Fibers.{entries_along}
use Rattle.store.proofs.CloseLaws.{closed}
use Rattle.store.proofs.FlatLaws.{all_cols, all_rows, row_in_order}
use Rattle.store.proofs.Order.{all_pairs_filter, all_pairs_nil}
use Rattle.store.proofs.Places.{length_row, row_at}
use Rattle.store.proofs.Positions.{word_at-here, word_at-none, word_at-skip}
use Rattle.store.proofs.Walks.{cols_rise}
use Rattle.store.specs.Stored.{AreIn}
use Rattle.store.proofs.RowWords.{no_column}
use Rattle.shapes.specs.Lists.{has_index}
use Rattle.shapes.specs.declared.putting.Named.{Named}
use Rattle.shapes.specs.Named.{IsNamed}
use Rattle.shapes.specs.Rows.{HasRow, HasRowOf, IsRowOf}
use Rattle.shapes.specs.Sides.{HasKept, kept_first, on_side, one_side}
use Rattle.shapes.proofs.Gathering.{and_both}
use Rattle.shapes.proofs.Going.{StaysEmpty, ok_then}
use Rattle.shapes.proofs.ListLaws.{every_has, has_at, has_none, sorted_has}
use Rattle.shapes.proofs.FillLaws.{and_true, nothing}
use Rattle.shapes.proofs.RowWords.{absent, no_word, same_words}

-- ---- kept entries of a row

-- entries of one row are its columns and words
row_of_entries : (i : ℕ) (es : List Entry) → All (λ e. e.row ≡ i) es
    → entries_along i (map (λ e. e.col) es) (map (λ e. e.word) es) ≡ es
row_of_entries i [] are = refl
row_of_entries i (e ∷ es) are =
    let head : entry_at i e.col e.word ≡ e = ap (λ r. entry_at r e.col e.word) (sym (All-head (λ e. e.row ≡ i) e es are)) in
    ap (λ x. x ∷ entries_along i (map (λ e. e.col) es) (map (λ e. e.word) es)) head ∙ ap (λ xs. e ∷ xs) (row_of_entries i es (All-tail (λ e. e.row ≡ i) e es are))

or_nothing : (b : Bool) (o : Option ℕ) → o ≡ None → o ≡ cond b o None
or_nothing true o none = refl
or_nothing false o none = none

-- the words of entries whose columns pass a test
kept_word : (keep : ℕ → Bool) (es : List Entry) (i j : ℕ)
    → word_at (filter (λ e. keep e.col) es) i j ≡ cond (keep j) (word_at es i j) None
kept_word keep [] i j = or_nothing (keep j) (word_at [] i j) (nothing [] i j refl)
kept_word keep (e ∷ es) i j = elim (cases_Bool (keep e.col)) [
  | inl stays ↦ elim (cases_Bool (eqb i e.row && eqb j e.col)) [
    | inl at ↦
        let here : keep j ≡ true = ap keep (eqb-true j e.col (and_both (eqb i e.row) (eqb j e.col) at).1) ∙ stays in
        rw stays (rw here (word_at-here i j e (filter (λ e. keep e.col) es) at ∙ sym (word_at-here i j e es at)))
    | inr away ↦ rw stays (word_at-skip i j e (filter (λ e. keep e.col) es) away ∙ kept_word keep es i j ∙ ap (λ o. cond (keep j) o None) (sym (word_at-skip i j e es away)))
  ]
  | inr goes ↦ elim (cases_Bool (eqb i e.row && eqb j e.col)) [
    | inl at ↦
        let here : keep j ≡ false = ap keep (eqb-true j e.col (and_both (eqb i e.row) (eqb j e.col) at).1) ∙ goes in
        rw goes (kept_word keep es i j ∙ rw here refl)
    | inr away ↦ rw goes (kept_word keep es i j ∙ ap (λ o. cond (keep j) o None) (sym (word_at-skip i j e es away)))
  ]
]

-- ---- entry by entry

kept_step : (inside : Bool) (sorted : List ℕ) (k : ℕ) (es : List Entry) (d : Entry) (b : Bool) → k < length es
    → on_side inside (has_index sorted (get_or es k d).col) ≡ b
    → kept_first inside sorted (k + 1) es ≡ kept_first inside sorted k es ++ cond b (get_or es k d ∷ []) []
kept_step inside sorted k es d b within is =
    let keep = λ (e : Entry). on_side inside (has_index sorted e.col) in
    ap (filter keep) (take_more es k d within) ∙ filter-append keep (take k es) (get_or es k d ∷ []) ∙ rw is refl

kept_more : (inside : Bool) (sorted cs ws : List ℕ) (k : ℕ) (b : Bool) → length ws ≡ length cs → k < length cs
    → on_side inside (has_index sorted (get_or cs k 0)) ≡ b
    → kept_first inside sorted (k + 1)
    (entries_along 0 cs ws) ≡ kept_first inside sorted k (entries_along 0 cs ws) ++ cond b (entry_at 0 (get_or cs k 0) (get_or ws k 0) ∷ []) []
kept_more inside sorted cs ws k b same within is =
    let es = entries_along 0 cs ws in
    let d = entry_at 0 0 0 in
    let at = row_at 0 cs ws k d same within in
    rw at at (kept_step inside sorted k es d b (omega (arith, length_row 0 cs ws same)) (rw at is))

grown : (old now added more all : List ℕ) (x : ℕ) → now ≡ old ++ added → all ≡ now ++ x ∷ [] → more ≡ added ++ x ∷ []
    → all ≡ old ++ more
grown old now added more all x is all_is more_is = all_is ∙ rw (is, more_is) (append_assoc old added (x ∷ []))

pub put_kept : (inside : Bool) (sorted cs ws : List ℕ) (k : ℕ) (old now new : FiberLists) → length ws ≡ length cs
    → k < length cs → on_side inside (has_index sorted (get_or cs k 0)) ≡ true → HasKept inside sorted cs ws k old now
    → new.ends.items ≡ now.ends.items → new.inner.items ≡ now.inner.items ++ get_or cs k 0 ∷ []
    → new.words.items ≡ now.words.items ++ get_or ws k 0 ∷ [] → HasKept inside sorted cs ws (k + 1) old new
put_kept inside sorted cs ws k old now new same within is here ends inner words =
    let kept = kept_first inside sorted k (entries_along 0 cs ws) in
    let one = entry_at 0 (get_or cs k 0) (get_or ws k 0) in
    let more = kept_more inside sorted cs ws k true same within is in
    record {
      ends = ends ∙ here.ends;
      inner = grown old.inner.items now.inner.items (map (λ (e : Entry). e.col) kept) (map (λ (e : Entry). e.col) (kept_first inside sorted (k + 1) (entries_along 0 cs ws))) new.inner.items (get_or cs k 0) here.inner inner (ap (map (λ (e : Entry). e.col)) more ∙ map-append (λ (e : Entry). e.col) kept (one ∷ []));
      words = grown old.words.items now.words.items (map (λ (e : Entry). e.word) kept) (map (λ (e : Entry). e.word) (kept_first inside sorted (k + 1) (entries_along 0 cs ws))) new.words.items (get_or ws k 0) here.words words (ap (map (λ (e : Entry). e.word)) more ∙ map-append (λ (e : Entry). e.word) kept (one ∷ []));
    }

pub pass_kept : (inside : Bool) (sorted cs ws : List ℕ) (k : ℕ) (old now : FiberLists) → length ws ≡ length cs
    → k < length cs → on_side inside (has_index sorted (get_or cs k 0)) ≡ false → HasKept inside sorted cs ws k old now
    → HasKept inside sorted cs ws (k + 1) old now
pass_kept inside sorted cs ws k old now same within is here =
    let more = kept_more inside sorted cs ws k false same within is ∙ append-nil (kept_first inside sorted k (entries_along 0 cs ws)) in
    record {
      ends = here.ends;
      inner = here.inner ∙ ap (λ es. old.inner.items ++ map (λ (e : Entry). e.col) es) (sym more);
      words = here.words ∙ ap (λ es. old.words.items ++ map (λ (e : Entry). e.word) es) (sym more);
    }

-- ---- rows

-- a row of which listed columns are kept, or those that are not listed
row_kept : (c : Content) (m n index : ℕ) (rows cols : Indices) (inside : Bool) (sorted cs ws : List ℕ)
    → IsRowOf c index n cs ws → is_some (place_in m rows index) ≡ true → HasSorted cols sorted
    → IsRowOf (one_side inside m n rows cols c) index n (map (λ e. e.col) (kept_first inside sorted (length cs) (entries_along 0 cs ws))) (map (λ e. e.word) (kept_first inside sorted (length cs) (entries_along 0 cs ws)))
row_kept c m n index rows cols inside sorted cs ws here named has =
    let keep = λ (j : ℕ). on_side inside (has_index sorted j) in
    let es = entries_along 0 cs ws in
    let kept = kept_first inside sorted (length cs) es in
    let all : kept ≡ filter (λ e. keep e.col) es = ap (filter (λ e. keep e.col)) (take_all (length cs) es (omega (arith, length_row 0 cs ws here.lengths))) in
    let is : entries_along 0 (map (λ e. e.col) kept) (map (λ e. e.word) kept) ≡ kept = row_of_entries 0 kept (rw all (All-filter (λ e. keep e.col) (λ (e : Entry). e.row ≡ 0) es (all_rows 0 cs ws))) in
    let order : InOrder kept = rw all (all_pairs_filter Precedes (λ e. keep e.col) es (row_in_order 0 cs ws here.rising)) in
    let same : length (map (λ (e : Entry). e.word) kept) ≡ length (map (λ (e : Entry). e.col) kept) = omega (arith, length-map kept (λ (e : Entry). e.word), length-map kept (λ (e : Entry). e.col)) in
    record {
      lengths = same;
      rising = cols_rise 0 (map (λ e. e.col) kept) (map (λ e. e.word) kept) same (subst InOrder (sym is) order);
      inside = All-map (λ col. col < n) (λ (e : Entry). e.col) kept (rw all (All-filter (λ e. keep e.col) (λ (e : Entry). e.col < n) es (All-weaker (λ (e : Entry). (e.row ≡ 0) × (e.col < n)) (λ (e : Entry). e.col < n) (λ e p. p.1) es (all_cols (λ col. col < n) 0 cs ws here.inside))));
      words = λ j.
          let listed : is_listed m n rows cols index j ≡ has_index sorted j = rw named (sym (sorted_has n j cols sorted has)) in
          same_words index 0 j (map (λ e. e.col) kept) (map (λ e. e.word) kept) ∙ ap (λ es. word_at es 0 j) (is ∙ all) ∙ kept_word keep es 0 j
          ∙ ap (λ o. cond (keep j) o None) (same_words 0 index j cs ws ∙ here.words j) ∙ ap (λ b. cond (on_side inside b) (c index j) None) (sym listed);
    }

none_past : (c : Content) (index n j : ℕ) (cs ws : List ℕ) → IsRowOf c index n cs ws → ltb j n ≡ false
    → c index j ≡ None
none_past c index n j cs ws here past = sym (here.words j) ∙ absent index j cs ws (All-weaker (λ col. col < n) (λ col. j ≢ col) (λ col less same. absurd (grind (arith, nat_tests))) cs here.inside)

-- a row that is kept as a whole, or not at all
row_whole : (c : Content) (m n index : ℕ) (rows cols : Indices) (inside named : Bool) (cs ws : List ℕ)
    → IsRowOf c index n cs ws → ((j : ℕ) → j < n → is_listed m n rows cols index j ≡ named)
    → IsRowOf (one_side inside m n rows cols c) index n (cond (on_side inside named) cs [])
    (cond (on_side inside named) ws [])
row_whole c m n index rows cols inside named cs ws here listed = elim (cases_Bool (on_side inside named)) [
  | inl stays ↦ rw stays (record {
    lengths = here.lengths;
    rising = here.rising;
    inside = here.inside;
    words = λ j. here.words j ∙ elim (cases_Bool (ltb j n)) [
      | inl in_it ↦ let on : on_side inside (is_listed m n rows cols index j) ≡ true = ap (on_side inside) (listed j (grind (arith, nat_tests))) ∙ stays in rw on refl
      | inr past ↦ or_nothing (on_side inside (is_listed m n rows cols index j)) (c index j) (none_past c index n j cs ws here past)
    ];
  })
  | inr goes ↦ rw goes (record {
    lengths = refl;
    rising = all_pairs_nil (λ a b. a < b);
    inside = All-nil (λ col. col < n);
    words = λ j. no_word index j [] ∙ elim (cases_Bool (ltb j n)) [
      | inl in_it ↦ let on : on_side inside (is_listed m n rows cols index j) ≡ false = ap (on_side inside) (listed j (grind (arith, nat_tests))) ∙ goes in rw on refl
      | inr past ↦ let none = none_past c index n j cs ws here past in sym none ∙ or_nothing (on_side inside (is_listed m n rows cols index j)) (c index j) none
    ];
  })
]

pub side_empty : (inside : Bool) (m n : ℕ) (rows cols : Indices) (c : Content)
    → StaysEmpty c (one_side inside m n rows cols c)
side_empty inside m n rows cols c i none j = elim (cases_Bool (on_side inside (is_listed m n rows cols i j))) [
  | inl stays ↦ rw stays (none j)
  | inr goes ↦ rw goes refl
]

-- ---- both sides

-- the word of one side or of the other
pub two_sides : (listed : Bool) (old new : Option ℕ) → of_either (λ w. w) (λ w. w) (λ x y. y)
    (cond (on_side false listed) old None) (cond (on_side true listed) new None) ≡ cond listed new old
two_sides true old None = refl
two_sides true old (Some w) = refl
two_sides false None new = refl
two_sides false (Some w) new = refl

-- ---- answers that may be refused

pub ok_whole : (index : ℕ) (named : Named) (inside is_named : Bool) (cs ws : List ℕ) (old new : FiberLists)
    (r : Result (Unit {0}) NoMemory)
    → ((rows cols : Indices) → IsNamed rows cols named → (m n : ℕ) → index < m → (j : ℕ) → j < n → is_listed m n rows cols index j ≡ is_named)
    → OnOk r (HasRow index (cond (on_side inside is_named) cs []) (cond (on_side inside is_named) ws []) old new)
    → OnOk r ((rows cols : Indices) (c : Content) (m n : ℕ) → IsNamed rows cols named → index < m → IsRowOf c index n cs ws → HasRowOf (one_side inside m n rows cols c) index n old new)
ok_whole index named inside is_named cs ws old new r listed put =
    ok_then (HasRow index (cond (on_side inside is_named) cs []) (cond (on_side inside is_named) ws []) old new)
    ((rows cols : Indices) (c : Content) (m n : ℕ) → IsNamed rows cols named → index < m → IsRowOf c index n cs ws → HasRowOf (one_side inside m n rows cols c) index n old new) r
    (λ put rows cols c m n are less here. record { cs = cond (on_side inside is_named) cs []; ws = cond (on_side inside is_named) ws []; row = row_whole c m n index rows cols inside is_named cs ws here (listed rows cols are m n less); put = put }) put

kept_closed : (index : ℕ) (rows cols : Indices) (inside : Bool) (sorted cs ws : List ℕ) (old now new : FiberLists)
    → ((m : ℕ) → index < m → is_some (place_in m rows index) ≡ true) → HasSorted cols sorted
    → HasKept inside sorted cs ws (length cs) old now
    → new.inner.items ≡ now.inner.items → new.words.items ≡ now.words.items
    → new.ends.items ≡ closed now.ends.items index (length now.inner.items)
    → (c : Content) (m n : ℕ) → index < m → IsRowOf c index n cs ws
    → HasRowOf (one_side inside m n rows cols c) index n old new
kept_closed index rows cols inside sorted cs ws old now new named has kept inner words ends c m n less here = record {
  cs = map (λ (e : Entry). e.col) (kept_first inside sorted (length cs) (entries_along 0 cs ws));
  ws = map (λ (e : Entry). e.word) (kept_first inside sorted (length cs) (entries_along 0 cs ws));
  row = row_kept c m n index rows cols inside sorted cs ws here (named m less) has;
  put = record {
    inner = inner ∙ kept.inner;
    words = words ∙ kept.words;
    ends = rw inner (rw kept.ends at ends);
  };
}

pub ok_kept : (index : ℕ) (named : Named) (inside : Bool) (sorted cs ws : List ℕ) (old now new : FiberLists)
    (r : Result (Unit {0}) NoMemory)
    → ((rows cols : Indices) → IsNamed rows cols named → (m : ℕ) → index < m → is_some (place_in m rows index) ≡ true)
    → ((rows cols : Indices) → IsNamed rows cols named → HasSorted cols sorted)
    → HasKept inside sorted cs ws (length cs) old now
    → new.inner.items ≡ now.inner.items → new.words.items ≡ now.words.items
    → OnOk r (new.ends.items ≡ closed now.ends.items index (length now.inner.items))
    → OnOk r ((rows cols : Indices) (c : Content) (m n : ℕ) → IsNamed rows cols named → index < m → IsRowOf c index n cs ws → HasRowOf (one_side inside m n rows cols c) index n old new)
ok_kept index named inside sorted cs ws old now new r is_named has kept inner words ends =
    ok_then (new.ends.items ≡ closed now.ends.items index (length now.inner.items))
    ((rows cols : Indices) (c : Content) (m n : ℕ) → IsNamed rows cols named → index < m → IsRowOf c index n cs ws → HasRowOf (one_side inside m n rows cols c) index n old new) r
    (λ ends rows cols c m n are. kept_closed index rows cols inside sorted cs ws old now new (is_named rows cols are) (has rows cols are) kept inner words ends c m n) ends

-- whether a position is listed, where all columns are, or where its row is not
pub listed_all : (m n index j : ℕ) (rows cols : Indices) (named : Bool) → cols ≡ Every
    → named ≡ is_some (place_in m rows index) → j < n → is_listed m n rows cols index j ≡ named
listed_all m n index j rows cols named all is less = rw (every_has n j cols all less) (and_true (is_some (place_in m rows index)) ∙ sym is)

pub listed_none : (m n index j : ℕ) (rows cols : Indices) → is_some (place_in m rows index) ≡ false
    → is_listed m n rows cols index j ≡ false
listed_none m n index j rows cols none = rw none refl

-- ---- searches

pub found_index : (xs : List ℕ) (x : ℕ) (r : Result ℕ ℕ)
    → MatchResult r (λ i. (i < length xs) × (get_or xs i 0 ≡ x))
    (λ i. (i ≤ length xs) × ((k : ℕ) → k < i → get_or xs k 0 < x) × ((k : ℕ) → i ≤ k → k < length xs → x < get_or xs k 0)) → is_ok r ≡ has_index xs x
found_index xs x (Ok i) h = sym (ap (has_index xs) (sym h.1) ∙ has_at xs i h.0)
found_index xs x (Err i) h = sym (has_none xs x (λ k d within same. elim (cases_lt k i) [
  | inl before ↦ absurd (let less = h.1 k before in let at = sym (get_or_default xs k d 0 within) ∙ same in omega arith)
  | inr behind ↦ absurd (let more = h.2 k behind within in let at = sym (get_or_default xs k d 0 within) ∙ same in omega arith)
]))

-- ---- all positions

same_if : (b : Bool) (x y : Option ℕ) → x ≡ y → x ≡ cond b x y
same_if true x y is = refl
same_if false x y is = is

-- where all positions are listed, what is put is there
pub all_put : (first past m n i j : ℕ) (es : List Entry) (c : Content) → past ≤ m → AreIn first past n es
    → IsWithin m n c → i < past → word_at es i j ≡ cond (is_listed m n Every Every i j) (word_at es i j) (c i j)
all_put first past m n i j es c fits inside within less = elim (cases_Bool (ltb j n)) [
  | inl in_it ↦ rw (every_has m i Every refl (omega arith), every_has n j Every refl (grind (arith, nat_tests))) refl
  | inr past_it ↦
      let none : word_at es i j ≡ None = word_at-none i j es (All-weaker (λ (e : Entry). ((first ≤ e.row) × (e.row < past)) × (e.col < n)) (λ (e : Entry). (eqb i e.row && eqb j e.col) ≡ false) (λ e p. let col = p.1 in no_column (eqb i e.row) (eqb j e.col) (ne_eqb j e.col (λ same. absurd (grind (arith, nat_tests))))) es inside) in
      same_if (is_listed m n Every Every i j) (word_at es i j) (c i j) (none ∙ sym (within i j (no_column (ltb i m) (ltb j n) past_it)))
]
