-- Entries put at lists of rows and columns.
use Rattle.std.proofs.Common.{◌≡◌, ℕ, zero, suc, ◌+◌, ◌<◌, ◌≤◌, Bool, true, false, not, cond, eqb, leb, ltb, ◌&&◌, List, [], ◌∷◌, length, get_or, Option, Some, None, refl, sym, ◌∙◌, ap, inl, inr, arith}
use Rattle.std.specs.List.{All, cons_option, filter_map, list_all, position_or_len}
use Rattle.std.proofs.lemmas.Bool.{cases_Bool, eq-eqb, eqb-true, ne_eqb, false≢true}
use Rattle.std.proofs.lemmas.Bool.Decides.{nat_tests}
use Rattle.std.proofs.lemmas.List.Elements.{All-cons, All-head, All-nil, All-tail}
use Rattle.std.proofs.lemmas.Option.{none-some, same_Some}
use Rattle.std.proofs.lemmas.List.Sums.{AllPass-from_list_all}
use Rattle.model.specs.declared.entry.Entry.{Entry}
use Rattle.model.specs.Entries.{entry_at, word_at}
use Rattle.model.specs.Indices.{All as Every, Indices, These, are_below, are_distinct, count_of, is_distinct, place_in}
use Rattle.model.specs.Object.{Content}
use Rattle.model.specs.Regions.{found_at, placed}
use Rattle.store.specs.Stored.{AreIn}
use Rattle.store.proofs.Positions.{word_at-here, word_at-skip}
use Rattle.shapes.specs.Places.{Reaches, is_in, nth_index, placed_entry}
use Rattle.shapes.proofs.Gathering.{AreOf, and_both}

-- ---- places of indices

-- every place below a count is one of the list
pub reaches : (size k : ℕ) (indices : Indices) → k < count_of size indices → Reaches indices k
reaches size k Every less = tt
reaches size k (These items) less = less

-- a number that stands first is found at once, and one behind it one place further
position_first : (i : ℕ) (xs : List ℕ) (k : ℕ) → is_distinct xs ≡ true → k < length xs → get_or xs k 0 ≡ i
    → position_or_len (λ x. eqb x i) xs ≡ k
position_first i [] k apart within at = absurd (omega arith)
position_first i (x ∷ xs) zero apart within at = rw (eq-eqb x i at) refl
position_first i (x ∷ xs) (suc k) apart within at =
    let parts = and_both (list_all (λ y. not (eqb x y)) xs) (is_distinct xs) apart in
    let each : not (eqb x (get_or xs k 0)) ≡ true = AllPass-from_list_all (λ y. not (eqb x y)) xs parts.0 k 0 (omega arith) in
    let other : eqb x i ≡ false = ne_eqb x i (λ same. absurd (false≢true (rw (eq-eqb x (get_or xs k 0) (same ∙ sym at)) at each))) in
    rw other (omega (arith, position_first i xs k parts.1 (omega arith) at))

-- an index of a list is below the dimension
pub nth_below : (size k : ℕ) (indices : Indices) → are_below size indices ≡ true → k < count_of size indices
    → nth_index indices k < size
nth_below size k Every below less = less
nth_below size k (These items) below less = let each = AllPass-from_list_all (λ x. ltb x size) items below k 0 less in grind (arith, nat_tests)

-- in a list without repeats the index at a place is found there
pub place_of_nth : (size k : ℕ) (indices : Indices) → are_distinct indices ≡ true → k < count_of size indices
    → place_in size indices (nth_index indices k) ≡ Some k
place_of_nth size k Every apart less = let is : ltb k size ≡ true = grind (arith, nat_tests) in rw is refl
place_of_nth size k (These items) apart less =
    let at = position_first (get_or items k 0) items k apart less refl in
    let is : ltb k (length items) ≡ true = grind (arith, nat_tests) in
    rw (at, is) refl

-- an index that is found stands at that place
position_at : (i : ℕ) (xs : List ℕ) → position_or_len (λ x. eqb x i) xs < length xs
    → get_or xs (position_or_len (λ x. eqb x i) xs) 0 ≡ i
position_at i [] within = absurd (omega arith)
position_at i (x ∷ xs) within = elim (cases_Bool (eqb x i)) [
  | inl same ↦ rw same (eqb-true x i same)
  | inr other ↦
      let p = position_or_len (λ x. eqb x i) xs in
      let further : 1 + p ≡ suc p = omega arith in
      let less : 1 + p < suc (length xs) = rw other at within in
      rw (other, further) (position_at i xs (omega arith))
]

some_of : (b : Bool) (n k : ℕ) → cond (b) (Some n) None ≡ Some k → (b ≡ true) × (n ≡ k)
some_of true n k is = (refl, same_Some n k is)
some_of false n k is = absurd (none-some k is)

pub nth_of_place : (size i k : ℕ) (indices : Indices) → place_in size indices i ≡ Some k → nth_index indices k ≡ i
nth_of_place size i k Every is = sym (some_of (ltb i size) i k is).1
nth_of_place size i k (These items) is =
    let at = some_of (ltb (position_or_len (λ x. eqb x i) items) (length items)) (position_or_len (λ x. eqb x i) items) k is in
    let within : position_or_len (λ x. eqb x i) items < length items = let t = at.0 in grind (arith, nat_tests) in
    rw (← at.1) (position_at i items within)

-- ---- all entries

-- each entry that is put is one of the map of those that are put
pub placed_are : (m n first past : ℕ) (rows cols : Indices) (a_rows a_cols : ℕ) (c : Content) (es : List Entry)
    → are_distinct rows ≡ true → are_distinct cols ≡ true → a_rows ≡ count_of m rows → a_cols ≡ count_of n cols
    → AreIn 0 a_rows a_cols es → AreOf c es
    → AreOf (placed m n rows cols c) (filter_map (placed_entry rows cols first past) es)
placed_are m n first past rows cols a_rows a_cols c [] apart_rows apart_cols counts_rows counts_cols inside are = All-nil (λ e. placed m n rows cols c e.row e.col ≡ Some e.word)
placed_are m n first past rows cols a_rows a_cols c (e ∷ es) apart_rows apart_cols counts_rows counts_cols inside are =
    let P : Entry → Type 0 = λ e. ((0 ≤ e.row) × (e.row < a_rows)) × (e.col < a_cols) in
    let Q : Entry → Type 0 = λ e. placed m n rows cols c e.row e.col ≡ Some e.word in
    let at = All-head P e es inside in
    let rest = placed_are m n first past rows cols a_rows a_cols c es apart_rows apart_cols counts_rows counts_cols (All-tail P e es inside) (All-tail (λ e. c e.row e.col ≡ Some e.word) e es are) in
    let row = place_of_nth m e.row rows apart_rows (let less = at.0.1 in omega (arith, counts_rows)) in
    let col = place_of_nth n e.col cols apart_cols (let less = at.1 in omega (arith, counts_cols)) in
    let here : Q (entry_at (nth_index rows e.row) (nth_index cols e.col) e.word) = rw (row, col) (All-head (λ e. c e.row e.col ≡ Some e.word) e es are) in
    elim (is_in first past (nth_index rows e.row)) as (λ b. All Q (cons_option (cond b (Some (entry_at (nth_index rows e.row) (nth_index cols e.col) e.word)) None) (filter_map (placed_entry rows cols first past) es))) [
      | true ↦ All-cons Q (entry_at (nth_index rows e.row) (nth_index cols e.col) e.word) (filter_map (placed_entry rows cols first past) es) here rest
      | false ↦ rest
    ]

pub behind_none : (i j : ℕ) (e : Entry) (es : List Entry) → word_at (e ∷ es) i j ≡ None → word_at es i j ≡ None
behind_none i j e es none = elim (cases_Bool (eqb i e.row && eqb j e.col)) [
  | inl at ↦ absurd (none-some e.word (sym none ∙ word_at-here i j e es at))
  | inr away ↦ sym (word_at-skip i j e es away) ∙ none
]

rest_none : (rows cols : Indices) (first past i j : ℕ) (e : Entry) (es : List Entry)
    → word_at (filter_map (placed_entry rows cols first past) (e ∷ es)) i j ≡ None
    → word_at (filter_map (placed_entry rows cols first past) es) i j ≡ None
rest_none rows cols first past i j e es none = elim (cases_Bool (is_in first past (nth_index rows e.row))) [
  | inl inside ↦ behind_none i j (entry_at (nth_index rows e.row) (nth_index cols e.col) e.word) (filter_map (placed_entry rows cols first past) es) (rw inside at none)
  | inr outside ↦ rw outside at none
]

-- an entry that is put where a list names its row is there
placed_there : (rows cols : Indices) (first past p q i j : ℕ) (es : List Entry) → nth_index rows p ≡ i
    → nth_index cols q ≡ j → is_in first past i ≡ true
    → word_at (filter_map (placed_entry rows cols first past) es) i j ≡ None → word_at es p q ≡ None
unfolding word_at
placed_there rows cols first past p q i j [] row col inside none = refl
placed_there rows cols first past p q i j (e ∷ es) row col inside none =
    let rest = filter_map (placed_entry rows cols first past) es in
    let put = entry_at (nth_index rows e.row) (nth_index cols e.col) e.word in
    elim (cases_Bool (eqb p e.row && eqb q e.col)) [
      | inl at ↦
          let same = and_both (eqb p e.row) (eqb q e.col) at in
          let to_row : nth_index rows e.row ≡ i = ap (nth_index rows) (sym (eqb-true p e.row same.0)) ∙ row in
          let to_col : nth_index cols e.col ≡ j = ap (nth_index cols) (sym (eqb-true q e.col same.1)) ∙ col in
          let lies : is_in first past (nth_index rows e.row) ≡ true = rw to_row inside in
          let found : word_at (put ∷ rest) i j ≡ Some e.word = word_at-here i j put rest (rw (eq-eqb i (nth_index rows e.row) (sym to_row), eq-eqb j (nth_index cols e.col) (sym to_col)) refl) in
          absurd (none-some e.word (sym (rw lies at none) ∙ found))
      | inr away ↦ rw away (placed_there rows cols first past p q i j es row col inside (rest_none rows cols first past i j e es none))
    ]

nothing_found : (m n first past : ℕ) (rows cols : Indices) (c : Content) (es : List Entry) (i j : ℕ)
    (row col : Option ℕ) → place_in m rows i ≡ row → place_in n cols j ≡ col → ((p q : ℕ) → word_at es p q ≡ c p q)
    → is_in first past i ≡ true
    → word_at (filter_map (placed_entry rows cols first past) es) i j ≡ None → found_at c row col ≡ None
nothing_found m n first past rows cols c es i j None col at_row at_col words inside none = refl
nothing_found m n first past rows cols c es i j (Some p) None at_row at_col words inside none = refl
nothing_found m n first past rows cols c es i j (Some p) (Some q) at_row at_col words inside none =
    sym (words p q) ∙ placed_there rows cols first past p q i j es (nth_of_place m i p rows at_row) (nth_of_place n j q cols at_col) inside none

-- where nothing is put, the map of those that are put has nothing
pub placed_whole : (m n first past : ℕ) (rows cols : Indices) (c : Content) (es : List Entry) (i j : ℕ)
    → ((p q : ℕ) → word_at es p q ≡ c p q) → is_in first past i ≡ true
    → word_at (filter_map (placed_entry rows cols first past) es) i j ≡ None → placed m n rows cols c i j ≡ None
placed_whole m n first past rows cols c es i j words inside none = nothing_found m n first past rows cols c es i j (place_in m rows i) (place_in n cols j) refl refl words inside none

-- ---- inside a shape

-- the entries that are put lie in the range and inside the columns
pub placed_inside : (n first past : ℕ) (rows cols : Indices) (a_rows a_cols : ℕ) (es : List Entry)
    → are_below n cols ≡ true → a_cols ≡ count_of n cols → AreIn 0 a_rows a_cols es
    → AreIn first past n (filter_map (placed_entry rows cols first past) es)
placed_inside n first past rows cols a_rows a_cols [] below counts inside = All-nil (λ (e : Entry). ((first ≤ e.row) × (e.row < past)) × (e.col < n))
placed_inside n first past rows cols a_rows a_cols (e ∷ es) below counts inside =
    let P : Entry → Type 0 = λ e. ((0 ≤ e.row) × (e.row < a_rows)) × (e.col < a_cols) in
    let Q : Entry → Type 0 = λ e. ((first ≤ e.row) × (e.row < past)) × (e.col < n) in
    let at = All-head P e es inside in
    let rest = placed_inside n first past rows cols a_rows a_cols es below counts (All-tail P e es inside) in
    let put = entry_at (nth_index rows e.row) (nth_index cols e.col) e.word in
    let col = nth_below n e.col cols below (let less = at.1 in omega (arith, counts)) in
    elim (cases_Bool (is_in first past (nth_index rows e.row))) [
      | inl lies ↦
          let both = and_both (leb first (nth_index rows e.row)) (ltb (nth_index rows e.row) past) lies in
          let low = both.0 in
          let high = both.1 in
          rw lies (All-cons Q put (filter_map (placed_entry rows cols first past) es) ((grind (arith, nat_tests), grind (arith, nat_tests)), col) rest)
      | inr out ↦ rw out rest
    ]
