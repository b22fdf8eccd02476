-- Slots that are looked up in a row, one after another.
use Rattle.std.proofs.Common.{◌≡◌, ◌≢◌, ◌∙◌, ℕ, ◌+◌, ◌-◌, ◌<◌, ◌≤◌, List, length, get_or, take, drop, ap, subst, sym, inl, inr, arith}
use Rattle.std.specs.List.{All, AllPairs}
use Rattle.std.proofs.lemmas.Bool.{cases_eq, cases_lt}
use Rattle.std.proofs.lemmas.List.{get_or-drop, get_or-take, get_or_default, length-drop, length-take}

-- ---- a part of a list, place by place

pub all_in_take : (P : ℕ → Type 0) (xs : List ℕ) (n : ℕ) → ((j : ℕ) → j < n → j < length xs → P (get_or xs j 0))
    → All P (take n xs)
all_in_take P xs n h k d within =
    let low : k < n = omega (arith, simp length-take at within) in
    let inside : k < length xs = omega (arith, simp length-take at within) in
    subst P (get_or_default xs k 0 d inside ∙ sym (get_or-take n xs k d low)) (h k low inside)

pub in_take : (P : ℕ → Type 0) (xs : List ℕ) (n : ℕ) → All P (take n xs) → (j : ℕ) → j < n → j < length xs
    → P (get_or xs j 0)
in_take P xs n h j low inside = subst P (get_or-take n xs j 0 low) (h j 0 (omega (arith, length-take n xs)))

pub in_drop : (P : ℕ → Type 0) (xs : List ℕ) (n : ℕ) → All P (drop n xs) → (j : ℕ) → n ≤ j → j < length xs
    → P (get_or xs j 0)
in_drop P xs n h j low inside =
    let back : n + (j - n) ≡ j = omega arith in
    subst P (get_or-drop n xs (j - n) 0 ∙ ap (λ k. get_or xs k 0) back) (h (j - n) 0 (omega (arith, length-drop n xs)))

-- ---- the first slots were looked up, and with them the first columns

pub record AreSearched (slots cols : List ℕ) (at from : ℕ) : Type 0 where
  pub high : from ≤ length cols
  pub before : at < length slots → (j : ℕ) → j < from → get_or cols j 0 < get_or slots at 0
  pub behind : (p j : ℕ) → p < at → p < length slots → from ≤ j → j < length cols
      → get_or slots p 0 < get_or cols j 0

-- where a slot stands among the columns, or would stand
pub record IsPlace (slot : ℕ) (cols : List ℕ) (from place : ℕ) : Type 0 where
  pub low : from ≤ place
  pub high : place ≤ length cols
  pub before : (j : ℕ) → j < place → get_or cols j 0 < slot
  pub behind : (j : ℕ) → place ≤ j → j < length cols → slot ≤ get_or cols j 0

rises : (xs : List ℕ) → AllPairs (λ p q. p < q) xs → (i j : ℕ) → i < j → j < length xs → get_or xs i 0 < get_or xs j 0
rises xs rising i j less within = rising i j 0 less within

pub place_found : (slots cols : List ℕ) (at from place : ℕ) → AreSearched slots cols at from → at < length slots
    → from ≤ place → place ≤ length cols
    → (All (λ y. y < get_or slots at 0) (take from cols) → All (λ y. y < get_or slots at 0) (take place cols))
    → All (λ y. get_or slots at 0 ≤ y) (drop place cols) → IsPlace (get_or slots at 0) cols from place
place_found slots cols at from place are within low high passed left =
    let slot = get_or slots at 0 in
    let front = passed (all_in_take (λ y. y < slot) cols from (λ j less inside. are.before within j less)) in
    record {
      low = low;
      high = high;
      before = λ j less. in_take (λ y. y < slot) cols place front j less (omega arith);
      behind = λ j least inside. in_drop (λ y. slot ≤ y) cols place left j least inside;
    }

pub search_start : (slots cols : List ℕ) (first : ℕ) → AllPairs (λ p q. p < q) cols
    → (0 < length cols → All (λ slot. slot < get_or cols 0 0) (take first slots)) → AreSearched slots cols first 0
search_start slots cols first rising front = record {
  high = omega arith;
  before = λ within j less. absurd (omega arith);
  behind = λ p j low inside least within.
      let less = in_take (λ slot. slot < get_or cols 0 0) slots first (front (omega arith)) p low inside in
      elim (cases_eq j 0) [
        | inl same ↦ rw same less
        | inr other ↦ let more = rises cols rising 0 j (omega arith) within in omega arith
      ];
}

-- the columns that are passed over are no slots
pub search_away : (slots cols : List ℕ) (at from place : ℕ) → AreSearched slots cols at from → at < length slots
    → AllPairs (λ p q. p < q) slots → IsPlace (get_or slots at 0) cols from place
    → (j : ℕ) → from ≤ j → j < place → All (λ slot. slot ≢ get_or cols j 0) slots
search_away slots cols at from place are within rising is j low less p d inside =
    let high = is.high in
    let col = is.before j less in
    subst (λ slot. slot ≢ get_or cols j 0) (get_or_default slots p 0 d inside) (λ same.
    elim (cases_lt p at) [
      | inl early ↦ let under = are.behind p j early inside low (omega arith) in absurd (omega arith)
      | inr late ↦ elim (cases_eq p at) [
        | inl this ↦ let slot = ap (λ n. get_or slots n 0) this in absurd (omega arith)
        | inr other ↦ let over = rises slots rising at p (omega (arith, other)) inside in absurd (omega arith)
      ]
    ])

-- a slot that is a column
pub search_found : (slots cols : List ℕ) (at from place : ℕ) → AreSearched slots cols at from → at < length slots
    → AllPairs (λ p q. p < q) slots → AllPairs (λ p q. p < q) cols → IsPlace (get_or slots at 0) cols from place
    → place < length cols → get_or cols place 0 ≡ get_or slots at 0 → AreSearched slots cols (at + 1) (place + 1)
search_found slots cols at from place are within rising cols_rise is room same = record {
  high = omega arith;
  before = λ next j less.
      let over = rises slots rising at (at + 1) (omega arith) next in
      elim (cases_eq j place) [
        | inl this ↦ let col = ap (λ n. get_or cols n 0) this in omega arith
        | inr other ↦ let col = is.before j (omega (arith, other)) in omega arith
      ];
  behind = λ p j low inside least end.
      let col = rises cols cols_rise place j (omega arith) end in
      elim (cases_eq p at) [
        | inl this ↦ let slot = ap (λ n. get_or slots n 0) this in omega arith
        | inr other ↦ let from_low = is.low in are.behind p j (omega (arith, other)) inside (omega arith) end
      ];
}

-- a slot that is no column
pub search_missed : (slots cols : List ℕ) (at from place : ℕ) → AreSearched slots cols at from → at < length slots
    → AllPairs (λ p q. p < q) slots → AllPairs (λ p q. p < q) cols → IsPlace (get_or slots at 0) cols from place
    → (place < length cols → get_or cols place 0 ≢ get_or slots at 0) → AreSearched slots cols (at + 1) place
search_missed slots cols at from place are within rising cols_rise is other_col = record {
  high = is.high;
  before = λ next j less.
      let over = rises slots rising at (at + 1) (omega arith) next in
      let col = is.before j less in
      omega arith;
  behind = λ p j low inside least end.
      let over : get_or slots at 0 < get_or cols j 0 =
      elim (cases_eq j place) [
        | inl this ↦
            let col = ap (λ n. get_or cols n 0) this in
            let most = is.behind j least end in
            let differ = other_col (omega arith) in
            omega (arith, differ)
        | inr other ↦
            let most = is.behind place (omega arith) (omega arith) in
            let col = rises cols cols_rise place j (omega (arith, other)) end in
            omega arith
      ] in
      elim (cases_eq p at) [
        | inl this ↦ let slot = ap (λ n. get_or slots n 0) this in omega arith
        | inr other ↦ let from_low = is.low in are.behind p j (omega (arith, other)) inside (omega arith) end
      ];
}

-- once all slots were looked up, the columns that are left are none
pub search_end : (slots cols : List ℕ) (at from : ℕ) → AreSearched slots cols at from → length slots ≤ at
    → (j : ℕ) → from ≤ j → j < length cols → All (λ slot. slot ≢ get_or cols j 0) slots
search_end slots cols at from are end j low within p d inside =
    subst (λ slot. slot ≢ get_or cols j 0) (get_or_default slots p 0 d inside)
    (λ same. let less = are.behind p j (omega arith) inside low within in absurd (omega arith))
