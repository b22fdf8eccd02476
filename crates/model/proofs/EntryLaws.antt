-- The entries of a map, row by row: they lie inside the shape, and make the map.
use Rattle.std.proofs.Common.{◌≡◌, ℕ, zero, suc, ◌+◌, ◌<◌, ◌==◌, ◌&&◌, Bool, true, false, cond, List, [], ◌∷◌, ◌++◌, map, Option, Some, None, refl, subst, sym, inl, inr, ◌∙◌, ap, arith}
use Rattle.std.specs.Prelude.{nat_le, nat_lt}
use Rattle.std.specs.List.{All, cons_option, filter_map, flat_map}
use Rattle.std.specs.Option.{option_map, option_to_list}
use Rattle.std.proofs.lemmas.Bool.{cases_Bool}
use Rattle.std.proofs.lemmas.Bool.Decides.{nat_tests}
use Rattle.std.proofs.lemmas.List.{append-nil, map-append}
use Rattle.std.proofs.lemmas.List.Elements.{All-append, All-cons, All-head, All-nil, All-tail, All-weaker}
use Rattle.algebra.specs.declared.domain.Domain.{Domain}
use Rattle.model.proofs.MarketLaws.{IsListed}
use Rattle.model.specs.declared.entry.Entry.{Entry}
use Rattle.algebra.specs.declared.operator_names.OpName.{OpName}
use Rattle.model.specs.Builds.{gathered, joined_all, words_at}
use Rattle.model.specs.Entries.{below, count_from, entries_of, entry_at, row_entries}
use Rattle.model.specs.Object.{AreWordsOf, Content, IsWithin}
use Rattle.model.specs.Reductions.{all_words, row_words}

-- ---- inside

counted : (first n : ℕ) → All (λ k. k < first + n) (count_from first n)
unfolding count_from
counted first zero = All-nil (λ k. k < first + 0)
counted first (suc n) =
    let low : first < first + suc n = omega arith in
    All-cons (λ k. k < first + suc n) first (count_from (first + 1) n) low
    (All-weaker (λ k. k < first + 1 + n) (λ k. k < first + suc n) (λ k below. omega arith) (count_from (first + 1) n) (counted (first + 1) n))

all_below : (n : ℕ) → All (λ k. k < n) (below n)
all_below n = All-weaker (λ k. k < 0 + n) (λ k. k < n) (λ k low. omega arith) (below n) (counted 0 n)

row-listed : (domain : Domain) (rows cols : ℕ) (c : Content) (i : ℕ) (ks : List ℕ) → AreWordsOf domain c → i < rows
    → All (λ k. k < cols) ks
    → All (IsListed domain rows cols) (filter_map (λ k. option_map (entry_at i k) (c i k)) ks)
row-listed domain rows cols c i [] words low all = All-nil (IsListed domain rows cols)
row-listed domain rows cols c i (k ∷ ks) words low all =
    let rest = row-listed domain rows cols c i ks words low (All-tail (λ k. k < cols) k ks all) in
    let others = filter_map (λ k. option_map (entry_at i k) (c i k)) ks in
    let found : (o : Option ℕ) → c i k ≡ o → All (IsListed domain rows cols) (cons_option (option_map (entry_at i k) o) others) =
    λ o. elim o as (λ o. c i k ≡ o → All (IsListed domain rows cols) (cons_option (option_map (entry_at i k) o) others)) [
      | None ↦ λ none. rest
      | Some word ↦ λ some. All-cons (IsListed domain rows cols) (entry_at i k word) others (record { row = low; col = All-head (λ k. k < cols) k ks all; word = words i k word some }) rest
    ] in
    found (c i k) refl

rows-listed : (domain : Domain) (rows cols : ℕ) (c : Content) (is : List ℕ) → AreWordsOf domain c
    → All (λ i. i < rows) is → All (IsListed domain rows cols) (flat_map (row_entries cols c) is)
rows-listed domain rows cols c [] words all = All-nil (IsListed domain rows cols)
rows-listed domain rows cols c (i ∷ is) words all =
    All-append (IsListed domain rows cols) (row_entries cols c i) (flat_map (row_entries cols c) is)
    (row-listed domain rows cols c i (below cols) words (All-head (λ i. i < rows) i is all) (all_below cols))
    (rows-listed domain rows cols c is words (All-tail (λ i. i < rows) i is all))

-- each lies inside, with a word of the domain
pub entries_of-listed : (domain : Domain) (rows cols : ℕ) (c : Content) → AreWordsOf domain c
    → All (IsListed domain rows cols) (entries_of rows cols c)
unfolding entries_of
entries_of-listed domain rows cols c words = rows-listed domain rows cols c (below rows) words (all_below rows)

-- ---- words alone

words_of_columns : (c : Content) (i : ℕ) (ks : List ℕ)
    → filter_map (λ k. c i k) ks ≡ map (λ (e : Entry). e.word) (filter_map (λ k. option_map (entry_at i k) (c i k)) ks)
words_of_columns c i [] = refl
words_of_columns c i (k ∷ ks) =
    elim (c i k) as (λ o. cons_option o (filter_map (λ k. c i k) ks) ≡ map (λ (e : Entry). e.word) (cons_option (option_map (entry_at i k) o) (filter_map (λ k. option_map (entry_at i k) (c i k)) ks))) [
      | None ↦ words_of_columns c i ks
      | Some w ↦ ap (λ ws. w ∷ ws) (words_of_columns c i ks)
    ]

-- the words of a row are those of its entries
pub row_words-entries : (cols : ℕ) (c : Content) (i : ℕ)
    → row_words cols c i ≡ map (λ (e : Entry). e.word) (row_entries cols c i)
row_words-entries cols c i = words_of_columns c i (below cols)

words_of_rows : (cols : ℕ) (c : Content) (is : List ℕ)
    → flat_map (row_words cols c) is ≡ map (λ (e : Entry). e.word) (flat_map (row_entries cols c) is)
words_of_rows cols c [] = refl
words_of_rows cols c (i ∷ is) =
    rw (row_words-entries cols c i, words_of_rows cols c is) (sym (map-append (λ (e : Entry). e.word) (row_entries cols c i) (flat_map (row_entries cols c) is)))

-- all words are those of all entries
pub all_words-entries : (rows cols : ℕ) (c : Content) → all_words rows cols c ≡ map (λ (e : Entry). e.word)
    (entries_of rows cols c)
unfolding entries_of
all_words-entries rows cols c = words_of_rows cols c (below rows)

-- ---- the map that they make

words_at-append : (es fs : List Entry) (i j : ℕ) → words_at (es ++ fs) i j ≡ words_at es i j ++ words_at fs i j
words_at-append [] fs i j = refl
words_at-append (e ∷ es) fs i j =
    let rest = words_at-append es fs i j in
    elim (cases_Bool ((i == e.row) && (j == e.col))) [
      | inl at ↦ rw at (ap (λ (words : List ℕ). e.word ∷ words) rest)
      | inr away ↦ rw away rest
    ]

-- the entries of some columns of a row have the row's word once
words_at-columns : (c : Content) (row i j n first : ℕ)
    → words_at (filter_map (λ k. option_map (entry_at row k) (c row k)) (count_from first n)) i j ≡ cond ((i == row) && (nat_le first j && nat_lt j (first + n))) (option_to_list (c row j)) []
unfolding count_from
words_at-columns c row i j zero first =
    let outside : ((i == row) && (nat_le first j && nat_lt j (first + 0))) ≡ false = grind (arith, nat_tests) in
    rw outside refl
words_at-columns c row i j (suc n) first =
    let rest = words_at-columns c row i j n (first + 1) in
    let others = filter_map (λ k. option_map (entry_at row k) (c row k)) (count_from (first + 1) n) in
    elim (cases_Bool ((i == row) && (j == first))) [
      | inl here ↦
          let later : ((i == row) && (nat_le (first + 1) j && nat_lt j (first + 1 + n))) ≡ false = grind (arith, nat_tests) in
          let inside : ((i == row) && (nat_le first j && nat_lt j (first + suc n))) ≡ true = grind (arith, nat_tests) in
          let col : first ≡ j = grind (arith, nat_tests) in
          let none : words_at others i j ≡ [] = rw later at rest in
          rw inside (subst (λ (k : ℕ). words_at (cons_option (option_map (entry_at row first) (c row first)) others) i j ≡ option_to_list (c row k)) col
          (elim (c row first) as (λ o. words_at (cons_option (option_map (entry_at row first) o) others) i j ≡ option_to_list o) [
            | None ↦ none
            | Some word ↦ rw here (ap (λ (words : List ℕ). word ∷ words) none)
          ]))
      | inr away ↦
          let same : ((i == row) && (nat_le (first + 1) j && nat_lt j (first + 1 + n))) ≡ ((i == row) && (nat_le first j && nat_lt j (first + suc n))) = grind (arith, nat_tests) in
          rw (← same) (elim (c row first) as (λ o. words_at (cons_option (option_map (entry_at row first) o) others) i j ≡ cond ((i == row) && (nat_le (first + 1) j && nat_lt j (first + 1 + n))) (option_to_list (c row j)) []) [
            | None ↦ rest
            | Some word ↦ rw away rest
          ])
    ]

-- ..and those of some rows
words_at-rows : (cols : ℕ) (c : Content) (i j n first : ℕ)
    → words_at (flat_map (row_entries cols c) (count_from first n)) i j ≡ cond ((nat_le first i && nat_lt i (first + n)) && nat_lt j cols) (option_to_list (c i j)) []
unfolding count_from
words_at-rows cols c i j zero first =
    let outside : ((nat_le first i && nat_lt i (first + 0)) && nat_lt j cols) ≡ false = grind (arith, nat_tests) in
    rw outside refl
words_at-rows cols c i j (suc n) first =
    let rest = words_at-rows cols c i j n (first + 1) in
    let others = flat_map (row_entries cols c) (count_from (first + 1) n) in
    let row = words_at-columns c first i j cols 0 in
    words_at-append (row_entries cols c first) others i j
    ∙ elim (cases_Bool (i == first)) as (λ x. words_at (row_entries cols c first) i j ++ words_at others i j ≡ cond ((nat_le first i && nat_lt i (first + suc n)) && nat_lt j cols) (option_to_list (c i j)) []) [
      | inl here ↦
          let later : ((nat_le (first + 1) i && nat_lt i (first + 1 + n)) && nat_lt j cols) ≡ false = grind (arith, nat_tests) in
          let same : ((i == first) && (nat_le 0 j && nat_lt j (0 + cols))) ≡ ((nat_le first i && nat_lt i (first + suc n)) && nat_lt j cols) = grind (arith, nat_tests) in
          let at : first ≡ i = grind (arith, nat_tests) in
          let none : words_at others i j ≡ [] = rw later at rest in
          let words : words_at (row_entries cols c first) i j ≡ cond ((nat_le first i && nat_lt i (first + suc n)) && nat_lt j cols) (option_to_list (c first j)) [] = rw same at row in
          rw none (append-nil (words_at (row_entries cols c first) i j) ∙ words
          ∙ ap (λ (k : ℕ). cond ((nat_le first i && nat_lt i (first + suc n)) && nat_lt j cols) (option_to_list (c k j)) []) at)
      | inr away ↦
          let none : words_at (row_entries cols c first) i j ≡ [] = rw away at row in
          let same : ((nat_le (first + 1) i && nat_lt i (first + 1 + n)) && nat_lt j cols) ≡ ((nat_le first i && nat_lt i (first + suc n)) && nat_lt j cols) = grind (arith, nat_tests) in
          rw (none, ← same) rest
    ]

-- ..and all inside a shape
pub words_at-entries_of : (rows cols : ℕ) (c : Content) (i j : ℕ)
    → words_at (entries_of rows cols c) i j ≡ cond (nat_lt i rows && nat_lt j cols) (option_to_list (c i j)) []
unfolding entries_of
words_at-entries_of rows cols c i j =
    let same : ((nat_le 0 i && nat_lt i (0 + rows)) && nat_lt j cols) ≡ (nat_lt i rows && nat_lt j cols) = grind (arith, nat_tests) in
    rw same at (words_at-rows cols c i j rows 0)

joined_all-option : (dup : Option OpName) (o : Option ℕ) → joined_all dup (option_to_list o) ≡ o
joined_all-option dup None = refl
joined_all-option dup (Some word) = refl

within-option : (b : Bool) (o : Option ℕ) → (b ≡ false → o ≡ None) → cond b (option_to_list o) [] ≡ option_to_list o
within-option true o outside = refl
within-option false o outside = rw (outside refl) refl

-- the entries of a map make this map, whatever joins the words of one position
pub gathered-entries_of : (dup : Option OpName) (rows cols : ℕ) (c : Content) → IsWithin rows cols c → (i j : ℕ)
    → gathered dup (entries_of rows cols c) i j ≡ c i j
gathered-entries_of dup rows cols c within i j =
    ap (joined_all dup) (words_at-entries_of rows cols c i j ∙ within-option (nat_lt i rows && nat_lt j cols) (c i j) (within i j)) ∙ joined_all-option dup (c i j)
