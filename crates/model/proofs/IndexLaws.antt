-- Lists of indices, and the same indices in rising order.
use Rattle.std.proofs.Common.{◌≡◌, ◌≢◌, ℕ, zero, suc, ◌+◌, ◌-◌, ◌<◌, ◌≤◌, Bool, true, false, not, cond, eqb, ltb, List, [], ◌∷◌, length, get_or, refl, sym, ◌∙◌, inl, inr, arith}
use Rattle.std.specs.List.{All, AllPairs, AllPass, list_all, sum_by}
use Rattle.std.specs.List.Sorted.{IsNonDecreasing, IsPermutation}
use Rattle.std.proofs.lemmas.Bool.{cases_Bool, eq-eqb, eqb-true, ne_eqb, false≢true}
use Rattle.std.proofs.lemmas.Bool.Decides.{nat_tests}
use Rattle.std.proofs.lemmas.List.Elements.{All-head, All-tail}
use Rattle.std.proofs.lemmas.List.Sorted.{All-permutation, IsPermutation-sym, sum_by-IsPermutation}
use Rattle.std.proofs.lemmas.List.Sums.{AllPass-from_list_all, list_all-from_AllPass}
use Rattle.std.proofs.lemmas.List.Recursion.{is_count_by}
use Rattle.std.proofs.lemmas.List.{get_or_default}
use Rattle.model.specs.Indices.{is_distinct}

-- two tests that are true together are one
same_tests : (a b : Bool) → (a ≡ true → b ≡ true) → (b ≡ true → a ≡ true) → a ≡ b
same_tests true true f g = refl
same_tests true false f g = absurd (false≢true (f refl))
same_tests false true f g = absurd (false≢true (g refl))
same_tests false false f g = refl

-- a list and its permutation pass a test alike
pub list_all-permutation : (p : ℕ → Bool) (xs ys : List ℕ) → IsPermutation xs ys → list_all p ys ≡ list_all p xs
list_all-permutation p xs ys same =
    same_tests (list_all p ys) (list_all p xs)
    (λ h. list_all-from_AllPass p xs (All-permutation (λ x. p x ≡ true) ys xs (IsPermutation-sym xs ys same) (AllPass-from_list_all p ys h)))
    (λ h. list_all-from_AllPass p ys (All-permutation (λ x. p x ≡ true) xs ys same (AllPass-from_list_all p xs h)))

-- ---- none is repeated

-- how often a number is in a list
unfoldable times_in : ℕ → List ℕ → ℕ
times_in v [] = 0
times_in v (x ∷ xs) = cond (eqb v x) (1 + times_in v xs) (times_in v xs)

times_none : (v : ℕ) → times_in v [] ≡ 0
unfolding times_in
times_none v = refl

times_here : (v x : ℕ) (xs : List ℕ) → eqb v x ≡ true → times_in v (x ∷ xs) ≡ 1 + times_in v xs
unfolding times_in
times_here v x xs same = rw same refl

times_other : (v x : ℕ) (xs : List ℕ) → eqb v x ≡ false → times_in v (x ∷ xs) ≡ times_in v xs
unfolding times_in
times_other v x xs other = rw other refl

times_fewer : (v x : ℕ) (xs : List ℕ) → times_in v xs ≤ times_in v (x ∷ xs)
times_fewer v x xs = elim (cases_Bool (eqb v x)) [
  | inl same ↦ omega (arith, times_here v x xs same)
  | inr other ↦ omega (arith, times_other v x xs other)
]

times_count : (v : ℕ) (xs : List ℕ) → times_in v xs ≡ sum_by (λ y. cond (eqb v y) 1 0) xs
unfolding times_in
times_count v xs = is_count_by (times_in v) (λ y. eqb v y) refl (λ x xs. refl) xs

-- a number that differs from each is in the list no time
count_of_other : (x : ℕ) (xs : List ℕ) → list_all (λ y. not (eqb x y)) xs ≡ true → times_in x xs ≡ 0
count_of_other x [] h = times_none x
count_of_other x (y ∷ ys) h = elim (cases_Bool (eqb x y)) [
  | inl same ↦ absurd (false≢true (rw same at h))
  | inr other ↦ times_other x y ys other ∙ count_of_other x ys (rw other at h)
]

other_of_count : (x : ℕ) (xs : List ℕ) → times_in x xs ≡ 0 → list_all (λ y. not (eqb x y)) xs ≡ true
other_of_count x [] h = refl
other_of_count x (y ∷ ys) h = elim (cases_Bool (eqb x y)) [
  | inl same ↦ absurd (omega (arith, times_here x y ys same, h))
  | inr other ↦ rw other (other_of_count x ys (sym (times_other x y ys other) ∙ h))
]

-- each number is in a list without repeats at most once
count_of_distinct : (xs : List ℕ) → is_distinct xs ≡ true → (v : ℕ) → times_in v xs ≤ 1
count_of_distinct [] h v = omega (arith, times_none v)
count_of_distinct (x ∷ xs) h v = elim (cases_Bool (list_all (λ y. not (eqb x y)) xs)) [
  | inl apart ↦ elim (cases_Bool (eqb v x)) [
    | inl same ↦
        let none : times_in v xs ≡ 0 = rw (eqb-true v x same) (count_of_other x xs apart) in
        omega (arith, times_here v x xs same, none)
    | inr other ↦ omega (arith, times_other v x xs other, count_of_distinct xs (rw apart at h) v)
  ]
  | inr twice ↦ absurd (false≢true (rw twice at h))
]

distinct_of_count : (xs : List ℕ) → ((v : ℕ) → times_in v xs ≤ 1) → is_distinct xs ≡ true
distinct_of_count [] h = refl
distinct_of_count (x ∷ xs) h =
    let apart = other_of_count x xs (omega (arith, times_here x x xs (eq-eqb x x refl), h x)) in
    rw apart (distinct_of_count xs (λ v. omega (arith, times_fewer v x xs, h v)))

-- a list and its permutation repeat a number, or both do not
pub is_distinct-permutation : (xs ys : List ℕ) → IsPermutation xs ys → is_distinct ys ≡ is_distinct xs
is_distinct-permutation xs ys same =
    let alike = λ (v : ℕ). times_count v ys ∙ sum_by-IsPermutation (λ y. cond (eqb v y) 1 0) xs ys same ∙ sym (times_count v xs) in
    same_tests (is_distinct ys) (is_distinct xs)
    (λ h. distinct_of_count xs (λ v. let few = count_of_distinct ys h v in omega (arith, alike v)))
    (λ h. distinct_of_count ys (λ v. let few = count_of_distinct xs h v in omega (arith, alike v)))

-- ---- of numbers that rise

-- all are below a bound where the last is
pub last_below : (size : ℕ) (xs : List ℕ) (last : ℕ) → IsNonDecreasing xs → 0 < length xs
    → last ≡ get_or xs (length xs - 1) 0 → ltb last size ≡ list_all (λ i. ltb i size) xs
last_below size xs last rises some is =
    same_tests (ltb last size) (list_all (λ i. ltb i size) xs)
    (λ h. list_all-from_AllPass (λ i. ltb i size) xs (λ k d within.
    let most : get_or xs k d ≤ get_or xs (length xs - 1) d = rises k (length xs - 1) d (omega arith) (omega arith) in
    let same = get_or_default xs (length xs - 1) d 0 (omega arith) in
    grind (arith, nat_tests)))
    (λ h. let each : ltb (get_or xs (length xs - 1) 0) size ≡ true = AllPass-from_list_all (λ i. ltb i size) xs h (length xs - 1) 0 (omega arith) in rw is each)

-- a number below all of a list is none of them
below_differs : (x : ℕ) (xs : List ℕ) → All (λ y. x < y) xs → list_all (λ y. not (eqb x y)) xs ≡ true
below_differs x [] less = refl
below_differs x (y ∷ ys) less =
    let first = All-head (λ y. x < y) y ys less in
    rw (ne_eqb x y (λ same. absurd (omega arith))) (below_differs x ys (All-tail (λ y. x < y) y ys less))

-- numbers of which each is below all later ones
rising_distinct : (xs : List ℕ) → AllPairs (λ x y. x < y) xs → is_distinct xs ≡ true
rising_distinct [] rises = refl
rising_distinct (x ∷ xs) rises =
    rw (below_differs x xs (λ k d within. rises 0 (suc k) d (omega arith) (omega arith)))
    (rising_distinct xs (λ i j d low within. rises (suc i) (suc j) d (omega arith) (omega arith)))

-- neighbours that differ, of the first n numbers
abbrev pub NeighboursDiffer : List ℕ → ℕ → Type 0
NeighboursDiffer xs n = (k : ℕ) → 0 < k → k < n → get_or xs (k - 1) 0 ≢ get_or xs k 0

-- numbers that rise are distinct where neighbours differ
pub neighbours_distinct : (xs : List ℕ) → IsNonDecreasing xs → NeighboursDiffer xs (length xs) → is_distinct xs ≡ true
neighbours_distinct xs rises differ = rising_distinct xs (λ i j d low within.
    let up = rises i (j - 1) d (omega arith) (omega arith) in
    let next = rises (j - 1) j d (omega arith) within in
    let other = differ j (omega arith) within in
    let here = get_or_default xs j d 0 within in
    let before = get_or_default xs (j - 1) d 0 (omega arith) in
    omega arith)

places_apart : (x : ℕ) (xs : List ℕ) → AllPass (λ y. not (eqb x y)) xs
    → ((i j : ℕ) → i < j → j < length xs → get_or xs i 0 ≢ get_or xs j 0)
    → (i j : ℕ) → i < j → j < length (x ∷ xs) → get_or (x ∷ xs) i 0 ≢ get_or (x ∷ xs) j 0
places_apart x xs first rest i zero low within = absurd (omega arith)
places_apart x xs first rest zero (suc j) low within = λ same. let other : not (eqb x (get_or xs j 0)) ≡ true = first j 0 (omega arith) in absurd (false≢true (rw (eq-eqb x (get_or xs j 0) same) at other))
places_apart x xs first rest (suc i) (suc j) low within = rest i j (omega arith) (omega arith)

-- numbers of a list without repeats differ at each two places
distinct_apart : (xs : List ℕ) → is_distinct xs ≡ true → (i j : ℕ) → i < j → j < length xs
    → get_or xs i 0 ≢ get_or xs j 0
distinct_apart [] h i j low within = absurd (omega arith)
distinct_apart (x ∷ xs) h i j low within = elim (cases_Bool (list_all (λ y. not (eqb x y)) xs)) [
  | inl apart ↦ places_apart x xs (AllPass-from_list_all (λ y. not (eqb x y)) xs apart) (distinct_apart xs (rw apart at h)) i j low within
  | inr twice ↦ absurd (false≢true (rw twice at h))
]

-- a number that stands at two neighbouring places is repeated
pub neighbours_same : (xs : List ℕ) (k : ℕ) → 0 < k → k < length xs → get_or xs (k - 1) 0 ≡ get_or xs k 0
    → is_distinct xs ≡ false
neighbours_same xs k some within same = elim (cases_Bool (is_distinct xs)) [
  | inl apart ↦ absurd (distinct_apart xs apart (k - 1) k (omega arith) within same)
  | inr twice ↦ twice
]
