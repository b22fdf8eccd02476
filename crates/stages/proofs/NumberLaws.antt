-- Lists of the numbers that pass a test.
use Rattle.std.proofs.Common.{inl, inr, ◌≡◌, ◌≢◌, ◌∙◌, ℕ, zero, suc, ◌+◌, ◌-◌, ◌<◌, ◌≤◌, ◌&&◌, ◌||◌, Bool, true, false, cond, eqb, not, List, [], ◌∷◌, ◌++◌, length, Some, slice_get, refl, sym, ap, arith, subst, length-append, ◌⊎◌}
use Rattle.std.specs.Prelude.{insert, remove}
use Rattle.std.proofs.lemmas.Bool.{both_ways, cases_Bool, cases_eq, cases_lt, eqb-true, eq-eqb, ne_eqb}
use Rattle.std.proofs.lemmas.List.{append-nil}
use Rattle.std.proofs.lemmas.List.Edits.{insert_end, insert-append_left, remove-append_left, remove-append_right}
use Rattle.std.proofs.lemmas.Option.{slice_get_within}
use Rattle.stages.specs.Numbers.{IsPlace, numbers, has}
use Rattle.stages.proofs.ListLaws.{get_snoc, get_there}

-- tests that agree below n
pub numbers_same : (p q : ℕ → Bool) (n : ℕ) → ((k : ℕ) → k < n → p k ≡ q k) → numbers p n ≡ numbers q n
numbers_same p q zero same = refl
numbers_same p q (suc n) same =
    let rest : numbers p n ≡ numbers q n = numbers_same p q n (λ k h. same k (omega arith)) in
    let here : p n ≡ q n = same n (omega arith) in
    cc (rest, here)

-- none of them is as large as n
pub numbers_below : (p : ℕ → Bool) (n i k : ℕ) → slice_get (numbers p n) i ≡ Some k → (k < n) × (p k ≡ true)
numbers_below p zero i k h = absurd cc
numbers_below p (suc n) i k h = elim (cases_Bool (p n)) [
  | inl pass ↦
      let list : numbers p n ++ (cond (p n) (n ∷ []) []) ≡ numbers p n ++ n ∷ [] = ap (λ b. numbers p n ++ (cond b (n ∷ []) [])) pass in
      at_end (numbers p n) n i k (ap (λ l. slice_get l i) (sym list) ∙ h)
      (λ e. (subst (λ x. x < suc n) e (omega arith), subst (λ x. p x ≡ true) e pass))
      (λ there. let r = numbers_below p n i k there in (omega (arith, r.0), r.1))
  | inr fails ↦
      let list : numbers p n ++ (cond (p n) (n ∷ []) []) ≡ numbers p n = ap (λ b. numbers p n ++ (cond b (n ∷ []) [])) fails ∙ append-nil (numbers p n) in
      let r = numbers_below p n i k (ap (λ l. slice_get l i) (sym list) ∙ h) in (omega (arith, r.0), r.1)
]
  where
    at_end : {P : Type 0} (xs : List ℕ) (y i k : ℕ) → slice_get (xs ++ y ∷ []) i ≡ Some k → (y ≡ k → P) → (slice_get xs i ≡ Some k → P) → P
    at_end [] y zero k h last other = last (cc (h))
    at_end [] y (suc i) k h last other = absurd cc
    at_end (x ∷ xs) y zero k h last other = other h
    at_end (x ∷ xs) y (suc i) k h last other = at_end xs y i k h last other

pub length_numbers : (p : ℕ → Bool) (n : ℕ) → length (numbers p n) ≤ n
length_numbers p zero = omega arith
length_numbers p (suc n) = elim (cases_Bool (p n)) [
  | inl pass ↦ let list : numbers p n ++ (cond (p n) (n ∷ []) []) ≡ numbers p n ++ n ∷ [] = ap (λ b. numbers p n ++ (cond b (n ∷ []) [])) pass in
      omega (arith, ap length list, length-append (numbers p n) (n ∷ []), length_numbers p n)
  | inr fails ↦ let list : numbers p n ++ (cond (p n) (n ∷ []) []) ≡ numbers p n = ap (λ b. numbers p n ++ (cond b (n ∷ []) [])) fails ∙ append-nil (numbers p n) in
      omega (arith, ap length list, length_numbers p n)
]

-- one of them passes fails longer
pub numbers_remove : (p q : ℕ → Bool) (n i j : ℕ) → slice_get (numbers p n) i ≡ Some j → q j ≡ false → ((k : ℕ) → k ≢ j → q k ≡ p k)
    → numbers q n ≡ remove (numbers p n) i
numbers_remove p q zero i j at fails others = absurd cc
numbers_remove p q (suc n) i j at fails others = elim (cases_lt i (length (numbers p n))) [
  | inl left ↦
      let here : slice_get (numbers p n) i ≡ Some j = get_left (numbers p n) (cond (p n) (n ∷ []) []) i left ∙ at in
      let rest = numbers_remove p q n i j here fails others in
      let low = numbers_below p n i j here in
      let far : n ≢ j = omega (arith, low.0) in
      let same : q n ≡ p n = others n far in
      ap (λ b. numbers q n ++ (cond b (n ∷ []) [])) same ∙ (ap (λ l. l ++ (cond (p n) (n ∷ []) [])) rest ∙ sym (remove-append_left (numbers p n) (cond (p n) (n ∷ []) []) i left))
  | inr right ↦ elim (cases_Bool (p n)) [
    | inl pass ↦
        let list : numbers p n ++ (cond (p n) (n ∷ []) []) ≡ numbers p n ++ n ∷ [] = ap (λ b. numbers p n ++ (cond b (n ∷ []) [])) pass in
        let last = get_right (numbers p n) n i j right (ap (λ l. slice_get l i) (sym list) ∙ at) in
        let rest : numbers q n ≡ numbers p n = numbers_same q p n (λ k h. others k (omega (arith, last.1))) in
        let gone : q n ≡ false = ap q (last.1) ∙ fails in
        ap (λ b. numbers q n ++ (cond b (n ∷ []) [])) gone ∙ (append-nil (numbers q n) ∙ (rest
        ∙ (sym (append-nil (numbers p n)) ∙ (sym (remove-append_right (numbers p n) (n ∷ []) (length (numbers p n)) (length (numbers p n)) refl (omega arith) ∙ ap (λ m. numbers p n ++ remove (n ∷ []) m) (let z : length (numbers p n) - length (numbers p n) ≡ 0 = omega arith in z))
        ∙ (ap (λ m. remove (numbers p n ++ n ∷ []) m) (sym last.0) ∙ ap (λ l. remove l i) (sym list))))))
    | inr fails_here ↦
        let list : numbers p n ++ (cond (p n) (n ∷ []) []) ≡ numbers p n = ap (λ b. numbers p n ++ (cond b (n ∷ []) [])) fails_here ∙ append-nil (numbers p n) in
        let within = slice_get_within (numbers p n) i j (ap (λ l. slice_get l i) (sym list) ∙ at) in
        absurd (omega (arith, within))
  ]
]
  where
    get_left : (xs ys : List ℕ) (i : ℕ) → i < length xs → slice_get xs i ≡ slice_get (xs ++ ys) i
    get_left [] ys i h = absurd (omega arith)
    get_left (x ∷ xs) ys zero h = refl
    get_left (x ∷ xs) ys (suc i) h = get_left xs ys i (omega arith)

    get_right : (xs : List ℕ) (y i k : ℕ) → length xs ≤ i → slice_get (xs ++ y ∷ []) i ≡ Some k → (i ≡ length xs) × (y ≡ k)
    get_right [] y zero k h at = (refl, cc (at))
    get_right [] y (suc i) k h at = absurd cc
    get_right (x ∷ xs) y zero k h at = absurd (omega arith)
    get_right (x ∷ xs) y (suc i) k h at = let r = get_right xs y i k (omega arith) at in (ap suc r.0, r.1)

-- one more passes, where those before a place are below it and those from there on above
pub numbers_insert : (p q : ℕ → Bool) (n i j : ℕ) → j < n → p j ≡ false → q j ≡ true → ((k : ℕ) → k ≢ j → q k ≡ p k)
    → i ≤ length (numbers p n)
    → ((m k : ℕ) → m < i → slice_get (numbers p n) m ≡ Some k → k < j)
    → ((m k : ℕ) → i ≤ m → slice_get (numbers p n) m ≡ Some k → j < k)
    → numbers q n ≡ insert (numbers p n) i j
numbers_insert p q zero i j low fails pass others within before after = absurd (omega arith)
numbers_insert p q (suc n) i j low fails pass others within before after = elim (cases_eq n j) [
  | inl e ↦
      let rest : numbers q n ≡ numbers p n = numbers_same q p n (λ k h. others k (omega (arith, e))) in
      let q_here : q n ≡ true = ap q e ∙ pass in
      let p_here : p n ≡ false = ap p e ∙ fails in
      let list : numbers p n ++ (cond (p n) (n ∷ []) []) ≡ numbers p n = ap (λ b. numbers p n ++ (cond b (n ∷ []) [])) p_here ∙ append-nil (numbers p n) in
      let end : i ≡ length (numbers p n) = at_the_end p n i j e (omega (arith, within, ap length list)) (λ m k h at. after m k h (ap (λ l. slice_get l m) list ∙ at)) in
      ap (λ b. numbers q n ++ (cond b (n ∷ []) [])) q_here ∙ (ap (λ l. l ++ n ∷ []) rest ∙ (ap (λ x. numbers p n ++ x ∷ []) e
      ∙ (sym (insert_end (numbers p n) j) ∙ (ap (λ m. insert (numbers p n) m j) (sym end) ∙ ap (λ l. insert l i j) (sym list)))))
  | inr far ↦
      let same : q n ≡ p n = others n far in
      elim (cases_Bool (p n)) [
        | inl p_here ↦
            let list : numbers p n ++ (cond (p n) (n ∷ []) []) ≡ numbers p n ++ n ∷ [] = ap (λ b. numbers p n ++ (cond b (n ∷ []) [])) p_here in
            let len : length (numbers p (suc n)) ≡ length (numbers p n) + 1 = ap length list ∙ length-append (numbers p n) (n ∷ []) in
            let le : i ≤ length (numbers p n) = elim (cases_lt (length (numbers p n)) i) [
              | inl past ↦ let lower = before (length (numbers p n)) n past (ap (λ l. slice_get l (length (numbers p n))) list ∙ get_last (numbers p n) n) in absurd (omega (arith, lower))
              | inr fine ↦ fine
            ] in
            let rest = numbers_insert p q n i j (omega arith) fails pass others le
            (λ m k h at. before m k h (ap (λ l. slice_get l m) list ∙ get_more (numbers p n) n m k at))
            (λ m k h at. after m k h (ap (λ l. slice_get l m) list ∙ get_more (numbers p n) n m k at)) in
            ap (λ b. numbers q n ++ (cond b (n ∷ []) [])) (same ∙ p_here) ∙ (ap (λ l. l ++ n ∷ []) rest
            ∙ (sym (insert-append_left (numbers p n) (n ∷ []) i j le) ∙ ap (λ l. insert l i j) (sym list)))
        | inr p_here ↦
            let list : numbers p n ++ (cond (p n) (n ∷ []) []) ≡ numbers p n = ap (λ b. numbers p n ++ (cond b (n ∷ []) [])) p_here ∙ append-nil (numbers p n) in
            let rest = numbers_insert p q n i j (omega arith) fails pass others (omega (arith, within, ap length list))
            (λ m k h at. before m k h (ap (λ l. slice_get l m) list ∙ at))
            (λ m k h at. after m k h (ap (λ l. slice_get l m) list ∙ at)) in
            ap (λ b. numbers q n ++ (cond b (n ∷ []) [])) (same ∙ p_here) ∙ (append-nil (numbers q n) ∙ (rest ∙ ap (λ l. insert l i j) (sym list)))
      ]
]
  where
    get_last : (xs : List ℕ) (y : ℕ) → slice_get (xs ++ y ∷ []) (length xs) ≡ Some y
    get_last [] y = refl
    get_last (x ∷ xs) y = get_last xs y

    get_more : (xs : List ℕ) (y m k : ℕ) → slice_get xs m ≡ Some k → slice_get (xs ++ y ∷ []) m ≡ Some k
    get_more [] y m k h = absurd cc
    get_more (x ∷ xs) y zero k h = h
    get_more (x ∷ xs) y (suc m) k h = get_more xs y m k h

    there : (xs : List ℕ) (m : ℕ) → m < length xs → (k : ℕ) × (slice_get xs m ≡ Some k)
    there [] m h = absurd (omega arith)
    there (x ∷ xs) zero h = (x, refl)
    there (x ∷ xs) (suc m) h = there xs m (omega arith)

    at_the_end : (p : ℕ → Bool) (n i j : ℕ) → n ≡ j → i ≤ length (numbers p n) → ((m k : ℕ) → i ≤ m → slice_get (numbers p n) m ≡ Some k → j < k) → i ≡ length (numbers p n)
    at_the_end p n i j e within after = elim (cases_lt i (length (numbers p n))) [
      | inl inside ↦ let (k, at) = there (numbers p n) i inside in let low = numbers_below p n i k at in let high = after i k (omega arith) at in absurd (omega (arith, low.0, high, e))
      | inr fine ↦ omega (arith, within)
    ]

-- a number that passes is among them
pub numbers_has : (p : ℕ → Bool) (n j : ℕ) → j < n → p j ≡ true → has j (numbers p n) ≡ true
numbers_has p zero j low pass = absurd (omega arith)
numbers_has p (suc n) j low pass = elim (cases_eq n j) [
  | inl e ↦ let here : p n ≡ true = ap p e ∙ pass in
      ap (λ b. has j (numbers p n ++ (cond b (n ∷ []) []))) here ∙ has_last (numbers p n) n j e
  | inr far ↦ has_more (numbers p n) (cond (p n) (n ∷ []) []) j (numbers_has p n j (omega arith) pass)
]
  where
    has_last : (xs : List ℕ) (y j : ℕ) → y ≡ j → has j (xs ++ y ∷ []) ≡ true
    has_last [] y j e = ap (λ b. b || false) (eq-eqb y j e)
    has_last (x ∷ xs) y j e = elim (cases_Bool (eqb x j)) [
      | inl h ↦ ap (λ b. b || has j (xs ++ y ∷ [])) h
      | inr h ↦ ap (λ b. b || has j (xs ++ y ∷ [])) h ∙ has_last xs y j e
    ]

    has_more : (xs ys : List ℕ) (j : ℕ) → has j xs ≡ true → has j (xs ++ ys) ≡ true
    has_more [] ys j h = absurd cc
    has_more (x ∷ xs) ys j h = elim (cases_Bool (eqb x j)) [
      | inl e ↦ ap (λ b. b || has j (xs ++ ys)) e
      | inr e ↦ ap (λ b. b || has j (xs ++ ys)) e ∙ has_more xs ys j (sym (ap (λ b. b || has j xs) e) ∙ h)
    ]

-- they rise
pub numbers_rise : (p : ℕ → Bool) (n i j a b : ℕ) → i < j → slice_get (numbers p n) i ≡ Some a → slice_get (numbers p n) j ≡ Some b → a < b
numbers_rise p zero i j a b low at_i at_j = absurd cc
numbers_rise p (suc n) i j a b low at_i at_j = elim (cases_Bool (p n)) [
  | inl pass ↦
      let list : numbers p n ++ (cond (p n) (n ∷ []) []) ≡ numbers p n ++ n ∷ [] = ap (λ b. numbers p n ++ (cond b (n ∷ []) [])) pass in
      rising (numbers p n) n (λ m k at. (numbers_below p n m k at).0) (λ i j a b. numbers_rise p n i j a b) i j a b low (ap (λ l. slice_get l i) (sym list) ∙ at_i) (ap (λ l. slice_get l j) (sym list) ∙ at_j)
  | inr fails ↦
      let list : numbers p n ++ (cond (p n) (n ∷ []) []) ≡ numbers p n = ap (λ b. numbers p n ++ (cond b (n ∷ []) [])) fails ∙ append-nil (numbers p n) in
      numbers_rise p n i j a b low (ap (λ l. slice_get l i) (sym list) ∙ at_i) (ap (λ l. slice_get l j) (sym list) ∙ at_j)
]
  where
    rising : (xs : List ℕ) (y : ℕ) → ((m k : ℕ) → slice_get xs m ≡ Some k → k < y)
        → ((i j a b : ℕ) → i < j → slice_get xs i ≡ Some a → slice_get xs j ≡ Some b → a < b)
        → (i j a b : ℕ) → i < j → slice_get (xs ++ y ∷ []) i ≡ Some a → slice_get (xs ++ y ∷ []) j ≡ Some b → a < b
    rising xs y all rises i j a b low at_i at_j = get_snoc xs i y a at_i
        (λ e same. get_snoc xs j y b at_j (λ f same_too. absurd (omega (arith, e, f, low))) (λ l there. absurd (omega (arith, e, l, low))))
        (λ l there. get_snoc xs j y b at_j (λ f same. omega (arith, all i a there, same)) (λ l_too there_too. rises i j a b low there there_too))

before_place : (p : ℕ → Bool) (n number place m k : ℕ) → IsPlace (numbers p n) number place → m < place → slice_get (numbers p n) m ≡ Some k → k < number
before_place p n number zero m k is low at = absurd (omega (arith, low))
before_place p n number (suc place) m k is low at = elim (cases_eq m place) [
  | inl e ↦ is.below m k (ap suc e) at
  | inr far ↦
      let (last, there) = get_there (numbers p n) place (omega (arith, is.within)) in
      let less = is.below place last refl there in
      let rise = numbers_rise p n m place k last (omega (arith, low, far)) at there in
      omega (arith, less, rise)
]

find_has : (xs : List ℕ) (y : ℕ) → has y xs ≡ true → (m : ℕ) × (slice_get xs m ≡ Some y)
find_has [] y h = absurd cc
find_has (x ∷ xs) y h = elim (cases_Bool (eqb x y)) [
  | inl e ↦ (zero, ap Some (eqb-true x y e))
  | inr e ↦ let (m, at) = find_has xs y (sym (ap (λ b. b || has y xs) e) ∙ h) in (suc m, at)
]

unpassed_by : (p : ℕ → Bool) (n number place : ℕ) → IsPlace (numbers p n) number place → number < n → (slice_get (numbers p n) place ≡ Some number → ⊥)
    → (p number ≡ true) ⊎ (p number ≡ false) → p number ≡ false
unpassed_by p n number place is low missing (inr h) = h
unpassed_by p n number place is low missing (inl h) =
    let (m, at) = find_has (numbers p n) number (numbers_has p n number low h) in
    elim (cases_lt m place) [
      | inl left ↦ absurd (let l = before_place p n number place m number is left at in omega (arith, l))
      | inr right ↦ elim (cases_eq m place) [
        | inl e ↦ absurd (missing (ap (slice_get (numbers p n)) (sym e) ∙ at))
        | inr far ↦
            let (first, there) = get_there (numbers p n) place (let w = slice_get_within (numbers p n) m number at in omega (arith, w, right)) in
            let low_too = is.above place first (omega arith) there in
            let rise = numbers_rise p n place m first number (omega (arith, right, far)) there at in
            absurd (omega (arith, low_too, rise))
      ]
    ]

unpassed : (p : ℕ → Bool) (n number place : ℕ) → IsPlace (numbers p n) number place → number < n → (slice_get (numbers p n) place ≡ Some number → ⊥) → p number ≡ false
unpassed p n number place is low missing = unpassed_by p n number place is low missing (cases_Bool (p number))

-- a number that is put at its place where it isn't there
pub numbers_with : (p : ℕ → Bool) (n number place : ℕ) → IsPlace (numbers p n) number place → number < n → (slice_get (numbers p n) place ≡ Some number → ⊥)
    → numbers (λ k. p k || eqb k number) n ≡ insert (numbers p n) place number
numbers_with p n number place is low missing =
    let fails : p number ≡ false = unpassed p n number place is low missing in
    numbers_insert p (λ k. p k || eqb k number) n place number low fails
    (ap (λ b. b || eqb number number) fails ∙ eq-eqb number number refl)
    (λ k far. ap (λ b. p k || b) (ne_eqb k number far) ∙ or_false (p k))
    is.within
    (λ m k l at. before_place p n number place m k is l at)
    (λ m k l at. let low_too = is.above m k l at in
    let other : k ≢ number = λ e. both_ways (p number) fails (ap p (sym e) ∙ (numbers_below p n m k at).1) in omega (arith, low_too, other))
  where
    or_false : (b : Bool) → (b || false) ≡ b
    or_false true = refl
    or_false false = refl

-- ..and one that is there already
pub numbers_with_same : (p : ℕ → Bool) (n number place : ℕ) → slice_get (numbers p n) place ≡ Some number
    → numbers (λ k. p k || eqb k number) n ≡ numbers p n
numbers_with_same p n number place is =
    let passed : p number ≡ true = (numbers_below p n place number is).1 in
    numbers_same (λ k. p k || eqb k number) p n (λ k low. elim (cases_eq k number) [
      | inl e ↦ ap (λ j. p j || eqb j number) e ∙ (ap (λ b. b || eqb number number) passed ∙ (sym passed ∙ ap p (sym e)))
      | inr far ↦ ap (λ b. p k || b) (ne_eqb k number far) ∙ or_false (p k)
    ])
  where
    or_false : (b : Bool) → (b || false) ≡ b
    or_false true = refl
    or_false false = refl

pub has_snoc : (k : ℕ) (xs : List ℕ) (y : ℕ) → has k (xs ++ y ∷ []) ≡ has k xs || eqb y k
has_snoc k [] y = or_false (eqb y k)
  where
    or_false : (b : Bool) → (b || false) ≡ b
    or_false true = refl
    or_false false = refl
has_snoc k (x ∷ xs) y = ap (λ b. eqb x k || b) (has_snoc k xs y) ∙ or_assoc (eqb x k) (has k xs) (eqb y k)
  where
    or_assoc : (a b c : Bool) → a || (b || c) ≡ (a || b) || c
    or_assoc true b c = refl
    or_assoc false b c = refl

-- one number more of those that may be among them
pub numbers_more : (p r : ℕ → Bool) (xs : List ℕ) (y n : ℕ)
    → numbers (λ k. (p k || (has k xs && r k)) || (eqb y k && r k)) n ≡ numbers (λ k. p k || (has k (xs ++ y ∷ []) && r k)) n
numbers_more p r xs y n =
    numbers_same (λ k. (p k || (has k xs && r k)) || (eqb y k && r k)) (λ k. p k || (has k (xs ++ y ∷ []) && r k)) n
    (λ k low. shuffle (p k) (has k xs) (eqb y k) (r k) ∙ ap (λ b. p k || (b && r k)) (sym (has_snoc k xs y)))
  where
    shuffle : (p h e r : Bool) → (p || (h && r)) || (e && r) ≡ p || ((h || e) && r)
    shuffle true h e r = refl
    shuffle false true true true = refl
    shuffle false true true false = refl
    shuffle false true false true = refl
    shuffle false true false false = refl
    shuffle false false e r = refl

pub and_true : (b : Bool) → (b && true) ≡ b
and_true true = refl
and_true false = refl

pub and_none : (b : Bool) → (b && false) ≡ false
and_none true = refl
and_none false = refl

-- without a number that is at its place, or isn't there
pub numbers_without : (p : ℕ → Bool) (n number place : ℕ) → slice_get (numbers p n) place ≡ Some number
    → numbers (λ k. p k && not (eqb k number)) n ≡ remove (numbers p n) place
numbers_without p n number place is =
    numbers_remove p (λ k. p k && not (eqb k number)) n place number is
    (ap (λ b. p number && not b) (eq-eqb number number refl) ∙ and_none (p number))
    (λ k far. ap (λ b. p k && not b) (ne_eqb k number far) ∙ and_true (p k))

pub numbers_without_none : (p : ℕ → Bool) (n number place : ℕ) → IsPlace (numbers p n) number place → number < n → (slice_get (numbers p n) place ≡ Some number → ⊥)
    → numbers (λ k. p k && not (eqb k number)) n ≡ numbers p n
numbers_without_none p n number place is low missing =
    numbers_same (λ k. p k && not (eqb k number)) p n (λ k below. elim (cases_eq k number) [
      | inl e ↦ ap (λ j. p j && not (eqb j number)) e ∙ (ap (λ b. b && not (eqb number number)) (unpassed p n number place is low missing) ∙ sym (ap p e ∙ unpassed p n number place is low missing))
      | inr far ↦ ap (λ b. p k && not b) (ne_eqb k number far) ∙ and_true (p k)
    ])
