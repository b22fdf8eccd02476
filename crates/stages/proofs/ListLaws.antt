-- Lists with one element changed, or one more.
use Rattle.std.proofs.Common.{◌≡◌, ◌≢◌, ℕ, zero, suc, ◌<◌, List, [], ◌∷◌, ◌++◌, length, Some, slice_get, slice_set, refl, ap, arith}

pub get_set_same : {A : Type 0} (xs : List A) (k : ℕ) (x y : A) → slice_get xs k ≡ Some y → slice_get (slice_set xs k x) k ≡ Some x
get_set_same [] k x y h = absurd cc
get_set_same (z ∷ xs) zero x y h = refl
get_set_same (z ∷ xs) (suc k) x y h = get_set_same xs k x y h

pub get_set_other : {A : Type 0} (xs : List A) (k j : ℕ) (x : A) → j ≢ k → slice_get (slice_set xs k x) j ≡ slice_get xs j
get_set_other [] k j x h = refl
get_set_other (z ∷ xs) zero zero x h = absurd (h refl)
get_set_other (z ∷ xs) zero (suc j) x h = refl
get_set_other (z ∷ xs) (suc k) zero x h = refl
get_set_other (z ∷ xs) (suc k) (suc j) x h = get_set_other xs k j x (λ e. h (ap suc e))

-- what stands at j after a change at k
pub get_set : {A P : Type 0} (xs : List A) (k j : ℕ) (x y : A) → slice_get (slice_set xs k x) j ≡ Some y
    → (j ≡ k → x ≡ y → P) → (j ≢ k → slice_get xs j ≡ Some y → P) → P
get_set [] k j x y h same other = absurd cc
get_set (z ∷ xs) zero zero x y h same other = same refl (cc (h))
get_set (z ∷ xs) zero (suc j) x y h same other = other (λ e. absurd (omega (arith, e))) h
get_set (z ∷ xs) (suc k) zero x y h same other = other (λ e. absurd (omega (arith, e))) h
get_set (z ∷ xs) (suc k) (suc j) x y h same other =
    get_set xs k j x y h (λ e. same (ap suc e)) (λ ne. other (λ e. ne (omega (arith, e))))

-- what stands at j of a list with one more
pub get_snoc : {A P : Type 0} (xs : List A) (j : ℕ) (x y : A) → slice_get (xs ++ x ∷ []) j ≡ Some y
    → (j ≡ length xs → x ≡ y → P) → (j < length xs → slice_get xs j ≡ Some y → P) → P
get_snoc [] zero x y h last other = last refl (cc (h))
get_snoc [] (suc j) x y h last other = absurd cc
get_snoc (z ∷ xs) zero x y h last other = other (omega arith) h
get_snoc (z ∷ xs) (suc j) x y h last other = get_snoc xs j x y h (λ e. last (ap suc e)) (λ l. other (omega (arith, l)))

pub get_left : {A : Type 0} (xs ys : List A) (j : ℕ) → j < length xs → slice_get (xs ++ ys) j ≡ slice_get xs j
get_left [] ys j h = absurd (omega arith)
get_left (z ∷ xs) ys zero h = refl
get_left (z ∷ xs) ys (suc j) h = get_left xs ys j (omega arith)

pub get_end : {A : Type 0} (xs : List A) (x : A) (n : ℕ) → n ≡ length xs → slice_get (xs ++ x ∷ []) n ≡ Some x
get_end [] x zero h = refl
get_end [] x (suc n) h = absurd (omega (arith, h))
get_end (z ∷ xs) x zero h = absurd (omega (arith, h))
get_end (z ∷ xs) x (suc n) h = get_end xs x n (omega (arith, h))

pub get_there : {A : Type 0} (xs : List A) (j : ℕ) → j < length xs → (x : A) × (slice_get xs j ≡ Some x)
get_there [] j h = absurd (omega arith)
get_there (x ∷ xs) zero h = (x, refl)
get_there (x ∷ xs) (suc j) h = get_there xs j (omega arith)

pub length_set : {A : Type 0} (xs : List A) (k : ℕ) (x : A) → length (slice_set xs k x) ≡ length xs
length_set [] k x = refl
length_set (z ∷ xs) zero x = refl
length_set (z ∷ xs) (suc k) x = ap suc (length_set xs k x)

pub length_snoc : {A : Type 0} (xs : List A) (x : A) → length (xs ++ x ∷ []) ≡ suc (length xs)
length_snoc [] x = refl
length_snoc (z ∷ xs) x = ap suc (length_snoc xs x)
