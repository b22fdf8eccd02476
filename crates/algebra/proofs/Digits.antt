-- The numbers of user domains: what digits write, and what `parse` reads of them.
use Rattle.std.proofs.Common.{◌≡◌, ◌&&◌, ℕ, ◌<◌, ◌≤◌, ◌^◌, true, false, List, Some, None, Result, Ok, Err, MatchResult, length, nat_le, nat_lt, ap, refl, inl, inr, rules}
use Rattle.std.specs.Char.{is_ascii_digit}
use Rattle.std.specs.List.{list_all}
use Rattle.std.specs.Result.{OkIff, result_ok}
use Rattle.std.specs.Str.{IsUtf8}
use Rattle.std.specs.Str.Parse.{digits_value}
use Rattle.std.proofs.lemmas.Bool.{and_right, cases_Bool, le-leb, leb-true, lt-ltb, ltb-true}
use Rattle.std.proofs.lemmas.Fmt.{IsAscii-from_digits}
use Rattle.std.proofs.lemmas.Str.{IsUtf8-from_ascii}
use Rattle.std.proofs.lemmas.Str.Parse.{IsNumeralModel, numerals_by_value}
use Rattle.algebra.specs.Names.{user_number}

-- the words of the definition are those that `parse` goes by
pub numerals : IsNumeralModel (λ ds. list_all is_ascii_digit ds ≡ true) (digits_value 10)
numerals = numerals_by_value _ (search rules)

-- what has another byte than digits is no number
pub user_number-other : (digits : List ℕ) → list_all is_ascii_digit digits ≡ false → None ≡ user_number digits
user_number-other digits other =
    let front = nat_le 1 (length digits) && nat_le (length digits) 10 in
    let none : (front && list_all is_ascii_digit digits) ≡ false = and_right front (list_all is_ascii_digit digits) other in
    rw none refl

-- what is no text is no number
pub user_number-no_text : (digits : List ℕ) → ¬ IsUtf8 digits → None ≡ user_number digits
user_number-no_text digits no_text = elim (cases_Bool (list_all is_ascii_digit digits)) [
  | inl all ↦ absurd (no_text (IsUtf8-from_ascii digits (IsAscii-from_digits digits (numerals.to digits all))))
  | inr other ↦ user_number-other digits other
]

-- what is Ok where a fact holds, and fails only where it does not: so the fact does not hold where it failed
pub fails-without : {T E : Type 0} (P : T → Type 0) (Q : E → Type 0) (U : Type 0) (r : Result T E) → result_ok r ≡ None
    → MatchResult r P (λ e. ¬ U × Q e) → ¬ U
fails-without P Q U (Ok x) none h = absurd (cc)
fails-without P Q U (Err e) none h = h.0

-- what `parse` reads of at most 10 bytes
pub read-user_number : {E : Type 0} (digits : List ℕ) (r : Result ℕ E) → length digits ≤ 10
    → OkIff r ((list_all is_ascii_digit digits ≡ true) × (0 < length digits) × (digits_value 10 digits < 2 ^ 32))
    (digits_value 10 digits)
    → result_ok r ≡ user_number digits
read-user_number digits (Ok n) short h =
    let some : nat_le 1 (length digits) ≡ true = le-leb 1 (length digits) h.0.1 in
    let few : nat_le (length digits) 10 ≡ true = le-leb (length digits) 10 short in
    let small : nat_lt (digits_value 10 digits) (2 ^ 32) ≡ true = lt-ltb (digits_value 10 digits) (2 ^ 32) h.0.2 in
    rw (some, few, h.0.0, small) (ap Some h.1)
read-user_number digits (Err e) short h = elim (cases_Bool (list_all is_ascii_digit digits)) [
  | inr other ↦ user_number-other digits other
  | inl all ↦ elim (cases_Bool (nat_le 1 (length digits))) [
    | inr none ↦ rw none refl
    | inl some ↦ elim (cases_Bool (nat_lt (digits_value 10 digits) (2 ^ 32))) [
      | inr large ↦ let few : nat_le (length digits) 10 ≡ true = le-leb (length digits) 10 short in rw (some, few, all, large) refl
      | inl small ↦ absurd (h (all, leb-true 1 (length digits) some, ltb-true (digits_value 10 digits) (2 ^ 32) small))
    ]
  ]
]
