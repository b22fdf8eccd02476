-- What digits write: how much at most, and that more digits don't write less.
use Rattle.std.proofs.Common.{◌≡◌, ℕ, ◌+◌, ◌-◌, ◌*◌, ◌^◌, ◌%◌, ◌<◌, ◌≤◌, true, List, [], ◌∷◌, Some, length, take, drop, refl, arith, fold, sym, ap, ◌∙◌, suc, get_or, None}
use Rattle.std.specs.List.{list_all}
use Rattle.std.proofs.Math.Nat.{mul_assoc, pow-succ', mul-one, mod-eq_of_lt, pow-le-pow_right}
use Rattle.std.proofs.lemmas.Bool.{and_parts, le-ltb, lt-ltb}
use Rattle.std.proofs.lemmas.Bool.Decides.{nat_tests}
use Rattle.std.proofs.lemmas.List.{take-append-drop}
use Rattle.std.proofs.lemmas.List.Sums.{fold-append, fold_more}
use Rattle.model.specs.Grammar.{digits_value, is_digit}
use Rattle.mmio.specs.Fronts.{in_64_bits}

more_is_below : (n m b : ℕ) → n < m → is_digit b ≡ true → n * 10 + (b - 48) < m * 10
more_is_below n m b below digit = grind (arith, nat_tests)

fold-lt : (word : List ℕ) (n m : ℕ) → list_all is_digit word ≡ true → n < m
    → fold (λ n b. n * 10 + (b - 48)) n word < m * 10 ^ length word
fold-lt [] n m digits below = rw (mul-one) below
fold-lt (d ∷ ds) n m digits below =
    let parts = and_parts _ _ digits in
    let first = more_is_below n m d below parts.0 in
    let rest : fold (λ n b. n * 10 + (b - 48)) (n * 10 + (d - 48)) ds < m * 10 * 10 ^ length ds = fold-lt ds (n * 10 + (d - 48)) (m * 10) parts.1 first in
    let power : 10 ^ suc (length ds) ≡ 10 * 10 ^ length ds = pow-succ' 10 (length ds) in
    rw (power, ← mul_assoc) rest

pub digits_value-lt : (word : List ℕ) → list_all is_digit word ≡ true → digits_value word < 10 ^ length word
digits_value-lt word digits = let below = fold-lt word 0 1 digits (omega arith) in omega arith

-- up to 19 digits write a number below 2 ^ 64, which is exact modulo 2 ^ 64
pub short_in_64_bits : (word : List ℕ) → list_all is_digit word ≡ true → length word ≤ 19
    → in_64_bits (digits_value word) ≡ Some (digits_value word % 2 ^ 64)
short_in_64_bits word digits short =
    let most : 10 ^ length word ≤ 10 ^ 19 = pow-le-pow_right {n = 10} (omega arith) {i = length word} {j = 19} (omega arith) in
    let small : digits_value word < 10 ^ length word = digits_value-lt word digits in
    let fits : digits_value word < 2 ^ 64 = omega arith in
    rw (lt-ltb _ _ fits, mod-eq_of_lt fits) refl

fold-le : (word : List ℕ) (n : ℕ) → n ≤ fold (λ n b. n * 10 + (b - 48)) n word
fold-le [] n = omega arith
fold-le (d ∷ ds) n = let rest = fold-le ds (n * 10 + (d - 48)) in omega arith

-- the first digits write no more than all
pub digits_value-take : (word : List ℕ) (k : ℕ) → digits_value (take k word) ≤ digits_value word
digits_value-take word k =
    let all : digits_value word ≡ fold (λ n b. n * 10 + (b - 48)) (digits_value (take k word)) (drop k word) =
    ap digits_value (sym (take-append-drop k word)) ∙ fold-append (λ n b. n * 10 + (b - 48)) 0 (take k word) (drop k word) in
    let grows = fold-le (drop k word) (digits_value (take k word)) in
    omega arith

-- one digit more writes this, and all no less
pub digits_value-next : (word : List ℕ) (i : ℕ) → i < length word
    → digits_value (take i word) * 10 + (get_or word i 0 - 48) ≤ digits_value word
digits_value-next word i inside =
    let next = fold_more (λ n b. n * 10 + (b - 48)) 0 word i 0 inside in
    let all = digits_value-take word (i + 1) in
    omega arith

pub in_64_bits-some : (n : ℕ) → n < 2 ^ 64 → in_64_bits n ≡ Some n
in_64_bits-some n fits = rw (lt-ltb _ _ fits) refl

pub in_64_bits-none : (n : ℕ) → 2 ^ 64 ≤ n → in_64_bits n ≡ None
in_64_bits-none n large = rw (le-ltb _ _ large) refl
