-- Words by the digits that they begin with.
use Rattle.std.proofs.Common.{◌≡◌, ℕ, ◌<◌, ◌≤◌, ◌^◌, List, length, take, Some, None, false, true, nat_le, nat_lt, refl, sym, get_or, arith}
use Rattle.std.specs.List.{list_all}
use Rattle.std.proofs.lemmas.Bool.Decides.{nat_tests}
use Rattle.std.proofs.lemmas.List.{take_all}
use Rattle.std.proofs.lemmas.List.Folds.{list_all_at}
use Rattle.model.specs.Grammar.{digits_value, is_digit, number_of}

-- a word of digits alone, so few that their value has its range, is a number
pub number_of-digits : (word : List ℕ) (value count : ℕ) → count ≡ length word → 0 < count → count ≤ 19
    → value < 2 ^ 64 → value ≡ digits_value (take count word) → list_all is_digit (take count word) ≡ true
    → number_of word ≡ Some value
unfolding number_of
number_of-digits word value count whole some few small exact digits =
    let all : take count word ≡ word = take_all count word (omega arith) in
    let written : digits_value word ≡ value = rw all at (sym exact) in
    let tested : list_all is_digit word ≡ true = rw all at digits in
    let low : nat_le 1 (length word) ≡ true = grind (arith, nat_tests) in
    let high : nat_le (length word) 20 ≡ true = grind (arith, nat_tests) in
    let below : nat_lt value (2 ^ 64) ≡ true = grind (arith, nat_tests) in
    rw (low, high, tested, written, below) refl

-- a word with another byte is none
pub number_of-other : (word : List ℕ) (k : ℕ) → k < length word → is_digit (get_or word k 0) ≡ false
    → number_of word ≡ None
unfolding number_of
number_of-other word k inside other =
    let broken : list_all is_digit word ≡ false = list_all_at is_digit word k 0 inside other in
    grind (arith, nat_tests)
