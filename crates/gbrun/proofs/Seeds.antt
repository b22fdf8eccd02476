-- What `parse` gives for the digits of a seed.
use Rattle.std.proofs.Common.{rules, ◌≡◌, ◌≤◌, ◌<◌, ◌^◌, ℕ, List, length, true}
use Rattle.std.specs.Prelude.{Ok, Err, Result}
use Rattle.std.specs.Char.{is_ascii_digit}
use Rattle.std.specs.List.{list_all}
use Rattle.std.specs.Result.{OkIff, result_ok}
use Rattle.std.specs.Str.Parse.{ParsesUnsigned, digits_value}
use Rattle.std.proofs.lemmas.Str.Parse.{IsNumeralModel, numerals_by_value, parse_digits}
use Rattle.gbrun.specs.Orders.{seed_of}

own : IsNumeralModel (λ ds. list_all is_ascii_digit ds ≡ true) (digits_value 10)
own = numerals_by_value _ (search rules)

from_outcome : {E : Type 0} (digits : List ℕ) (r : Result ℕ E) → list_all is_ascii_digit digits ≡ true
    → length digits ≤ 20
    → OkIff r ((0 < length digits) × (digits_value 10 digits < 2 ^ 64)) (digits_value 10 digits)
    → result_ok r ≡ seed_of digits
from_outcome digits (Ok x) plain short fits = search rules
from_outcome digits (Err e) plain short fails = search rules

-- a text of digits alone that is not too long is read as a seed is
pub result_ok-parse : {E : Type 0} (digits : List ℕ) (r : Result ℕ E) → ParsesUnsigned 64 10 digits r
    → list_all is_ascii_digit digits ≡ true → length digits ≤ 20 → result_ok r ≡ seed_of digits
result_ok-parse digits r read plain short = from_outcome digits r plain short (parse_digits own 64 digits r read plain)
