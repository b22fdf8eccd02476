-- The order that a word of `--order` names.
use Rattle.std.specs.Prelude.{ℕ, ◌^◌, ◌&&◌, nat_lt, nat_le, List, codes, length, drop, Some, None, if◌then◌else◌}
use Rattle.std.specs.Prelude.{option_map, nat_eq}
use Rattle.std.specs.Char.{is_ascii_digit}
use Rattle.std.specs.List.{list_all, starts_with}
use Rattle.std.specs.Str.{bytes_eq}
use Rattle.std.specs.Str.Parse.{digits_value}
use Rattle.std.specs.declared.option.Option.{Option}
use Rattle.desk.specs.declared.picker.Order.{Order}
use Rattle.desk.specs.declared.picker.Order.TheVariants.{First, Last, Seed}

-- the number below 2^64 that 1 to 20 decimal digits write
abbrev pub seed_of : List ℕ → Option ℕ
seed_of digits =
    if list_all is_ascii_digit digits && nat_lt 0 (length digits) && nat_le (length digits) 20
    && nat_lt (digits_value 10 digits) (2 ^ 64)
    then Some (digits_value 10 digits)
    else None

-- `first`, `last`, or `seed:` and the digits of a seed
abbrev pub order_of : List ℕ → Option Order
order_of word =
    if bytes_eq word (codes "first") then Some First
    else if bytes_eq word (codes "last") then Some Last
    else if starts_with nat_eq word (codes "seed:") then option_map Seed (seed_of (drop 5 word))
    else None
