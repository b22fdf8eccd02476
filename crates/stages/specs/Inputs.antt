-- Slots in words.
use Rattle.std.specs.Prelude.{ℕ, ◌==◌, Option, Some, None, if◌then◌else◌}

-- the greatest word stands for no slot
abbrev pub slot_in : ℕ → Option ℕ
slot_in word = if word == 18446744073709551615 then None else Some word
