-- Entries put into a column, in place.
use Rattle.std.specs.Prelude.{ℕ, ◌≡◌, ◌+◌, ◌==◌, ◌++◌, not, Bool, List, count_by, drop, take}
use Rattle.std.specs.List.{list_any}
use Rattle.std.specs.Option.{option_or}
use Rattle.model.specs.declared.entry.Entry.{Entry}
use Rattle.model.specs.Entries.{InOrder, IsInside, word_at}

-- a list without the gap of so many places behind its first items
abbrev pub around : ℕ → ℕ → List ℕ → List ℕ
around left gap xs = take left xs ++ drop (left + gap) xs

-- whether a number is in a list
abbrev pub has : List ℕ → ℕ → Bool
has xs y = list_any (λ x. x == y) xs

-- how many of some numbers aren't in a list
abbrev pub missing : List ℕ → List ℕ → ℕ
missing xs ys = count_by (λ y. not (has xs y)) ys

-- the old entries with others put in their places: in order, inside each shape that has room for all, and with the
-- words of the others where these have one
pub record HasPut (put old new : List Entry) : Type 0 where
  pub order : InOrder new
  pub inside : (rows cols : ℕ) → IsInside rows cols put → IsInside rows cols old → IsInside rows cols new
  pub words : (i j : ℕ) → word_at new i j ≡ option_or (word_at put i j) (word_at old i j)
