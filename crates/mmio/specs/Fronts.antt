-- What stands at the front of a line.
use Rattle.std.specs.Prelude.{ℕ, ◌^◌, ◌≡◌, nat_lt, Bool, true, List, [], ◌∷◌, Option, Some, None, if◌then◌else◌}
use Rattle.model.specs.Grammar.{digits_value, is_blank, nth_word}
use Rattle.model.specs.MatrixMarket.{Line, are_digits}

-- the bytes before the first one that passes a test
abbrev pub before : (ℕ → Bool) → List ℕ → List ℕ
before p [] = []
before p (b ∷ bs) = if p b then [] else b ∷ before p bs

-- ..and from there on
abbrev pub from : (ℕ → Bool) → List ℕ → List ℕ
from p [] = []
from p (b ∷ bs) = if p b then b ∷ bs else from p bs

-- the bytes before the first blank
abbrev pub front_of : List ℕ → List ℕ
front_of text = before is_blank text

-- ..and from there on
abbrev pub behind_front : List ℕ → List ℕ
behind_front text = from is_blank text

-- whether a word that stands before a text ends there
abbrev pub is_apart : List ℕ → Bool
is_apart [] = true
is_apart (b ∷ bs) = is_blank b

-- a number below 2 ^ 64, if it is one
abbrev pub in_64_bits : ℕ → Option ℕ
in_64_bits n = if nat_lt n (2 ^ 64) then Some n else None

-- words begin with one of digits, which write a number, and others follow
pub record LeadsWithNumber (words : Line) (number : Option ℕ) (others : Line) : Type 0 where
  pub parts : words ≡ nth_word words 0 ∷ others
  pub digits : are_digits (nth_word words 0) ≡ true
  pub value : number ≡ in_64_bits (digits_value (nth_word words 0))
