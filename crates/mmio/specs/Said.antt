-- What the words of an entry line say, part by part.
use Rattle.std.specs.Prelude.{ℕ, pos, neg_ℤ, ◌-◌, ◌^◌, ◌==◌, ◌||◌, nat_le, Bool, true, false, List, drop, slice_index}
use Rattle.std.specs.Prelude.{Option, Some, None, Result, Ok, Err, if◌then◌else◌, length}
use Rattle.std.specs.Option.{option_map}
use Rattle.algebra.specs.declared.domain.Domain.{Domain}
use Rattle.algebra.specs.declared.domain.Domain.TheVariants.{Bool as Boolean}
use Rattle.algebra.specs.Value.{residue}
use Rattle.model.specs.declared.entry.Entry.{Entry}
use Rattle.model.specs.declared.market.Field.{Field}
use Rattle.model.specs.declared.market.Field.TheVariants as field
use Rattle.model.specs.declared.market.Heading.{Heading}
use Rattle.model.specs.declared.market.Mistake.{Mistake}
use Rattle.model.specs.declared.market.Mistake.TheVariants as mistake
use Rattle.model.specs.Entries.{entry_at}
use Rattle.model.specs.Grammar.{◌>>=◌, nth_word, where_it}
use Rattle.model.specs.MatrixMarket.{Line, is_of_64_bits, is_position, whole_of}

-- ---- values

abbrev pub is_negative : List ℕ → Bool
is_negative text = slice_index text 0 == 45

-- a text without a sign in front
abbrev pub unsigned : List ℕ → List ℕ
unsigned text = if (slice_index text 0 == 45) || (slice_index text 0 == 43) then drop 1 text else text

-- the word of a value's magnitude and its sign, where it is from -(2 ^ 63) to 2 ^ 64 - 1
abbrev pub signed_word : Bool → Option ℕ → Option ℕ
signed_word true magnitude = magnitude >>= λ n. if nat_le n (2 ^ 63) then Some (residue (neg_ℤ (pos n))) else None
signed_word false magnitude = magnitude

-- the value that a word says, modulo 2 ^ 64
abbrev pub residue_said : List ℕ → Option ℕ
residue_said word = option_map residue (where_it is_of_64_bits (whole_of word))

-- ..of the only word of a line
abbrev pub only_residue : Line → Option (Option ℕ)
only_residue words = if length words == 1 then Some (residue_said (nth_word words 0)) else None

-- a value modulo 2 ^ 64 in a domain
abbrev pub in_domain : Domain → ℕ → ℕ
in_domain Boolean word = if word == 0 then 0 else 1
in_domain _ word = word

-- what stands behind the position: a value, if the line has as many words as it should
abbrev pub value_behind : Domain → Field → Line → Option (Option ℕ)
value_behind domain field.Pattern words = if length words == 0 then Some (Some 1) else None
value_behind domain field.Integer words = only_residue words >>= λ value. Some (option_map (in_domain domain) value)

-- ---- entries

-- a position of a matrix, counted from 0, of what the first two words write
abbrev pub position_in : Heading → Option ℕ → Option ℕ → Option (ℕ × ℕ)
position_in h (Some i) (Some j) = if is_position h i j then Some (i - 1, j - 1) else None
position_in h _ _ = None

-- an entry of a position and a value, by the order of faults
abbrev pub entry_by : Option (ℕ × ℕ) → Option ℕ → Result Entry Mistake
entry_by None value = Err mistake.Index
entry_by (Some position) None = Err mistake.Value
entry_by (Some position) (Some word) = Ok (entry_at position.0 position.1 word)
