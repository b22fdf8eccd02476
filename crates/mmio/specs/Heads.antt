-- What the head of a file says, part by part.
use Rattle.std.specs.Prelude.{ℕ, ◌≡◌, if◌then◌else◌, [], ◌∷◌, Option, Some, None, Result, Ok, Err}
use Rattle.std.specs.Option.{option_map_or}
use Rattle.algebra.specs.declared.domain.Domain.{Domain}
use Rattle.model.specs.declared.market.Field.{Field}
use Rattle.model.specs.declared.market.Heading.{Heading}
use Rattle.model.specs.declared.market.Mistake.{Mistake}
use Rattle.model.specs.declared.market.Mistake.TheVariants as mistake
use Rattle.model.specs.declared.market.Symmetry.{Symmetry}
use Rattle.model.specs.Fault.{is_dimension}
use Rattle.model.specs.Grammar.{◌>>=◌, where_it}
use Rattle.model.specs.MatrixMarket.{Line, heading_of, is_banner, kind_of}
use Rattle.mmio.specs.declared.banner.Banner.{Banner}

-- the words of a banner
abbrev pub words_in : Banner → Line
words_in b = b.format.now ∷ b.object.now ∷ b.layout.now ∷ b.field.now ∷ b.symmetry.now ∷ []

-- the kind of file that a line announces
abbrev pub kind_announced : Domain → Line → Result (Field × Symmetry) Mistake
kind_announced domain words =
    if is_banner words then option_map_or Ok (kind_of domain words) (Err mistake.Unsupported) else Err mistake.Banner

-- a heading of three numbers, where each is in its range; None stands for 2 ^ 64 or more
abbrev pub heading_by : Field × Symmetry → Option ℕ → Option ℕ → Option ℕ → Option Heading
heading_by kind rows cols entries =
    where_it is_dimension rows >>= λ rows. where_it is_dimension cols >>= λ cols. entries >>= λ entries.
    Some (record { field = kind.0; symmetry = kind.1; rows = rows; cols = cols; entries = entries })

-- a line has these three numbers and no more words
abbrev pub Sizes : Line → Option ℕ → Option ℕ → Option ℕ → Type 0
Sizes words rows cols entries = (kind : Field × Symmetry) → heading_of kind words ≡ heading_by kind rows cols entries

abbrev pub IsNoSize : Line → Type 0
IsNoSize words = (kind : Field × Symmetry) → heading_of kind words ≡ None
