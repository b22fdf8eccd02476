-- The columns of a row that a bitmap as a mask lets through.
use Rattle.std.specs.Prelude.{ℕ, Bool, true, Option}
use Rattle.std.specs.Option.{option_map_or}
use Rattle.masks.specs.declared.marked.MarkedMask.{MarkedMask}
use Rattle.masks.specs.Masks.{lets_word}
use Rattle.model.specs.Entries.{word_at}

-- whether a bitmap as a mask lets a column of a row through, which is a row of its own column
abbrev pub keeps_marked : MarkedMask → ℕ → Bool
keeps_marked mask col = lets_word mask.test (word_at mask.bitmap.now.entries col 0)

-- whether a column of a row is kept: under a bitmap as a mask those that it lets through, else all
abbrev pub lets_marked : Option MarkedMask → ℕ → Bool
lets_marked mask col = option_map_or (λ mask. keeps_marked mask col) mask true
