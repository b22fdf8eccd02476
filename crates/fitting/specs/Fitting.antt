-- Which matrices are kept as bitmaps: those of few positions, many of which have an entry.
use Rattle.std.specs.Prelude.{ℕ, ◌*◌, ◌/◌, ◌^◌, ◌==◌, ◌&&◌, Bool, if◌then◌else◌, nat_le}

-- a row, or the one column, of 64 positions or more, and no more than 2 ^ 24 in all
abbrev pub may_be_bitmap : ℕ → ℕ → Bool
may_be_bitmap rows cols = nat_le 64 (if cols == 1 then rows else cols) && nat_le (rows * cols) (2 ^ 24)

-- whether one in eight positions has an entry
abbrev pub has_many : ℕ → ℕ → Bool
has_many positions entries = nat_le (positions / 8) entries

-- whether a matrix of a shape with so many entries is kept as a bitmap
abbrev pub suits_bitmap : ℕ → ℕ → ℕ → Bool
suits_bitmap rows cols entries = may_be_bitmap rows cols && has_many (rows * cols) entries
