-- The gaps of a line.
use Rattle.std.specs.Prelude.{ℕ, ◌≡◌, ◌<◌, ◌≤◌, ◌&&◌, Bool, false, not, List, nat_le, slice_index}

-- a byte that stands in no word
abbrev pub is_gap : ℕ → Bool
is_gap byte = not (nat_le 33 byte && nat_le byte 126)

-- no byte from one place to another is a gap
abbrev pub AreInner : List ℕ → ℕ → ℕ → Type 0
AreInner line start end = (k : ℕ) → start ≤ k → k < end → is_gap (slice_index line k) ≡ false
