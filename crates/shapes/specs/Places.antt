-- Where entries are put by lists of rows and columns.
use Rattle.std.specs.Prelude.{ℕ, ◌≡◌, ◌<◌, ◌≤◌, ◌&&◌, Bool, if◌then◌else◌, length, Option, Some, None}
use Rattle.std.specs.Prelude.{nat_le, nat_lt, slice_index}
use Rattle.model.specs.declared.entry.Entry.{Entry}
use Rattle.model.specs.Entries.{entry_at}
use Rattle.model.specs.Indices.{All, Indices, These}

-- the index at a place of the list, where there is such a place
abbrev pub nth_index : Indices → ℕ → ℕ
nth_index All k = k
nth_index (These items) k = slice_index items k

abbrev pub Reaches : Indices → ℕ → Type 0
Reaches All k = Unit {0}
Reaches (These items) k = k < length items

-- whether an index is one of a range
abbrev pub is_in : ℕ → ℕ → ℕ → Bool
is_in first past i = nat_le first i && nat_lt i past

-- of so many places of a list those from low up to before high lead into a range, and no others
pub record LeadInto (indices : Indices) (size first past low high : ℕ) : Type 0 where
  pub up : low ≤ high
  pub end : high ≤ size
  pub lead : (k : ℕ) → k < size → is_in first past (nth_index indices k) ≡ is_in low high k

-- an entry at the row and the column that lists name
abbrev pub moved_entry : Indices → Indices → Entry → Entry
moved_entry rows cols e = entry_at (nth_index rows e.row) (nth_index cols e.col) e.word

-- ..where the row is one of a range
abbrev pub placed_entry : Indices → Indices → ℕ → ℕ → Entry → Option Entry
placed_entry rows cols first past e =
    if is_in first past (nth_index rows e.row) then Some (moved_entry rows cols e) else None
