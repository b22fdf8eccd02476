-- Stores whose entries lie in several parts, one behind the other.
use Rattle.std.specs.Prelude.{ℕ, ◌≡◌, ◌≢◌, ◌<◌, ◌≤◌, ◌⊎◌, ◌^◌, List, MatchOption, None, Option, get_or, length}
use Rattle.std.specs.List.{All, AllPairs, HoldsAt, flat_map}
use Rattle.model.specs.declared.entry.Entry.{Entry}
use Rattle.store.specs.declared.blocks.RowSpan.{RowSpan}
use Rattle.store.specs.Stored.{IsStored, Stored, content_of}

-- the entries of parts, those of the first in front
abbrev pub entries_in_parts : List Stored → List Entry
entries_in_parts parts = flat_map (λ s. s.entries) parts

-- a part is a store of the same shape
pub record IsPart (rows cols : ℕ) (s : Stored) : Type 0 where
  pub rows_are : s.rows ≡ rows
  pub cols_are : s.cols ≡ cols
  pub stored : IsStored rows cols s.entries

-- each row in which one has an entry is above each in which the other has
abbrev pub IsAbove : Stored → Stored → Type 0
IsAbove a b = (i j p q : ℕ) → content_of a i j ≢ None → content_of b p q ≢ None → i < p

-- the parts are those of a store that is no column, and their entries can be counted
pub record AreParts (rows cols : ℕ) (parts : List Stored) : Type 0 where
  pub many : cols ≢ 1
  pub each : All (IsPart rows cols) parts
  pub apart : AllPairs IsAbove parts
  pub fits : length (entries_in_parts parts) < 2 ^ 64

-- the parts are a store, one behind the other, and their entries can be counted
pub record AreStored (rows cols : ℕ) (parts : List Stored) : Type 0 where
  pub each : All (IsPart rows cols) parts
  pub stored : IsStored rows cols (entries_in_parts parts)
  pub fits : length (entries_in_parts parts) < 2 ^ 64

-- each entry of a part stands in a row of its span
abbrev pub IsInSpan : RowSpan → Stored → Type 0
IsInSpan span part = (i j : ℕ) → content_of part i j ≢ None → (span.first ≤ i) × (i < span.past)

-- ..and of each part
pub record AreInSpans (rows cols : ℕ) (spans : List RowSpan) (parts : List Stored) : Type 0 where
  pub are : AreParts rows cols parts
  pub count : length spans ≡ length parts
  pub within : (k : ℕ) (span : RowSpan) (part : Stored) → k < length parts
      → IsInSpan (get_or spans k span) (get_or parts k part)

-- a span has none of the rows from first up to before past
abbrev pub Misses : ℕ → ℕ → RowSpan → Type 0
Misses first past span = (span.past ≤ first) ⊎ (past ≤ span.first)

-- each other span has none of them
abbrev pub IsAlone : ℕ → ℕ → List RowSpan → ℕ → Type 0
IsAlone first past spans at = (k : ℕ) (span : RowSpan) → k < length spans → k ≢ at
    → Misses first past (get_or spans k span)

-- where a part stands that has an entry at a position, if one has
abbrev pub IsPartWith : ℕ → ℕ → List Stored → Option ℕ → Type 0
IsPartWith i j parts found = MatchOption found (All (λ s. content_of s i j ≡ None) parts)
    (λ at. (at < length parts) × HoldsAt (λ s. content_of s i j ≢ None) parts at)
