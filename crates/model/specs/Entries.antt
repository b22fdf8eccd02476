-- Lists of entries in row-major order: the maps that they stand for, and the entries of a map.
use Rattle.std.specs.Prelude.{ℕ, zero, suc, ◌+◌, ◌-◌, ◌<◌, ◌≤◌, ◌≡◌, ◌⊎◌, ◌&&◌, ◌==◌, if◌then◌else◌, Bool, List, []}
use Rattle.std.specs.Prelude.{◌∷◌, Some, None}
use Rattle.std.specs.Option.{option_map}
use Rattle.std.specs.List.{All, AllPairs, filter_map, flat_map}
use Rattle.model.specs.declared.entry.Entry.{Entry}
use Rattle.model.specs.Object.{Content}

-- the map that a list of entries stands for
unfoldable pub word_at : List Entry → Content
word_at [] i j = None
word_at (e ∷ es) i j = if (i == e.row) && (j == e.col) then Some e.word else word_at es i j

-- e stands before f, row by row
abbrev pub Precedes : Entry → Entry → Type 0
Precedes e f = (e.row < f.row) ⊎ ((e.row ≡ f.row) × (e.col < f.col))

-- e stands before f, row by row, or at the same position
abbrev pub IsNotBehind : Entry → Entry → Type 0
IsNotBehind e f = (e.row < f.row) ⊎ ((e.row ≡ f.row) × (e.col ≤ f.col))

-- both are of one row and column
abbrev pub same_position : Entry → Entry → Bool
same_position e f = (e.row == f.row) && (e.col == f.col)

-- each entry stands before all later ones, so there is at most one at a position
abbrev pub InOrder : List Entry → Type 0
InOrder es = AllPairs Precedes es

-- each entry lies inside a shape of so many rows and columns
abbrev pub IsInside : ℕ → ℕ → List Entry → Type 0
IsInside rows cols es = All (λ e. (e.row < rows) × (e.col < cols)) es

-- n numbers, from the first on
unfoldable pub count_from : ℕ → ℕ → List ℕ
count_from first zero = []
count_from first (suc n) = first ∷ count_from (first + 1) n

-- the numbers below n
abbrev pub below : ℕ → List ℕ
below n = count_from 0 n

abbrev pub entry_at : ℕ → ℕ → ℕ → Entry
entry_at i j word = record { row = i; col = j; word = word }

-- the entries of one row of a map with so many columns, in order
abbrev pub row_entries : ℕ → Content → ℕ → List Entry
row_entries cols c i = filter_map (λ j. option_map (entry_at i j) (c i j)) (below cols)

-- the entries of a map inside a shape, row by row
unfoldable pub entries_of : ℕ → ℕ → Content → List Entry
entries_of rows cols c = flat_map (row_entries cols c) (below rows)

-- the entries of the rows from first up to before past, row by row
unfoldable pub entries_between : ℕ → ℕ → ℕ → Content → List Entry
entries_between first past cols c = flat_map (row_entries cols c) (count_from first (past - first))
