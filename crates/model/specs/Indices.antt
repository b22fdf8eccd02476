-- Lists of indices (GrB_Index arrays, GrB_ALL).
use Rattle.std.specs.Prelude.{ℕ, ◌==◌, ◌&&◌, not, Bool, true, if◌then◌else◌, List, [], ◌∷◌, length, Option, Some, None}
use Rattle.std.specs.Prelude.{nat_lt, slice_get}
use Rattle.std.specs.List.{list_all, position}
use Rattle.std.specs.List.Sorted.{IsNonDecreasing, IsPermutation}

-- all indices of a dimension in order, or these
pub data Indices : Type 0 where
  All : Indices
  These : List ℕ → Indices

-- how many they are, of a dimension of so many
abbrev pub count_of : ℕ → Indices → ℕ
count_of size All = size
count_of size (These items) = length items

-- whether each is below the size of its dimension
abbrev pub are_below : ℕ → Indices → Bool
are_below size All = true
are_below size (These items) = list_all (λ i. nat_lt i size) items

-- no number is repeated
abbrev pub is_distinct : List ℕ → Bool
is_distinct [] = true
is_distinct (x ∷ xs) = list_all (λ y. not (x == y)) xs && is_distinct xs

abbrev pub are_distinct : Indices → Bool
are_distinct All = true
are_distinct (These items) = is_distinct items

-- the index at a place of the list
abbrev pub index_at : ℕ → Indices → ℕ → Option ℕ
index_at size All k = if nat_lt k size then Some k else None
index_at size (These items) k = slice_get items k

-- the first place at which the list has an index
abbrev pub place_in : ℕ → Indices → ℕ → Option ℕ
place_in size All i = if nat_lt i size then Some i else None
place_in size (These items) i = position (λ x. x == i) items

-- numbers in rising order are those of a list
pub record IsSortedFrom (items sorted : List ℕ) : Type 0 where
  pub same : IsPermutation items sorted
  pub rises : IsNonDecreasing sorted

-- numbers in rising order are the indices that are listed
abbrev pub HasSorted : Indices → List ℕ → Type 0
HasSorted All sorted = ⊥
HasSorted (These items) sorted = IsSortedFrom items sorted
