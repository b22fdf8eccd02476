-- Regions of matrices and vectors, which lists of indices name, and what operations do at them: the entries of one
-- (GrB_extract), entries put into one, and a value at each position of one (GrB_assign).
use Rattle.std.specs.Prelude.{ℕ, ◌&&◌, Bool, false, true, if◌then◌else◌, is_some, Option, Some, None, nat_lt}
use Rattle.std.specs.Option.{option_and_then}
use Rattle.model.specs.declared.call.Region.{Region}
use Rattle.model.specs.declared.call.Region.TheVariants as region
use Rattle.model.specs.declared.shape.Shape.{Shape}
use Rattle.model.specs.declared.shape.Shape.TheVariants.{One, Two}
use Rattle.model.specs.Indices.{All, Indices, are_below, are_distinct, count_of, index_at, place_in}
use Rattle.model.specs.Object.{Content, cols_of, rows_of}

-- the rows and the columns of a region; a vector has one column
abbrev pub rows_in : Region → Indices
rows_in (region.One indices) = indices
rows_in (region.Two rows cols) = rows

abbrev pub cols_in : Region → Indices
cols_in (region.One indices) = All
cols_in (region.Two rows cols) = cols

-- whether a region has as many lists as a shape has dimensions
abbrev pub is_region_of : Region → Shape → Bool
is_region_of (region.One indices) (One n) = true
is_region_of (region.Two rows cols) (Two m n) = true
is_region_of _ _ = false

-- the shape that the lengths of the lists make, where they are of a shape's dimensions
abbrev pub shape_in : Shape → Region → Shape
shape_in shape (region.One indices) = One (count_of (rows_of shape) indices)
shape_in shape (region.Two rows cols) = Two (count_of (rows_of shape) rows) (count_of (cols_of shape) cols)

-- whether each index is inside a shape
abbrev pub lies_inside : Shape → Region → Bool
lies_inside shape region = are_below (rows_of shape) (rows_in region) && are_below (cols_of shape) (cols_in region)

-- whether no index is repeated in its list
abbrev pub has_no_repeat : Region → Bool
has_no_repeat region = are_distinct (rows_in region) && are_distinct (cols_in region)

-- what a map has at the row and the column that are found, if both are
abbrev pub found_at : Content → Option ℕ → Option ℕ → Option ℕ
found_at c row col = option_and_then (λ i. option_and_then (c i) col) row

-- ---- of lists of rows and of columns

-- what stands in m rows and n columns at the rows and the columns that lists name, in their order
abbrev pub extracted : ℕ → ℕ → Indices → Indices → Content → Content
extracted m n rows cols c = λ i j. found_at c (index_at m rows i) (index_at n cols j)

-- a map put into m rows and n columns at the rows and the columns that lists name, and nothing elsewhere
abbrev pub placed : ℕ → ℕ → Indices → Indices → Content → Content
placed m n rows cols c = λ i j. found_at c (place_in m rows i) (place_in n cols j)

-- whether lists name a row and a column
abbrev pub is_listed : ℕ → ℕ → Indices → Indices → ℕ → ℕ → Bool
is_listed m n rows cols i j = is_some (place_in m rows i) && is_some (place_in n cols j)

-- a word at each position that lists name, however often they do
abbrev pub filled : ℕ → ℕ → Indices → Indices → ℕ → Content
filled m n rows cols word = λ i j. if is_listed m n rows cols i j then Some word else None

-- ---- shapes

-- what a map has inside a shape (GrB_Matrix_resize, GrB_Vector_resize)
abbrev pub cut_to : ℕ → ℕ → Content → Content
cut_to m n c = λ i j. if nat_lt i m && nat_lt j n then c i j else None
