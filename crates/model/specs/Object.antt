-- Objects: a domain, a shape, and a finite map from positions inside the shape to words
-- (GrB_Matrix, GrB_Vector: a set of tuples, at most one at an index), and their shapes and positions.
use Rattle.std.specs.Prelude.{ℕ, ◌≡◌, ◌==◌, ◌&&◌, nat_lt, Bool, true, false, if◌then◌else◌, Option, Some, None}
use Rattle.std.specs.Option.{option_map}
use Rattle.algebra.specs.Value.{IsWordOf, cast_of}
use Rattle.algebra.specs.declared.domain.Domain.{Domain}
use Rattle.model.specs.declared.shape.Place.{Place}
use Rattle.model.specs.declared.shape.Place.TheVariants as place
use Rattle.model.specs.declared.shape.Shape.{Shape}
use Rattle.model.specs.declared.shape.Shape.TheVariants.{One, Two}
use Rattle.model.specs.declared.shape.Signature.{Signature}

-- ---- shapes

abbrev pub is_matrix : Shape → Bool
is_matrix (Two m n) = true
is_matrix (One n) = false

-- a vector is a column
abbrev pub rows_of : Shape → ℕ
rows_of (Two m n) = m
rows_of (One n) = n

abbrev pub cols_of : Shape → ℕ
cols_of (Two m n) = n
cols_of (One n) = 1

-- both are vectors', or both are matrices'
abbrev pub same_kind : Shape → Shape → Bool
same_kind (One m) (One n) = true
same_kind (Two m n) (Two k l) = true
same_kind _ _ = false

abbrev pub same_shape : Shape → Shape → Bool
same_shape (One m) (One n) = m == n
same_shape (Two m n) (Two k l) = (m == k) && (n == l)
same_shape _ _ = false

abbrev pub transposed_shape : Shape → Shape
transposed_shape (Two m n) = Two n m
transposed_shape (One n) = One n

-- ---- positions

-- whether a place has as many indices as a shape has dimensions
abbrev pub is_of_kind : Place → Shape → Bool
is_of_kind (place.One i) (One n) = true
is_of_kind (place.Two i j) (Two m n) = true
is_of_kind _ _ = false

-- whether two places have as many indices
abbrev pub same_length : Place → Place → Bool
same_length (place.One i) (place.One k) = true
same_length (place.Two i j) (place.Two k l) = true
same_length _ _ = false

-- whether each index is below its dimension
abbrev pub is_inside : Place → Shape → Bool
is_inside (place.One i) (One n) = nat_lt i n
is_inside (place.Two i j) (Two m n) = nat_lt i m && nat_lt j n
is_inside _ _ = false

abbrev pub row_of : Place → ℕ
row_of (place.One i) = i
row_of (place.Two i j) = i

abbrev pub col_of : Place → ℕ
col_of (place.One i) = 0
col_of (place.Two i j) = j

-- ---- maps

-- the word at each row and column, where there is one; a vector's are in column 0
abbrev pub Content : Type 0
Content = ℕ → ℕ → Option ℕ

-- nothing is stored
abbrev pub no_content : Content
no_content = λ i j. None

-- the edit that sets a value: what was stored, with this word at one position
abbrev pub with_entry : Content → ℕ → ℕ → ℕ → Content
with_entry c row col word = λ i j. if (i == row) && (j == col) then Some word else c i j

-- the edit that removes an entry: what was stored, with nothing at one position
abbrev pub without_entry : Content → ℕ → ℕ → Content
without_entry c row col = λ i j. if (i == row) && (j == col) then None else c i j

-- each value cast from one domain to another
abbrev pub cast_content : Domain → Domain → Content → Content
cast_content from to c = λ i j. option_map (cast_of from to) (c i j)

abbrev pub transposed_content : Content → Content
transposed_content c = λ i j. c j i

-- a map that has nothing outside a shape of so many rows and columns
abbrev pub IsWithin : ℕ → ℕ → Content → Type 0
IsWithin rows cols c = (i j : ℕ) → (nat_lt i rows && nat_lt j cols) ≡ false → c i j ≡ None

-- each word of a map is one of a domain
abbrev pub AreWordsOf : Domain → Content → Type 0
AreWordsOf domain c = (i j word : ℕ) → c i j ≡ Some word → IsWordOf domain word

-- ---- objects

pub record Object : Type 0 where
  pub domain : Domain
  pub shape : Shape
  pub content : Content

-- the map lies inside the shape, and its words are values of the domain
pub record IsObject (o : Object) : Type 0 where
  pub within : IsWithin (rows_of o.shape) (cols_of o.shape) o.content
  pub words : AreWordsOf o.domain o.content

abbrev pub signature_of : Object → Signature
signature_of o = record { domain = o.domain; shape = o.shape }

-- an object without entries
abbrev pub empty_object : Domain → Shape → Object
empty_object domain shape = record { domain = domain; shape = shape; content = no_content }

-- the transpose of a matrix, and a vector as it is (GrB_TRAN)
abbrev pub transposed_signature : Signature → Signature
transposed_signature s = record { domain = s.domain; shape = transposed_shape s.shape }

abbrev pub transposed_object : Object → Object
transposed_object o = record {
  domain = o.domain;
  shape = transposed_shape o.shape;
  content = if is_matrix o.shape then transposed_content o.content else o.content;
}

-- an object's values in another domain
abbrev pub in_domain : Domain → Object → Content
in_domain domain o = cast_content o.domain domain o.content
