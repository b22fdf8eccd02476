-- Maps that are built of lists of values at positions (GrB_Matrix_build, GrB_Vector_build).
use Rattle.std.specs.Prelude.{ℕ, ◌≡◌, ◌==◌, ◌&&◌, not, Bool, true, List, [], ◌∷◌, map, filter, fold}
use Rattle.std.specs.Prelude.{Option, Some, None}
use Rattle.std.specs.List.{AllPairs, list_all}
use Rattle.std.specs.List.Sorted.{IsPermutation}
use Rattle.algebra.specs.declared.domain.Domain.{Domain}
use Rattle.algebra.specs.declared.domain.Domain.TheVariants.{Uint64}
use Rattle.algebra.specs.declared.operator_names.OpName.{OpName}
use Rattle.algebra.specs.Operators.{eval_of}
use Rattle.algebra.specs.Value.{is_value_of, word_of}
use Rattle.model.specs.declared.entry.Entry.{Entry}
use Rattle.model.specs.declared.shape.Place.{Place}
use Rattle.model.specs.declared.shape.Shape.{Shape}
use Rattle.model.specs.declared.tuples.Tuple.{Tuple}
use Rattle.model.specs.Entries.{IsNotBehind, entry_at, same_position}
use Rattle.model.specs.Object.{Content, col_of, is_inside, is_of_kind, row_of}

-- the words that are listed at a position, in the order of the list
abbrev pub words_at : List Entry → ℕ → ℕ → List ℕ
words_at es i j = map (λ e. e.word) (filter (λ e. (i == e.row) && (j == e.col)) es)

-- what two words of one position make: the later one, or an operator's answer
abbrev pub joined : Option OpName → ℕ → ℕ → ℕ
joined None x y = y
joined (Some op) x y = eval_of op.kind op.domain x y

-- what the words of one position make, from left to right
abbrev pub joined_all : Option OpName → List ℕ → Option ℕ
joined_all dup [] = None
joined_all dup (x ∷ xs) = Some (fold (joined dup) x xs)

-- each position that is listed, with what its words make
abbrev pub gathered : Option OpName → List Entry → Content
gathered dup es = λ i j. joined_all dup (words_at es i j)

-- ---- tuples, with values of a domain

abbrev pub entry_of : Domain → Tuple → Entry
entry_of domain t = entry_at (row_of t.place) (col_of t.place) (word_of domain t.value)

-- the map of tuples
abbrev pub built : Option OpName → Domain → List Tuple → Content
built dup domain tuples = gathered dup (map (entry_of domain) tuples)

abbrev pub same_place : Place → Place → Bool
same_place p q = (row_of p == row_of q) && (col_of p == col_of q)

-- no position is listed twice
abbrev pub are_single : List Tuple → Bool
are_single [] = true
are_single (t ∷ ts) = list_all (λ u. not (same_place t.place u.place)) ts && are_single ts

-- no two entries are of one position
abbrev pub are_apart : List Entry → Bool
are_apart [] = true
are_apart (e ∷ es) = list_all (λ f. not (same_position e f)) es && are_apart es

-- the entries of tuples, row by row, with their values modulo 2 ^ 64; those of one position are in the
-- order of the tuples
pub record AreEntriesOf (tuples : List Tuple) (entries : List Entry) : Type 0 where
  pub same : IsPermutation (map (entry_of Uint64) tuples) entries
  pub order : AllPairs IsNotBehind entries
  pub stable : (i j : ℕ) → words_at entries i j ≡ words_at (map (entry_of Uint64) tuples) i j

-- each has as many indices as a shape has dimensions
abbrev pub are_of_kind : Shape → List Tuple → Bool
are_of_kind shape tuples = list_all (λ t. is_of_kind t.place shape) tuples

-- each lies inside a shape
abbrev pub are_inside : Shape → List Tuple → Bool
are_inside shape tuples = list_all (λ t. is_inside t.place shape) tuples

-- each value is one of a domain
abbrev pub are_values_of : Domain → List Tuple → Bool
are_values_of domain tuples = list_all (λ t. is_value_of domain t.value) tuples
