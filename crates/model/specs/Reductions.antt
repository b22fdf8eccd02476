-- Sums of the values of rows and of all values (GrB_reduce).
use Rattle.std.specs.Prelude.{ℕ, ◌==◌, if◌then◌else◌, List, None}
use Rattle.std.specs.List.{filter_map, flat_map}
use Rattle.std.specs.Option.{unwrap_or}
use Rattle.algebra.specs.Monoids.{identity_of, sum_of}
use Rattle.algebra.specs.declared.operator_names.MonoidName.{MonoidName}
use Rattle.model.specs.Entries.{below}
use Rattle.model.specs.Object.{Content, Object, cols_of, in_domain, rows_of}

-- the values of a row of so many columns, in rising column
abbrev pub row_words : ℕ → Content → ℕ → List ℕ
row_words cols c i = filter_map (λ j. c i j) (below cols)

-- the values inside a shape, row by row
abbrev pub all_words : ℕ → ℕ → Content → List ℕ
all_words rows cols c = flat_map (row_words cols c) (below rows)

-- the sum of each row that has a value, as a column
abbrev pub row_sums : MonoidName → ℕ → Content → Content
row_sums monoid cols c = λ i j. if j == 0 then sum_of monoid.kind monoid.domain (row_words cols c i) else None

-- the sum of all values of an object, cast to the monoid's domain; of none the identity
abbrev pub sum_in : MonoidName → Object → ℕ
sum_in monoid o = unwrap_or
    (sum_of monoid.kind monoid.domain (all_words (rows_of o.shape) (cols_of o.shape) (in_domain monoid.domain o)))
    (identity_of monoid.kind monoid.domain)
