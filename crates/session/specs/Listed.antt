-- The entries of an object as tuples.
use Rattle.std.specs.Prelude.{ℕ, ℤ, List, map}
use Rattle.algebra.specs.declared.domain.Domain.{Domain}
use Rattle.algebra.specs.Value.{value_of}
use Rattle.model.specs.declared.entry.Entry.{Entry}
use Rattle.model.specs.Entries.{entries_of}
use Rattle.model.specs.Object.{Object, cols_of, rows_of}

-- row, column and value of an entry
abbrev pub tuple_of : Domain → Entry → ℕ × ℕ × ℤ
tuple_of domain e = (e.row, e.col, value_of domain e.word)

-- ..of each entry of an object, row by row; a vector has column 0
abbrev pub tuples_of : Object → List (ℕ × ℕ × ℤ)
tuples_of o = map (tuple_of o.domain) (entries_of (rows_of o.shape) (cols_of o.shape) o.content)
