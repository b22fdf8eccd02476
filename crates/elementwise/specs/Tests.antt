-- Index operators as tests of entries.
use Rattle.std.specs.Prelude.{ℕ, Bool}
use Rattle.algebra.specs.IndexOperators.{passes}
use Rattle.algebra.specs.declared.index.IndexOp.{IndexOp}

-- whether the answer for a word at row i and column j is true
abbrev pub passes_by : IndexOp → ℕ → ℕ → ℕ → ℕ → Bool
passes_by op s i j word = passes op.kind op.domain word i j s
