-- Entries of which each gets another word.
use Rattle.std.specs.Prelude.{ℕ, if◌then◌else◌, Bool, List, map}
use Rattle.algebra.specs.IndexOperators.{index_eval_of}
use Rattle.algebra.specs.declared.index.IndexOp.{IndexOp}
use Rattle.model.specs.declared.entry.Entry.{Entry}
use Rattle.model.specs.Entries.{entry_at}

-- each entry with what a function gives for its row, its column and its word
abbrev pub mapped : (ℕ → ℕ → ℕ → ℕ) → List Entry → List Entry
mapped f es = map (λ e. entry_at e.row e.col (f e.row e.col e.word)) es

-- a function of the row, the column and the word of an entry, for entries as they lie: of a column the row is the
-- inner index
abbrev pub as_they_lie : Bool → (ℕ → ℕ → ℕ → ℕ) → ℕ → ℕ → ℕ → ℕ
as_they_lie is_column f outer inner word = if is_column then f inner outer word else f outer inner word

-- what an index operator gives, with the word s as its scalar
abbrev pub answer_by : IndexOp → ℕ → ℕ → ℕ → ℕ → ℕ
answer_by op s i j word = index_eval_of op.kind op.domain word i j s
