-- Entries that pass a test.
use Rattle.std.specs.Prelude.{ℕ, if◌then◌else◌, Bool, List, [], ◌∷◌}
use Rattle.model.specs.declared.entry.Entry.{Entry}
use Rattle.elementwise.specs.declared.passing.Test.{Test}
use Rattle.elementwise.specs.Tests.{passes_by}

-- whether an entry passes, as it lies: of a column the row is the inner index
abbrev pub is_passed : Test → ℕ → ℕ → ℕ → Bool
is_passed test outer inner word =
    if test.is_column then passes_by test.op test.s inner outer word else passes_by test.op test.s outer inner word

abbrev pub passes_as_it_lies : Test → Entry → Bool
passes_as_it_lies test e = is_passed test e.row e.col e.word

-- the inner indices, beside words, of the entries that pass
unfoldable pub kept_indices : (ℕ → ℕ → Bool) → List ℕ → List ℕ → List ℕ
kept_indices test [] words = []
kept_indices test (c ∷ cs) [] = []
kept_indices test (c ∷ cs) (w ∷ ws) = if test c w then c ∷ kept_indices test cs ws else kept_indices test cs ws

-- the words of the entries that pass, beside inner indices
unfoldable pub kept_words : (ℕ → ℕ → Bool) → List ℕ → List ℕ → List ℕ
kept_words test [] words = []
kept_words test (c ∷ cs) [] = []
kept_words test (c ∷ cs) (w ∷ ws) = if test c w then w ∷ kept_words test cs ws else kept_words test cs ws
