-- What the plain reader's lines, numbers and matrices stand for.
use Rattle.std.specs.Prelude.{ℕ, ◌^◌, ◌&&◌, Bool, List, [], ◌∷◌, codes, map, min, Option, Result, Ok, Err}
use Rattle.std.specs.Borrow.{Bor}
use Rattle.std.specs.List.{list_any}
use Rattle.std.specs.Option.{option_map}
use Rattle.std.specs.Result.{result_err}
use Rattle.algebra.specs.declared.domain.Domain.{Domain}
use Rattle.model.specs.declared.market.Heading.{Heading}
use Rattle.model.specs.declared.market.Misread.{Misread}
use Rattle.model.specs.MatrixMarket.{Line, Matrix, ToldLine, entry_said, misread, says}
use Rattle.plain.specs.declared.lines.PlainLine.{PlainLine}
use Rattle.plain.specs.declared.market.PlainMatrix.{PlainMatrix}

-- texts that are lent, as lists of bytes
abbrev pub texts_in : List (Bor (List ℕ)) → List (List ℕ)
texts_in texts = map (λ text. text.now) texts

-- lines with their words
abbrev pub words_in : PlainLine → Line
words_in line = texts_in line.words.items

abbrev pub line_of : PlainLine → ToldLine
line_of line = record { left = line.left; words = words_in line }

abbrev pub lines_in : List PlainLine → List ToldLine
lines_in lines = map line_of lines

-- a number, or the limit past which numbers aren't told apart
abbrev pub capped : ℕ → ℕ
capped n = min n (2 ^ 70)

-- ---- parts of definitions

-- what is wrong with an entry line, if anything is
abbrev pub fault_in : Domain → Heading → ToldLine → Option Misread
fault_in domain heading line =
    option_map (λ wrong. misread wrong line) (result_err (entry_said domain heading line.words))

-- the words that a banner may have after the second one
unfoldable pub is_kind : List ℕ → List ℕ → List ℕ → Bool
is_kind format field symmetry =
    list_any (λ text. says text format) (codes "coordinate" ∷ codes "array" ∷ [])
    && list_any (λ text. says text field)
    (codes "integer" ∷ codes "pattern" ∷ codes "real" ∷ codes "complex" ∷ [])
    && list_any (λ text. says text symmetry)
    (codes "general" ∷ codes "symmetric" ∷ codes "skew-symmetric" ∷ codes "hermitian" ∷ [])

-- ---- matrices

abbrev pub matrix_of : PlainMatrix → Matrix
matrix_of m = record { rows = m.rows; cols = m.cols; entries = m.entries.items }

-- a matrix of a file, or what is wrong with the file
abbrev pub matrix_of_plain : {E : Type 0} → Result PlainMatrix E → Result Matrix E
matrix_of_plain (Ok m) = Ok (matrix_of m)
matrix_of_plain (Err wrong) = Err wrong
