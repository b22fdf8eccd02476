-- Answers as text, and the canonical text of an object in the coordinate format of NIST Matrix Market.
use Rattle.std.specs.Prelude.{ℕ, ◌+◌, List, [], ◌∷◌, ◌++◌, map, length, codes, decimal}
use Rattle.std.specs.Fmt.{signed_decimal}
use Rattle.std.specs.List.{flat_map}
use Rattle.algebra.specs.declared.domain.Domain.{Domain}
use Rattle.algebra.specs.Value.{value_of}
use Rattle.model.specs.declared.entry.Entry.{Entry}
use Rattle.model.specs.declared.status.Status.{Status}
use Rattle.model.specs.declared.status.Status.TheVariants as status
use Rattle.model.specs.Entries.{entries_of}
use Rattle.model.specs.Object.{Object, rows_of, cols_of}

-- the name that an answer shows
abbrev pub status_name : Status → List ℕ
status_name status.Ok = codes "OK"
status_name status.NoValue = codes "NO_VALUE"
status_name status.UninitializedObject = codes "UNINITIALIZED_OBJECT"
status_name status.InvalidValue = codes "INVALID_VALUE"
status_name status.InvalidIndex = codes "INVALID_INDEX"
status_name status.DomainMismatch = codes "DOMAIN_MISMATCH"
status_name status.DimensionMismatch = codes "DIMENSION_MISMATCH"
status_name status.OutputNotEmpty = codes "OUTPUT_NOT_EMPTY"
status_name status.NotImplemented = codes "NOT_IMPLEMENTED"
status_name status.IndexOutOfBounds = codes "INDEX_OUT_OF_BOUNDS"
status_name status.InvalidObject = codes "INVALID_OBJECT"
status_name status.OutOfMemory = codes "OUT_OF_MEMORY"
status_name status.Syntax = codes "SYNTAX"
status_name status.NameTaken = codes "NAME_TAKEN"
status_name status.WrongKind = codes "WRONG_KIND"
status_name status.NoFile = codes "NO_FILE"
status_name status.BadFile = codes "BAD_FILE"

-- an answer: its line's number, its status, and its data lines
pub record Answer : Type 0 where
  pub number : ℕ
  pub status : Status
  pub data_lines : List (List ℕ)

-- a line with its line feed
abbrev pub ended : List ℕ → List ℕ
ended line = line ++ 10 ∷ []

-- the number, a space, the name of the status and a line feed, and then the data lines
unfoldable pub answer_text : Answer → List ℕ
answer_text a = decimal a.number ++ 32 ∷ ended (status_name a.status) ++ flat_map ended a.data_lines

-- a value in decimal, with `-` before a negative one
abbrev pub value_text : Domain → ℕ → List ℕ
value_text domain word = signed_decimal (value_of domain word)

-- row, column and value, the indices from 1
abbrev pub entry_line : Domain → Entry → List ℕ
entry_line domain e = decimal (e.row + 1) ++ 32 ∷ decimal (e.col + 1) ++ 32 ∷ value_text domain e.word

-- rows, columns and the number of entries
abbrev pub size_line : ℕ → ℕ → ℕ → List ℕ
size_line rows cols nvals = decimal rows ++ 32 ∷ decimal cols ++ 32 ∷ decimal nvals

-- the banner, the size line, and a line for each entry
unfoldable pub canonical_lines : Object → List (List ℕ)
canonical_lines o =
    let entries = entries_of (rows_of o.shape) (cols_of o.shape) o.content in
    codes "%%MatrixMarket matrix coordinate integer general"
    ∷ size_line (rows_of o.shape) (cols_of o.shape) (length entries)
    ∷ map (entry_line o.domain) entries
