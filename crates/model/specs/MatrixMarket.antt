-- Matrix Market files (NIST Matrix Market, coordinate format): what a text says line by line, the matrix that it stands
-- for, and what is wrong with a text that stands for none. Of the format's fields `integer` and `pattern` are read, of
-- its symmetries all but `hermitian`; that comments and blank lines may stand anywhere behind the first line, that both
-- sides of a diagonal may be listed, and that values of one position are summed is this project's.
use Rattle.std.specs.Prelude.{ℕ, suc, ℤ, pos, neg_ℤ, int_le, ◌-◌, ◌^◌, ◌≡◌, ◌==◌, nat_le, nat_lt, not, Bool}
use Rattle.std.specs.Prelude.{true, false, ◌&&◌, ◌||◌, if◌then◌else◌, List, [], ◌∷◌, ◌++◌, map, length, drop, take}
use Rattle.std.specs.Prelude.{slice_get, slice_index, Option, Some, None, codes, filter, Result, Ok, Err}
use Rattle.std.specs.List.{All, filter_map, flat_map, list_all, list_any}
use Rattle.std.specs.Option.{option_map, option_map_or}
use Rattle.std.specs.Result.{result_err, result_map_both, result_ok}
use Rattle.std.specs.Str.{bytes_eq, str_eq_ignore_ascii_case}
use Rattle.algebra.specs.declared.domain.Domain.{Domain}
use Rattle.algebra.specs.declared.domain.Domain.TheVariants.{Bool as Boolean, Int64, Uint64}
use Rattle.algebra.specs.declared.kinds.BinaryKind.TheVariants as operator
use Rattle.algebra.specs.declared.operator_names.OpName.{OpName}
use Rattle.algebra.specs.Value.{greatest_of, least_of, value_of, word_of}
use Rattle.model.specs.declared.entry.Entry.{Entry}
use Rattle.model.specs.declared.market.Field.{Field}
use Rattle.model.specs.declared.market.Field.TheVariants as field
use Rattle.model.specs.declared.market.Heading.{Heading}
use Rattle.model.specs.declared.market.Misread.{Misread}
use Rattle.model.specs.declared.market.Mistake.{Mistake}
use Rattle.model.specs.declared.market.Mistake.TheVariants as mistake
use Rattle.model.specs.declared.market.MmFault.{MmFault}
use Rattle.model.specs.declared.market.MmFault.TheVariants.{Malformed}
use Rattle.model.specs.declared.market.Symmetry.{Symmetry}
use Rattle.model.specs.declared.market.Symmetry.TheVariants as symmetry
use Rattle.model.specs.declared.shape.Shape.TheVariants.{Two}
use Rattle.model.specs.Builds.{gathered}
use Rattle.model.specs.Entries.{entry_at}
use Rattle.model.specs.Fault.{is_dimension}
use Rattle.model.specs.Grammar.{◌>>=◌, digits_value, is_digit, lines_of, nth_word, where_it, words_of}
use Rattle.model.specs.Object.{Object}

-- a line as its words
abbrev pub Line : Type 0
Line = List (List ℕ)

-- ---- words

-- whether a word is this one, in lower or upper case
abbrev pub says : List ℕ → List ℕ → Bool
says text word = str_eq_ignore_ascii_case word text

-- digits, of any number
abbrev pub are_digits : List ℕ → Bool
are_digits word = not (length word == 0) && list_all is_digit word

abbrev pub digits_of : List ℕ → Option ℕ
digits_of word = if are_digits word then Some (digits_value word) else None

-- a whole number: digits, perhaps behind a sign
abbrev pub whole_of : List ℕ → Option ℤ
whole_of word =
    if slice_index word 0 == 45 then (digits_of (drop 1 word) >>= λ n. Some (neg_ℤ (pos n)))
    else if slice_index word 0 == 43 then (digits_of (drop 1 word) >>= λ n. Some (pos n))
    else (digits_of word >>= λ n. Some (pos n))

-- whether a whole number is a value of INT64 or of UINT64
abbrev pub is_of_64_bits : ℤ → Bool
is_of_64_bits z = int_le (least_of Int64) z && int_le z (greatest_of Uint64)

-- ---- the banner

-- five words: which format, what its values are, and which entries it leaves out
unfoldable pub is_banner : Line → Bool
is_banner words =
    (length words == 5) && bytes_eq (nth_word words 0) (codes "%%MatrixMarket")
    && says (codes "matrix") (nth_word words 1)
    && list_any (λ text. says text (nth_word words 2)) (codes "coordinate" ∷ codes "array" ∷ [])
    && list_any (λ text. says text (nth_word words 3))
    (codes "integer" ∷ codes "pattern" ∷ codes "real" ∷ codes "complex" ∷ [])
    && list_any (λ text. says text (nth_word words 4))
    (codes "general" ∷ codes "symmetric" ∷ codes "skew-symmetric" ∷ codes "hermitian" ∷ [])

unfoldable pub field_of : List ℕ → Option Field
field_of word =
    if says (codes "integer") word then Some field.Integer
    else if says (codes "pattern") word then Some field.Pattern
    else None

unfoldable pub symmetry_of : List ℕ → Option Symmetry
symmetry_of word =
    if says (codes "general") word then Some symmetry.General
    else if says (codes "symmetric") word then Some symmetry.Symmetric
    else if says (codes "skew-symmetric") word then Some symmetry.SkewSymmetric
    else None

-- a value's negative is there for signed values alone
abbrev pub can_hold : Domain → Field → Symmetry → Bool
can_hold Int64 field.Integer symmetry.SkewSymmetric = true
can_hold _ _ symmetry.SkewSymmetric = false
can_hold _ _ _ = true

-- ..of those that are read into a domain
unfoldable pub kind_of : Domain → Line → Option (Field × Symmetry)
kind_of domain words =
    if not (says (codes "coordinate") (nth_word words 2)) then None
    else (field_of (nth_word words 3) >>= λ field. symmetry_of (nth_word words 4) >>= λ symmetry.
    if can_hold domain field symmetry then Some (field, symmetry) else None)

-- ---- the size line

-- rows, columns and the number of entry lines
unfoldable pub heading_of : Field × Symmetry → Line → Option Heading
heading_of kind words =
    if length words == 3
    then (where_it is_dimension (digits_of (nth_word words 0)) >>= λ rows.
    where_it is_dimension (digits_of (nth_word words 1)) >>= λ cols.
    where_it (λ n. nat_lt n (2 ^ 64)) (digits_of (nth_word words 2)) >>= λ entries.
    Some (record { field = kind.0; symmetry = kind.1; rows = rows; cols = cols; entries = entries }))
    else None

-- what is mirrored at the diagonal is square
abbrev pub is_general : Symmetry → Bool
is_general symmetry.General = true
is_general _ = false

abbrev pub has_fitting_shape : Heading → Bool
has_fitting_shape h = is_general h.symmetry || (h.rows == h.cols)

-- ---- entry lines

-- how many words an entry line has
abbrev pub words_for : Field → ℕ
words_for field.Pattern = 2
words_for field.Integer = 3

abbrev pub has_diagonal : Symmetry → Bool
has_diagonal symmetry.SkewSymmetric = false
has_diagonal _ = true

-- whether an entry may stand in a row and a column, which are counted from 1
abbrev pub is_position : Heading → ℕ → ℕ → Bool
is_position h i j =
    nat_le 1 i && nat_le i h.rows && nat_le 1 j && nat_le j h.cols && (has_diagonal h.symmetry || not (i == j))

-- the value that an entry line says; of a pattern it is 1
abbrev pub value_said : Field → Line → Option ℤ
value_said field.Pattern words = Some (pos 1)
value_said field.Integer words = where_it is_of_64_bits (whole_of (nth_word words 2))

-- the entry that a line says, its value cast to a domain; or what is wrong with the line
unfoldable pub entry_said : Domain → Heading → Line → Result Entry Mistake
entry_said domain h words =
    let i = nth_word words 0 in let j = nth_word words 1 in
    if not ((length words == words_for h.field) && are_digits i && are_digits j) then Err mistake.Entry
    else if not (is_position h (digits_value i) (digits_value j)) then Err mistake.Index
    else option_map_or (λ z. Ok (entry_at (digits_value i - 1) (digits_value j - 1) (word_of domain z)))
    (value_said h.field words) (Err mistake.Value)

-- an entry, and behind it the one that the file leaves out
abbrev pub with_mirror : Symmetry → Entry → List Entry
with_mirror symmetry.General e = e ∷ []
with_mirror symmetry.Symmetric e = e ∷ (if e.row == e.col then [] else entry_at e.col e.row e.word ∷ [])
with_mirror symmetry.SkewSymmetric e =
    e ∷ entry_at e.col e.row (word_of Int64 (neg_ℤ (value_of Int64 e.word))) ∷ []

-- a line that says something, and how many lines of the text are left from it on
pub record ToldLine : Type 0 where
  pub left : ℕ
  pub words : Line

abbrev pub misread : Mistake → ToldLine → Misread
misread mistake line = record { left = line.left; mistake = mistake }

-- what is wrong with the announced entry lines, from the top, and then with their number: a line behind them, or the
-- end of the text before them
unfoldable pub faults_of : Domain → Heading → List ToldLine → List Misread
faults_of domain h lines =
    filter_map (λ line. option_map (λ wrong. misread wrong line) (result_err (entry_said domain h line.words)))
    (take h.entries lines)
    ++ map (misread mistake.TooMany) (take 1 (drop h.entries lines))
    ++ (if nat_lt (length lines) h.entries then record { left = 0; mistake = mistake.TooFew } ∷ [] else [])

-- all entries that lines say, in their order
abbrev pub entries_said : Domain → Heading → List Line → List Entry
entries_said domain h lines =
    flat_map (with_mirror h.symmetry) (filter_map (λ line. result_ok (entry_said domain h line)) lines)

-- ---- whole texts

-- a matrix as a file gives it: its dimensions, and entries in the order of the file
pub record Matrix : Type 0 where
  pub rows : ℕ
  pub cols : ℕ
  pub entries : List Entry

-- a line that says something: it has a word, and that doesn't begin with `%`
abbrev pub is_told : Line → Bool
is_told [] = false
is_told (word ∷ words) = not (slice_index word 0 == 37)

-- the lines that say something
unfoldable pub told_lines : List Line → List ToldLine
told_lines [] = []
told_lines (words ∷ lines) =
    if is_told words then record { left = suc (length lines); words = words } ∷ told_lines lines else told_lines lines

-- the matrix of a heading and entry lines, or the first thing that is wrong
unfoldable pub matrix_listed : Domain → Heading → List ToldLine → Result Matrix Misread
matrix_listed domain h lines = option_map_or Err
    (slice_get (faults_of domain h lines) 0)
    (Ok (record { rows = h.rows; cols = h.cols; entries = entries_said domain h (map (λ line. line.words) lines) }))

-- ..of all lines behind the first one that say something
unfoldable pub matrix_behind : Domain → Field × Symmetry → List ToldLine → Result Matrix Misread
matrix_behind domain kind [] = Err (record { left = 0; mistake = mistake.SizeLine })
matrix_behind domain kind (size ∷ lines) = option_map_or
    (λ h. if has_fitting_shape h then matrix_listed domain h lines else Err (misread mistake.NotSquare size))
    (heading_of kind size.words) (Err (misread mistake.SizeLine size))

-- ..of all lines
unfoldable pub matrix_in_lines : Domain → List Line → Result Matrix Misread
matrix_in_lines domain [] = Err (record { left = 0; mistake = mistake.Banner })
matrix_in_lines domain (banner ∷ lines) =
    let wrong : Mistake → Result Matrix Misread = λ m. Err (record { left = suc (length lines); mistake = m }) in
    if is_banner banner
    then option_map_or (λ kind. matrix_behind domain kind (told_lines lines)) (kind_of domain banner)
    (wrong mistake.Unsupported)
    else wrong mistake.Banner

-- a mistake by its line, of so many
abbrev pub fault_at : ℕ → Misread → MmFault
fault_at lines wrong = Malformed (suc lines - wrong.left) wrong.mistake

-- the matrix that a text stands for, its values cast to a domain; or else what is wrong with it, line by line from the
-- top
unfoldable pub matrix_in : Domain → List ℕ → Result Matrix MmFault
matrix_in domain text =
    result_map_both (λ m. m) (fault_at (length (lines_of text))) (matrix_in_lines domain (map words_of (lines_of text)))

-- The same as a relation: the text has a banner and a size line, and each line behind it that says something is one of
-- as many entries as were announced.
pub record StandsFor (domain : Domain) (text : List ℕ) (m : Matrix) : Type 0 where
  pub banner : Line
  pub size : Line
  pub lines : List Line
  pub entries : List Line
  pub heading : Heading
  pub cut : map words_of (lines_of text) ≡ banner ∷ lines
  pub announced : is_banner banner ≡ true
  pub kind : kind_of domain banner ≡ Some (heading.field, heading.symmetry)
  pub said : filter is_told lines ≡ size ∷ entries
  pub sized : heading_of (heading.field, heading.symmetry) size ≡ Some heading
  pub fits : has_fitting_shape heading ≡ true
  pub number : length entries ≡ heading.entries
  pub each : All (λ line. result_err (entry_said domain heading line) ≡ None) entries
  pub stands : m ≡ record { rows = heading.rows; cols = heading.cols; entries = entries_said domain heading entries }

-- ---- files

-- the operator by which values of one position are summed: of BOOL it is LOR
abbrev pub sum_in_file : Domain → OpName
sum_in_file Boolean = record { kind = operator.Lor; domain = Boolean }
sum_in_file domain = record { kind = operator.Plus; domain = domain }

-- the object that a matrix of a file makes (GrB_Matrix_new, and GrB_Matrix_build)
abbrev pub object_read : Domain → Matrix → Object
object_read domain m = record {
  domain = domain;
  shape = Two m.rows m.cols;
  content = gathered (Some (sum_in_file domain)) m.entries;
}

-- what is read of a file, if it is there
abbrev pub File : Type 0
File = Option (Result Matrix MmFault)
