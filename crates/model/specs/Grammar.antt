-- How the bytes of a script are read: lines, words, and the grammar of each call.
use Rattle.std.specs.Prelude.{ℕ, ℤ, pos, neg_ℤ, ◌+◌, ◌-◌, ◌*◌, ◌^◌, ◌==◌, nat_le, nat_lt, not, Bool, true, false, ◌&&◌}
use Rattle.std.specs.Prelude.{◌||◌, if◌then◌else◌, List, [], ◌∷◌, ◌++◌, map, length, drop, slice_index, slice_index_or}
use Rattle.std.specs.Prelude.{Option, Some, None, codes, filter, fold, take}
use Rattle.std.specs.List.{list_all, slice_split}
use Rattle.std.specs.Option.{option_and_then, option_map_or}
use Rattle.std.specs.Str.{bytes_eq}
use Rattle.std.specs.Str.Lines.{strip_carriage_return}
use Rattle.algebra.specs.declared.domain.Domain.{Domain}
use Rattle.algebra.specs.declared.domain.Domain.TheVariants as domains
use Rattle.algebra.specs.declared.functions.FunctionName.TheVariants as function
use Rattle.algebra.specs.declared.operator_names.IndexName.{IndexName}
use Rattle.algebra.specs.declared.operator_names.MonoidName.{MonoidName}
use Rattle.algebra.specs.declared.operator_names.OpName.{OpName}
use Rattle.algebra.specs.declared.operator_names.SemiringName.{SemiringName}
use Rattle.algebra.specs.declared.operator_names.UnaryName.{UnaryName}
use Rattle.algebra.specs.IndexOperators.{is_by_position}
use Rattle.algebra.specs.Value.{is_built_in}
use Rattle.algebra.specs.Names.{binary_from_name, domain_from_name, index_from_name, monoid_from_name, unary_from_name}
use Rattle.model.specs.declared.call.Act.TheVariants.{Free, Clear, Resize, Build, Set, Remove, Get, Nvals, Print}
use Rattle.model.specs.declared.call.Act.TheVariants.{Reduce, Wait}
use Rattle.model.specs.declared.call.Call.{Call}
use Rattle.model.specs.declared.call.Call.TheVariants.{Create, Dup, On, Operate}
use Rattle.model.specs.declared.call.Desc.{Desc}
use Rattle.model.specs.declared.call.Form.TheVariants.{MatrixMatrix, MatrixVector, VectorMatrix}
use Rattle.model.specs.declared.call.OneInput.TheVariants.{Apply, Select, ReduceRows, Transpose, Extract, Assign}
use Rattle.model.specs.declared.call.Operation.{Operation}
use Rattle.model.specs.declared.call.Operation.TheVariants.{Fill, OfOne, OfTwo}
use Rattle.model.specs.declared.call.Out.{Out}
use Rattle.model.specs.declared.call.Positions.TheVariants.{Union, Intersection}
use Rattle.model.specs.declared.call.Region.TheVariants as region
use Rattle.model.specs.declared.call.TwoInputs.TheVariants.{Combine, Multiply}
use Rattle.model.specs.declared.call.WaitMode.{WaitMode}
use Rattle.model.specs.declared.call.WaitMode.TheVariants.{Complete, Materialize}
use Rattle.model.specs.declared.limits.TheConstants.{LONGEST_FILE_NAME, LONGEST_LINE, LONGEST_NAME}
use Rattle.model.specs.declared.shape.Place.{Place}
use Rattle.model.specs.declared.shape.Place.TheVariants.{One, Two}
use Rattle.model.specs.declared.shape.Shape.TheVariants as shape
use Rattle.model.specs.declared.tuples.Tuple.{Tuple}
use Rattle.model.specs.Indices.{All, Indices, These}
use Rattle.model.specs.Object.{same_length}

-- an object's name, as bytes
abbrev pub Name : Type 0
Name = List ℕ

-- ---- lines and words

-- what ends in nothing has no part there
abbrev pub without_empty_last : List (List ℕ) → List (List ℕ)
without_empty_last [] = []
without_empty_last (part ∷ []) = if length part == 0 then [] else part ∷ []
without_empty_last (part ∷ next ∷ parts) = part ∷ without_empty_last (next ∷ parts)

-- the parts that line feeds end, and what follows the last one, if anything does; without one carriage return at
-- their ends
unfoldable pub lines_of : List ℕ → List (List ℕ)
lines_of bytes = map strip_carriage_return (without_empty_last (slice_split (λ b. b == 10) bytes))

-- a space or a tab
abbrev pub is_blank : ℕ → Bool
is_blank b = (b == 32) || (b == 9)

-- what stands between blanks
abbrev pub words_of : List ℕ → List (List ℕ)
words_of line = filter (λ word. not (length word == 0)) (slice_split is_blank line)

-- a tab, or a printable ASCII byte
abbrev pub is_plain : ℕ → Bool
is_plain b = (b == 9) || (nat_le 32 b && nat_le b 126)

-- ---- kinds of words

-- steps that may find nothing
infixl 10 ◌>>=◌
abbrev pub ◌>>=◌ : {A B : Type 0} → Option A → (A → Option B) → Option B
o >>= f = option_and_then f o

abbrev pub is_digit : ℕ → Bool
is_digit b = nat_le 48 b && nat_le b 57

abbrev pub is_letter : ℕ → Bool
is_letter b = (nat_le 65 b && nat_le b 90) || (nat_le 97 b && nat_le b 122)

-- a letter, and then letters, digits and underscores
abbrev pub is_name : List ℕ → Bool
is_name word = is_letter (slice_index word 0) && list_all (λ b. is_letter b || is_digit b || (b == 95)) word
    && nat_le (length word) LONGEST_NAME

unfoldable pub name_of : List ℕ → Option Name
name_of word = if is_name word then Some word else None

-- the number that decimal digits write
abbrev pub digits_value : List ℕ → ℕ
digits_value digits = fold (λ n b. n * 10 + (b - 48)) 0 digits

-- 1 to 20 digits
abbrev pub is_number : List ℕ → Bool
is_number word = nat_le 1 (length word) && nat_le (length word) 20 && list_all is_digit word

-- a number below 2 ^ 64
unfoldable pub number_of : List ℕ → Option ℕ
number_of word = if is_number word && nat_lt (digits_value word) (2 ^ 64) then Some (digits_value word) else None

-- a number from 0 to 2 ^ 64 - 1, or one from -2 ^ 63 on behind a `-`
unfoldable pub value_of_word : List ℕ → Option ℤ
value_of_word word =
    if slice_index word 0 == 45
    then (if is_number (drop 1 word) && nat_le (digits_value (drop 1 word)) (2 ^ 63)
    then Some (neg_ℤ (pos (digits_value (drop 1 word)))) else None)
    else (number_of word >>= λ n. Some (pos n))

-- what a reader finds, where it passes a test
abbrev pub where_it : {A : Type 0} → (A → Bool) → Option A → Option A
where_it passes found = found >>= λ x. if passes x then Some x else None

unfoldable pub domain_of : List ℕ → Option Domain
domain_of word = domain_from_name word

-- ---- operators, monoids and semirings

-- the word at a place, or an empty one
abbrev pub nth_word : List (List ℕ) → ℕ → List ℕ
nth_word words k = slice_index_or words k []

-- what points part
abbrev pub parts_of : List ℕ → List (List ℕ)
parts_of word = slice_split (λ b. b == 46) word

-- a name and a domain
unfoldable pub dotted_of : List ℕ → Option (List ℕ × Domain)
dotted_of word =
    let parts = parts_of word in
    if length parts == 2 then (domain_of (nth_word parts 1) >>= λ domain. Some (nth_word parts 0, domain)) else None

-- the names of an operator and a domain
unfoldable pub op_name_of : List ℕ → Option OpName
op_name_of word = dotted_of word >>= λ parts. binary_from_name parts.0 >>= λ kind.
    Some (record { kind = kind; domain = parts.1 })

unfoldable pub unary_name_of : List ℕ → Option UnaryName
unary_name_of word = dotted_of word >>= λ parts. unary_from_name parts.0 >>= λ kind.
    Some (record { kind = kind; domain = parts.1 })

unfoldable pub monoid_name_of : List ℕ → Option MonoidName
monoid_name_of word = dotted_of word >>= λ parts. monoid_from_name parts.0 >>= λ kind.
    Some (record { kind = kind; domain = parts.1 })

-- the name of an operator by position, which has no domain of its own
unfoldable pub by_position_of : List ℕ → Option IndexName
by_position_of word = where_it is_by_position (index_from_name word) >>= λ kind.
    Some (record { kind = kind; domain = domains.Int64 })

-- the names of a VALUE operator and a domain
unfoldable pub by_value_of : List ℕ → Option IndexName
by_value_of word = dotted_of word >>= λ parts.
    where_it (λ kind. not (is_by_position kind)) (index_from_name parts.0) >>= λ kind.
    Some (record { kind = kind; domain = parts.1 })

unfoldable pub index_name_of : List ℕ → Option IndexName
index_name_of word = option_map_or Some (by_position_of word) (by_value_of word)

-- the names of a monoid, an operator and a domain
unfoldable pub semiring_name_of : List ℕ → Option SemiringName
semiring_name_of word =
    let parts = parts_of word in
    if length parts == 3
    then (monoid_from_name (nth_word parts 0) >>= λ add. binary_from_name (nth_word parts 1) >>= λ multiply.
    domain_of (nth_word parts 2) >>= λ domain. Some (record { add = add; multiply = multiply; domain = domain }))
    else None

-- ---- places

-- one index or two
abbrev pub one_of : List ℕ → Option Place
one_of word = number_of word >>= λ i. Some (One i)

abbrev pub two_of : List ℕ → List ℕ → Option Place
two_of row col = number_of row >>= λ i. number_of col >>= λ j. Some (Two i j)

-- ---- lists

-- what commas part
abbrev pub items_of : List ℕ → List (List ℕ)
items_of word = slice_split (λ b. b == 44) word

-- what each of some words says, where each says something
abbrev pub all_read : {A : Type 0} → (List ℕ → Option A) → List (List ℕ) → Option (List A)
all_read read [] = Some []
all_read read (word ∷ words) = read word >>= λ x. all_read read words >>= λ xs. Some (x ∷ xs)

-- `:`, or numbers with commas between them
unfoldable pub indices_of : List ℕ → Option Indices
indices_of word =
    if bytes_eq word (codes ":") then Some All else (all_read number_of (items_of word) >>= λ items. Some (These items))

-- one index or two, and a value, with commas between them
unfoldable pub tuple_of : List ℕ → Option Tuple
tuple_of word =
    let items = items_of word in
    if length items == 2
    then (one_of (nth_word items 0) >>= λ place. value_of_word (nth_word items 1) >>= λ value.
    Some (record { place = place; value = value }))
    else if length items == 3
    then (two_of (nth_word items 0) (nth_word items 1) >>= λ place. value_of_word (nth_word items 2) >>= λ value.
    Some (record { place = place; value = value }))
    else None

-- all have as many indices as the first one
abbrev pub are_alike : List Tuple → Bool
are_alike [] = true
are_alike (t ∷ ts) = list_all (λ u. same_length t.place u.place) ts

unfoldable pub tuples_of : List (List ℕ) → Option (List Tuple)
tuples_of words = where_it are_alike (all_read tuple_of words)

-- ---- `-`, or a word

-- `-`: no mask, no accumulator, no flags
abbrev pub is_none_word : List ℕ → Bool
is_none_word word = bytes_eq word (codes "-")

-- `-`, or what a word says
abbrev pub perhaps : {A : Type 0} → (List ℕ → Option A) → List ℕ → Option (Option A)
perhaps read word = if is_none_word word then Some None else (read word >>= λ x. Some (Some x))

-- ---- descriptors

abbrev pub no_flags : Desc
no_flags = record {
  replace = false;
  structure = false;
  complement = false;
  transpose_first = false;
  transpose_second = false;
}

-- one flag more, which wasn't there
unfoldable pub flag_added : Desc → List ℕ → Option Desc
flag_added desc word =
    if bytes_eq word (codes "R") then (if desc.replace then None else Some (record desc { replace = true }))
    else if bytes_eq word (codes "S") then (if desc.structure then None else Some (record desc { structure = true }))
    else if bytes_eq word (codes "C") then (if desc.complement then None else Some (record desc { complement = true }))
    else if bytes_eq word (codes "T0")
    then (if desc.transpose_first then None else Some (record desc { transpose_first = true }))
    else if bytes_eq word (codes "T1")
    then (if desc.transpose_second then None else Some (record desc { transpose_second = true }))
    else None

abbrev pub flags_added : Desc → List (List ℕ) → Option Desc
flags_added desc [] = Some desc
flags_added desc (word ∷ words) = flag_added desc word >>= λ more. flags_added more words

-- `-`, or flags with commas between them, each at most once
unfoldable pub desc_of : List ℕ → Option Desc
desc_of word = if is_none_word word then Some no_flags else flags_added no_flags (items_of word)

-- ---- waits

unfoldable pub wait_mode_of : List ℕ → Option WaitMode
wait_mode_of word =
    if bytes_eq word (codes "complete") then Some Complete
    else if bytes_eq word (codes "materialize") then Some Materialize
    else None

-- ---- the forms of words

-- what a word is to be; tuples are all the words that are left
pub data WordForm : Type 0 where
  AName : WordForm
  ADomain : WordForm
  ANumber : WordForm
  AValue : WordForm
  AList : WordForm
  AnOperator : WordForm
  AnOperatorOrNone : WordForm
  AUnaryOperator : WordForm
  AnIndexOperator : WordForm
  AMonoid : WordForm
  ASemiring : WordForm
  AWaitMode : WordForm
  Tuples : WordForm

-- what a word of a form says
abbrev pub Said : WordForm → Type 0
Said AName = Name
Said ADomain = Domain
Said ANumber = ℕ
Said AValue = ℤ
Said AList = Indices
Said AnOperator = OpName
Said AnOperatorOrNone = Option OpName
Said AUnaryOperator = UnaryName
Said AnIndexOperator = IndexName
Said AMonoid = MonoidName
Said ASemiring = SemiringName
Said AWaitMode = WaitMode
Said Tuples = List Tuple

-- what the word at a place says, if it has the form
abbrev pub read_word : (form : WordForm) → List (List ℕ) → ℕ → Option (Said form)
read_word AName words k = name_of (nth_word words k)
read_word ADomain words k = domain_of (nth_word words k)
read_word ANumber words k = number_of (nth_word words k)
read_word AValue words k = value_of_word (nth_word words k)
read_word AList words k = indices_of (nth_word words k)
read_word AnOperator words k = op_name_of (nth_word words k)
read_word AnOperatorOrNone words k = perhaps op_name_of (nth_word words k)
read_word AUnaryOperator words k = unary_name_of (nth_word words k)
read_word AnIndexOperator words k = index_name_of (nth_word words k)
read_word AMonoid words k = monoid_name_of (nth_word words k)
read_word ASemiring words k = semiring_name_of (nth_word words k)
read_word AWaitMode words k = wait_mode_of (nth_word words k)
read_word Tuples words k = tuples_of (drop k words)

-- what makes something of what words of some forms say
abbrev pub Making : List WordForm → Type 0 → Type 0
Making [] A = A
Making (form ∷ forms) A = Said form → Making forms A

-- what is made of the words from a place on, if they have the forms
abbrev pub read_words : {A : Type 0} → (forms : List WordForm) → Making forms A → List (List ℕ) → ℕ → Option A
read_words [] made words k = Some made
read_words (form ∷ forms) make words k =
    read_word form words k >>= λ said. read_words forms (make said) words (k + 1)

-- whether so many words, from a place on, are as many as the forms; tuples are any number
abbrev pub are_as_many : List WordForm → ℕ → ℕ → Bool
are_as_many [] n k = n == k
are_as_many (Tuples ∷ forms) n k = nat_le k n
are_as_many (form ∷ forms) n k = are_as_many forms n (k + 1)

-- ---- rows: a first word, the forms of the words behind it, and what they make

pub record Row (A : Type 0) : Type 0 where
  pub word : List ℕ
  pub forms : List WordForm
  pub make : Making forms A

abbrev pub row : {A : Type 0} → List ℕ → (forms : List WordForm) → Making forms A → Row A
row word forms make = record { word = word; forms = forms; make = make }

-- what a first word and those behind it say, by the first row of that word and of so many
unfoldable pub said_by : {A : Type 0} → List (Row A) → List ℕ → List (List ℕ) → Option A
said_by [] word words = None
said_by (row ∷ rows) word words =
    if bytes_eq word row.word && are_as_many row.forms (length words) 0
    then read_words row.forms row.make words 0
    else said_by rows word words

-- ---- the table of commands

-- the calls but for operations
abbrev pub calls : List (Row (Call Name Name))
calls =
    row (codes "matrix") (AName ∷ ADomain ∷ ANumber ∷ ANumber ∷ []) (λ name domain rows cols.
    Create name domain (shape.Two rows cols))
    ∷ row (codes "vector") (AName ∷ ADomain ∷ ANumber ∷ []) (λ name domain size. Create name domain (shape.One size))
    ∷ row (codes "dup") (AName ∷ AName ∷ []) Dup
    ∷ row (codes "free") (AName ∷ []) (λ object. On object Free)
    ∷ row (codes "clear") (AName ∷ []) (λ object. On object Clear)
    ∷ row (codes "resize") (AName ∷ ANumber ∷ []) (λ object size. On object (Resize (shape.One size)))
    ∷ row (codes "resize") (AName ∷ ANumber ∷ ANumber ∷ []) (λ object rows cols.
    On object (Resize (shape.Two rows cols)))
    ∷ row (codes "build") (AName ∷ AnOperatorOrNone ∷ Tuples ∷ []) (λ object dup tuples. On object (Build dup tuples))
    ∷ row (codes "set") (AName ∷ ANumber ∷ AValue ∷ []) (λ object i value. On object (Set (One i) value))
    ∷ row (codes "set") (AName ∷ ANumber ∷ ANumber ∷ AValue ∷ []) (λ object i j value. On object (Set (Two i j) value))
    ∷ row (codes "remove") (AName ∷ ANumber ∷ []) (λ object i. On object (Remove (One i)))
    ∷ row (codes "remove") (AName ∷ ANumber ∷ ANumber ∷ []) (λ object i j. On object (Remove (Two i j)))
    ∷ row (codes "get") (AName ∷ ANumber ∷ []) (λ object i. On object (Get (One i)))
    ∷ row (codes "get") (AName ∷ ANumber ∷ ANumber ∷ []) (λ object i j. On object (Get (Two i j)))
    ∷ row (codes "nvals") (AName ∷ []) (λ object. On object Nvals)
    ∷ row (codes "print") (AName ∷ []) (λ object. On object Print)
    ∷ row (codes "reduce") (AName ∷ AMonoid ∷ []) (λ object monoid. On object (Reduce monoid))
    ∷ row (codes "wait") (AName ∷ AWaitMode ∷ []) (λ object mode. On object (Wait mode))
    ∷ []

-- the operations, by the words between ACCUM and DESC: those of two inputs
abbrev pub operations_of_two : List (Row (Operation Name))
operations_of_two =
    row (codes "mxm") (ASemiring ∷ AName ∷ AName ∷ []) (λ semiring. OfTwo (Multiply MatrixMatrix semiring))
    ∷ row (codes "mxv") (ASemiring ∷ AName ∷ AName ∷ []) (λ semiring. OfTwo (Multiply MatrixVector semiring))
    ∷ row (codes "vxm") (ASemiring ∷ AName ∷ AName ∷ []) (λ semiring. OfTwo (Multiply VectorMatrix semiring))
    ∷ row (codes "ewiseadd") (AnOperator ∷ AName ∷ AName ∷ []) (λ op. OfTwo (Combine Union op))
    ∷ row (codes "ewisemult") (AnOperator ∷ AName ∷ AName ∷ []) (λ op. OfTwo (Combine Intersection op))
    ∷ []

-- ..those of one that name no region
abbrev pub operations_of_one : List (Row (Operation Name))
operations_of_one =
    row (codes "apply") (AUnaryOperator ∷ AName ∷ []) (λ op. OfOne (Apply (function.Unary op)))
    ∷ row (codes "applyindex") (AnIndexOperator ∷ AName ∷ AValue ∷ []) (λ op a scalar.
    OfOne (Apply (function.Index op scalar)) a)
    ∷ row (codes "applyfirst") (AnOperator ∷ AValue ∷ AName ∷ []) (λ op value. OfOne (Apply (function.First op value)))
    ∷ row (codes "applysecond") (AnOperator ∷ AName ∷ AValue ∷ []) (λ op a value.
    OfOne (Apply (function.Second op value)) a)
    ∷ row (codes "select") (AnIndexOperator ∷ AName ∷ AValue ∷ []) (λ op a scalar. OfOne (Select op scalar) a)
    ∷ row (codes "reducerows") (AMonoid ∷ AName ∷ []) (λ monoid. OfOne (ReduceRows monoid))
    ∷ row (codes "transpose") (AName ∷ []) (OfOne Transpose)
    ∷ []

-- ..and those that name one
abbrev pub operations_on_regions : List (Row (Operation Name))
operations_on_regions =
    row (codes "extract") (AName ∷ AList ∷ []) (λ a indices. OfOne (Extract (region.One indices)) a)
    ∷ row (codes "extract") (AName ∷ AList ∷ AList ∷ []) (λ a rows cols. OfOne (Extract (region.Two rows cols)) a)
    ∷ row (codes "assign") (AName ∷ AList ∷ []) (λ a indices. OfOne (Assign (region.One indices)) a)
    ∷ row (codes "assign") (AName ∷ AList ∷ AList ∷ []) (λ a rows cols. OfOne (Assign (region.Two rows cols)) a)
    ∷ row (codes "fill") (AValue ∷ AList ∷ []) (λ value indices. Fill value (region.One indices))
    ∷ row (codes "fill") (AValue ∷ AList ∷ AList ∷ []) (λ value rows cols. Fill value (region.Two rows cols))
    ∷ []

abbrev pub operations : List (Row (Operation Name))
operations = operations_of_two ++ operations_of_one ++ operations_on_regions

-- ---- calls

-- whether the first word is a name
abbrev pub is_called : List (List ℕ) → List ℕ → Bool
is_called words name = bytes_eq (nth_word words 0) name

-- C, MASK, ACCUM and the last word, DESC
unfoldable pub out_of_words : List (List ℕ) → Option (Out Name)
out_of_words words = if not (nat_le 5 (length words)) then None else
    (name_of (nth_word words 1) >>= λ c. perhaps name_of (nth_word words 2) >>= λ mask.
    perhaps op_name_of (nth_word words 3) >>= λ accum.
    desc_of (nth_word words (length words - 1)) >>= λ desc.
    Some (record { c = c; mask = mask; accum = accum; desc = desc }))

-- the words between ACCUM and DESC
abbrev pub middle_of : List (List ℕ) → List (List ℕ)
middle_of words = drop 4 (take (length words - 1) words)

-- C MASK ACCUM, what an operation's row asks for, DESC
unfoldable pub operate_of : List (List ℕ) → Option (Call Name Name)
operate_of words =
    said_by operations (nth_word words 0) (middle_of words) >>= λ operation. out_of_words words >>= λ out.
    Some (Operate out operation)

-- what the words of a line call, by the first word
unfoldable pub call_of : List (List ℕ) → Option (Call Name Name)
call_of words = option_map_or Some (said_by calls (nth_word words 0) (drop 1 words)) (operate_of words)

-- ---- one line

-- what a line is: nothing to answer, no command, a call, or a matrix of a file that is loaded under a new name, with
-- values of a domain; what stands for the file is its name, or what is read of it
pub data Reading (F : Type 0) : Type 0 where
  Silent : Reading F
  Malformed : Reading F
  Called : Call Name Name → Reading F
  Loads : Name → Domain → F → Reading F

-- 1 to 255 printable bytes
abbrev pub is_file_name : List ℕ → Bool
is_file_name word = nat_le 1 (length word) && nat_le (length word) LONGEST_FILE_NAME
    && list_all (λ b. nat_le 33 b && nat_le b 126) word

unfoldable pub file_name_of : List ℕ → Option (List ℕ)
file_name_of word = if is_file_name word then Some word else None

-- load NAME DOMAIN FILE, where the domain is built in
unfoldable pub load_of : List (List ℕ) → Option (Reading (List ℕ))
load_of words =
    if length words == 4
    then (name_of (nth_word words 1) >>= λ name. where_it is_built_in (domain_of (nth_word words 2)) >>= λ domain.
    file_name_of (nth_word words 3) >>= λ file. Some (Loads name domain file))
    else None

-- what the words of a line ask for, by the first word
unfoldable pub command_of : List (List ℕ) → Option (Reading (List ℕ))
command_of words =
    if is_called words (codes "load") then load_of words else (call_of words >>= λ call. Some (Called call))

-- no words, or a first word that begins with `#`
abbrev pub is_silent : List (List ℕ) → Bool
is_silent [] = true
is_silent (word ∷ words) = slice_index word 0 == 35

abbrev pub is_well_formed : List ℕ → Bool
is_well_formed line = nat_le (length line) LONGEST_LINE && list_all is_plain line

unfoldable pub reading_of : List ℕ → Reading (List ℕ)
reading_of line =
    if is_silent (words_of line) then Silent
    else if is_well_formed line then option_map_or (λ reading. reading) (command_of (words_of line)) Malformed
    else Malformed

-- what the lines of a script are
unfoldable pub readings_of : List ℕ → List (Reading (List ℕ))
readings_of script = map reading_of (lines_of script)
