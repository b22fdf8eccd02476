-- The words that a call is written in: one form of each that the grammar has, numbers without leading zeros and flags
-- in one order.
use Rattle.std.specs.Prelude.{ℕ, ℤ, ◌^◌, ◌<◌, ◌≡◌, Bool, true, List, [], ◌∷◌, ◌++◌, map, length, Option, Some, None}
use Rattle.std.specs.Prelude.{codes, decimal, if◌then◌else◌, IfSome}
use Rattle.std.specs.Fmt.{signed_decimal}
use Rattle.std.specs.List.{All}
use Rattle.algebra.specs.declared.domain.Domain.{Domain}
use Rattle.algebra.specs.declared.domain.Domain.TheVariants as domains
use Rattle.algebra.specs.declared.functions.FunctionName.TheVariants as function
use Rattle.algebra.specs.declared.operator_names.IndexName.{IndexName}
use Rattle.algebra.specs.declared.operator_names.MonoidName.{MonoidName}
use Rattle.algebra.specs.declared.operator_names.OpName.{OpName}
use Rattle.algebra.specs.declared.operator_names.SemiringName.{SemiringName}
use Rattle.algebra.specs.declared.operator_names.UnaryName.{UnaryName}
use Rattle.algebra.specs.IndexOperators.{is_by_position}
use Rattle.algebra.specs.Names.{binary_name, domain_name, index_name, monoid_name, unary_name}
use Rattle.model.specs.declared.call.Act.{Act}
use Rattle.model.specs.declared.call.Act.TheVariants.{Free, Clear, Resize, Build, Set, Remove, Get, Nvals, Print}
use Rattle.model.specs.declared.call.Act.TheVariants.{Reduce, Wait}
use Rattle.model.specs.declared.call.Call.{Call}
use Rattle.model.specs.declared.call.Call.TheVariants.{Create, Dup, On, Operate}
use Rattle.model.specs.declared.call.Desc.{Desc}
use Rattle.model.specs.declared.call.Form.{Form}
use Rattle.model.specs.declared.call.Form.TheVariants.{MatrixMatrix, MatrixVector, VectorMatrix}
use Rattle.model.specs.declared.call.OneInput.{OneInput}
use Rattle.model.specs.declared.call.OneInput.TheVariants.{Apply, Select, ReduceRows, Transpose, Extract, Assign}
use Rattle.model.specs.declared.call.Operation.{Operation}
use Rattle.model.specs.declared.call.Operation.TheVariants.{Fill, OfOne, OfTwo}
use Rattle.model.specs.declared.call.Out.{Out}
use Rattle.model.specs.declared.call.Positions.{Positions}
use Rattle.model.specs.declared.call.Positions.TheVariants.{Union, Intersection}
use Rattle.model.specs.declared.call.Region.{Region}
use Rattle.model.specs.declared.call.Region.TheVariants as region
use Rattle.model.specs.declared.call.TwoInputs.{TwoInputs}
use Rattle.model.specs.declared.call.TwoInputs.TheVariants.{Combine, Multiply}
use Rattle.model.specs.declared.call.WaitMode.{WaitMode}
use Rattle.model.specs.declared.call.WaitMode.TheVariants.{Complete, Materialize}
use Rattle.model.specs.declared.shape.Place.{Place}
use Rattle.model.specs.declared.shape.Place.TheVariants.{One, Two}
use Rattle.model.specs.declared.shape.Shape.{Shape}
use Rattle.model.specs.declared.shape.Shape.TheVariants as shape
use Rattle.model.specs.declared.tuples.Tuple.{Tuple}
use Rattle.model.specs.Grammar.{Name, are_alike, is_name}
use Rattle.model.specs.Indices.{All as AllIndices, Indices, These}
use Rattle.model.specs.MatrixMarket.{is_of_64_bits}

-- ---- words

-- words with a byte between them
abbrev pub joined : ℕ → List (List ℕ) → List ℕ
joined byte [] = []
joined byte (word ∷ []) = word
joined byte (word ∷ next ∷ words) = word ++ byte ∷ joined byte (next ∷ words)

-- ..a point
abbrev pub dotted : List (List ℕ) → List ℕ
dotted words = joined 46 words

-- ..a comma
abbrev pub listed : List (List ℕ) → List ℕ
listed words = joined 44 words

abbrev pub op_word : OpName → List ℕ
op_word op = dotted (binary_name op.kind ∷ domain_name op.domain ∷ [])

abbrev pub unary_word : UnaryName → List ℕ
unary_word op = dotted (unary_name op.kind ∷ domain_name op.domain ∷ [])

abbrev pub monoid_word : MonoidName → List ℕ
monoid_word monoid = dotted (monoid_name monoid.kind ∷ domain_name monoid.domain ∷ [])

abbrev pub index_word : IndexName → List ℕ
index_word op =
    if is_by_position op.kind then index_name op.kind else dotted (index_name op.kind ∷ domain_name op.domain ∷ [])

abbrev pub semiring_word : SemiringName → List ℕ
semiring_word semiring =
    dotted (monoid_name semiring.add ∷ binary_name semiring.multiply ∷ domain_name semiring.domain ∷ [])

abbrev pub place_words : Place → List (List ℕ)
place_words (One i) = decimal i ∷ []
place_words (Two i j) = decimal i ∷ decimal j ∷ []

abbrev pub shape_words : Shape → List (List ℕ)
shape_words (shape.One size) = decimal size ∷ []
shape_words (shape.Two rows cols) = decimal rows ∷ decimal cols ∷ []

abbrev pub tuple_word : Tuple → List ℕ
tuple_word t = listed (place_words t.place ++ signed_decimal t.value ∷ [])

abbrev pub indices_word : Indices → List ℕ
indices_word AllIndices = codes ":"
indices_word (These items) = listed (map decimal items)

abbrev pub region_words : Region → List (List ℕ)
region_words (region.One indices) = indices_word indices ∷ []
region_words (region.Two rows cols) = indices_word rows ∷ indices_word cols ∷ []

-- a word, or `-` for none
abbrev pub word_or_none : {A : Type 0} → (A → List ℕ) → Option A → List ℕ
word_or_none write None = codes "-"
word_or_none write (Some x) = write x

-- a flag's word, if it is set
abbrev pub flag : Bool → List ℕ → List (List ℕ)
flag is_set word = if is_set then word ∷ [] else []

abbrev pub flag_words : Desc → List (List ℕ)
flag_words d =
    flag d.replace (codes "R") ++ flag d.structure (codes "S") ++ flag d.complement (codes "C")
    ++ flag d.transpose_first (codes "T0") ++ flag d.transpose_second (codes "T1")

abbrev pub words_or_none : List (List ℕ) → List ℕ
words_or_none [] = codes "-"
words_or_none (word ∷ words) = listed (word ∷ words)

abbrev pub desc_word : Desc → List ℕ
desc_word d = words_or_none (flag_words d)

-- ---- operations: the first word, and those between the accumulator and the descriptor

abbrev pub form_word : Form → List ℕ
form_word MatrixMatrix = codes "mxm"
form_word MatrixVector = codes "mxv"
form_word VectorMatrix = codes "vxm"

abbrev pub positions_word : Positions → List ℕ
positions_word Union = codes "ewiseadd"
positions_word Intersection = codes "ewisemult"

abbrev pub first_word : Operation Name → List ℕ
first_word (Fill value indices) = codes "fill"
first_word (OfOne (Apply (function.Unary op)) a) = codes "apply"
first_word (OfOne (Apply (function.Index op scalar)) a) = codes "applyindex"
first_word (OfOne (Apply (function.First op value)) a) = codes "applyfirst"
first_word (OfOne (Apply (function.Second op value)) a) = codes "applysecond"
first_word (OfOne (Select op scalar) a) = codes "select"
first_word (OfOne (ReduceRows monoid) a) = codes "reducerows"
first_word (OfOne Transpose a) = codes "transpose"
first_word (OfOne (Extract indices) a) = codes "extract"
first_word (OfOne (Assign indices) a) = codes "assign"
first_word (OfTwo (Multiply form semiring) a b) = form_word form
first_word (OfTwo (Combine positions op) a b) = positions_word positions

abbrev pub middle_words : Operation Name → List (List ℕ)
middle_words (Fill value indices) = signed_decimal value ∷ region_words indices
middle_words (OfOne (Apply (function.Unary op)) a) = unary_word op ∷ a ∷ []
middle_words (OfOne (Apply (function.Index op scalar)) a) = index_word op ∷ a ∷ signed_decimal scalar ∷ []
middle_words (OfOne (Apply (function.First op value)) a) = op_word op ∷ signed_decimal value ∷ a ∷ []
middle_words (OfOne (Apply (function.Second op value)) a) = op_word op ∷ a ∷ signed_decimal value ∷ []
middle_words (OfOne (Select op scalar) a) = index_word op ∷ a ∷ signed_decimal scalar ∷ []
middle_words (OfOne (ReduceRows monoid) a) = monoid_word monoid ∷ a ∷ []
middle_words (OfOne Transpose a) = a ∷ []
middle_words (OfOne (Extract indices) a) = a ∷ region_words indices
middle_words (OfOne (Assign indices) a) = a ∷ region_words indices
middle_words (OfTwo (Multiply form semiring) a b) = semiring_word semiring ∷ a ∷ b ∷ []
middle_words (OfTwo (Combine positions op) a b) = op_word op ∷ a ∷ b ∷ []

-- ---- calls

abbrev pub create_word : Shape → List ℕ
create_word (shape.One size) = codes "vector"
create_word (shape.Two rows cols) = codes "matrix"

abbrev pub wait_word : WaitMode → List ℕ
wait_word Complete = codes "complete"
wait_word Materialize = codes "materialize"

-- an act's word, and those behind the object
abbrev pub act_word : Act → List ℕ
act_word Free = codes "free"
act_word Clear = codes "clear"
act_word (Resize s) = codes "resize"
act_word (Build dup tuples) = codes "build"
act_word (Set place value) = codes "set"
act_word (Remove place) = codes "remove"
act_word (Get place) = codes "get"
act_word Nvals = codes "nvals"
act_word Print = codes "print"
act_word (Reduce monoid) = codes "reduce"
act_word (Wait mode) = codes "wait"

abbrev pub act_words : Act → List (List ℕ)
act_words (Resize s) = shape_words s
act_words (Build dup tuples) = word_or_none op_word dup ∷ map tuple_word tuples
act_words (Set place value) = place_words place ++ signed_decimal value ∷ []
act_words (Remove place) = place_words place
act_words (Get place) = place_words place
act_words (Reduce monoid) = monoid_word monoid ∷ []
act_words (Wait mode) = wait_word mode ∷ []
act_words _ = []

abbrev pub words_for : Call Name Name → List (List ℕ)
words_for (Create name domain s) = create_word s ∷ name ∷ domain_name domain ∷ shape_words s
words_for (Dup name object) = codes "dup" ∷ name ∷ object ∷ []
words_for (On object act) = act_word act ∷ object ∷ act_words act
words_for (Operate out operation) =
    first_word operation ∷ out.c ∷ word_or_none (λ mask. mask) out.mask ∷ word_or_none op_word out.accum
    ∷ middle_words operation ++ desc_word out.desc ∷ []

-- ---- what can be written: names, numbers of 64 bits, domains whose numbers have 32 bits

abbrev pub IsName : Name → Type 0
IsName name = is_name name ≡ true

abbrev pub IsIndex : ℕ → Type 0
IsIndex i = i < 2 ^ 64

abbrev pub IsValue : ℤ → Type 0
IsValue value = is_of_64_bits value ≡ true

abbrev pub IsDomain : Domain → Type 0
IsDomain domain = (k : ℕ) → domain ≡ domains.User k → k < 2 ^ 32

-- an operator by position has no domain of its own
abbrev pub IsIndexName : IndexName → Type 0
IsIndexName op = IsDomain op.domain × (is_by_position op.kind ≡ true → op.domain ≡ domains.Int64)

abbrev pub IsPlace : Place → Type 0
IsPlace (One i) = IsIndex i
IsPlace (Two i j) = IsIndex i × IsIndex j

abbrev pub IsShape : Shape → Type 0
IsShape (shape.One size) = IsIndex size
IsShape (shape.Two rows cols) = IsIndex rows × IsIndex cols

abbrev pub IsTuple : Tuple → Type 0
IsTuple t = IsPlace t.place × IsValue t.value

-- a list has an index at least
abbrev pub IsList : Indices → Type 0
IsList AllIndices = Unit
IsList (These items) = (0 < length items) × All IsIndex items

abbrev pub IsRegion : Region → Type 0
IsRegion (region.One indices) = IsList indices
IsRegion (region.Two rows cols) = IsList rows × IsList cols

abbrev pub IsOut : Out Name → Type 0
IsOut out = IsName out.c × IfSome out.mask IsName × IfSome out.accum (λ op. IsDomain op.domain)

abbrev pub IsOneInput : OneInput → Type 0
IsOneInput (Apply (function.Unary op)) = IsDomain op.domain
IsOneInput (Apply (function.Index op scalar)) = IsIndexName op × IsValue scalar
IsOneInput (Apply (function.First op value)) = IsDomain op.domain × IsValue value
IsOneInput (Apply (function.Second op value)) = IsDomain op.domain × IsValue value
IsOneInput (Select op scalar) = IsIndexName op × IsValue scalar
IsOneInput (ReduceRows monoid) = IsDomain monoid.domain
IsOneInput Transpose = Unit
IsOneInput (Extract indices) = IsRegion indices
IsOneInput (Assign indices) = IsRegion indices

abbrev pub IsTwoInputs : TwoInputs → Type 0
IsTwoInputs (Multiply form semiring) = IsDomain semiring.domain
IsTwoInputs (Combine positions op) = IsDomain op.domain

abbrev pub IsOperation : Operation Name → Type 0
IsOperation (Fill value indices) = IsValue value × IsRegion indices
IsOperation (OfOne computes a) = IsOneInput computes × IsName a
IsOperation (OfTwo computes a b) = IsTwoInputs computes × IsName a × IsName b

abbrev pub IsWritableAct : Act → Type 0
IsWritableAct (Resize s) = IsShape s
IsWritableAct (Build dup tuples) =
    IfSome dup (λ op. IsDomain op.domain) × All IsTuple tuples × (are_alike tuples ≡ true)
IsWritableAct (Set place value) = IsPlace place × IsValue value
IsWritableAct (Remove place) = IsPlace place
IsWritableAct (Get place) = IsPlace place
IsWritableAct (Reduce monoid) = IsDomain monoid.domain
IsWritableAct _ = Unit

abbrev pub IsWritable : Call Name Name → Type 0
IsWritable (Create name domain s) = IsName name × IsDomain domain × IsShape s
IsWritable (Dup name object) = IsName name × IsName object
IsWritable (On object act) = IsName object × IsWritableAct act
IsWritable (Operate out operation) = IsOut out × IsOperation operation
