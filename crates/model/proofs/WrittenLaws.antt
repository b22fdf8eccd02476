-- A call that is written out in its words is read as that call.
use Rattle.std.proofs.Common.{◌≡◌, ℕ, suc, ◌-◌, ◌^◌, ◌<◌, ◌≤◌, ◌==◌, Bool, true, false, not, List, [], ◌∷◌, ◌++◌, map, length, length-append, take, drop, get_or, Option, Some, None, refl, sym, ◌∙◌, ap, inl, inr, arith}
use Rattle.std.specs.Prelude.{ℤ, pos, negsuc, codes, decimal, nat_le, nat_lt, IfSome}
use Rattle.std.specs.Fmt.{signed_decimal}
use Rattle.std.specs.List.{All, list_all, slice_split}
use Rattle.std.specs.Str.{bytes_eq}
use Rattle.std.proofs.Math.Seq.{get_or-append_seam, take-append_seam}
use Rattle.std.proofs.lemmas.Bool.{and_parts, cases_Bool, le-leb, lt-ltb}
use Rattle.std.proofs.lemmas.Bool.Decides.{nat_tests}
use Rattle.std.proofs.lemmas.Fmt.{length-decimal-le}
use Rattle.std.proofs.lemmas.List.Elements.{All-append, All-cons, All-head, All-nil, All-tail, All-weaker}
use Rattle.std.proofs.lemmas.List.Splits.{slice_split_at, slice_split_none}
use Rattle.std.proofs.lemmas.Slice.Eq.{bytes_eq-Decides}
use Rattle.algebra.proofs.NameLaws.{binary-named, domain-named, index-named, monoid-named, unary-named}
use Rattle.algebra.specs.declared.domain.Domain.{Domain}
use Rattle.algebra.specs.declared.domain.Domain.TheVariants.{Bool as Boolean, Int64, Uint64, User}
use Rattle.algebra.specs.declared.functions.FunctionName.TheVariants as function
use Rattle.algebra.specs.declared.kinds.BinaryKind.{BinaryKind}
use Rattle.algebra.specs.declared.kinds.BinaryKind.TheVariants as binary
use Rattle.algebra.specs.declared.kinds.IndexKind.{IndexKind}
use Rattle.algebra.specs.declared.kinds.IndexKind.TheVariants as index
use Rattle.algebra.specs.declared.kinds.MonoidKind.{MonoidKind}
use Rattle.algebra.specs.declared.kinds.UnaryKind.{UnaryKind}
use Rattle.algebra.specs.declared.kinds.UnaryKind.TheVariants as unary
use Rattle.algebra.specs.declared.operator_names.IndexName.{IndexName}
use Rattle.algebra.specs.declared.operator_names.MonoidName.{MonoidName}
use Rattle.algebra.specs.declared.operator_names.OpName.{OpName}
use Rattle.algebra.specs.declared.operator_names.SemiringName.{SemiringName}
use Rattle.algebra.specs.declared.operator_names.UnaryName.{UnaryName}
use Rattle.algebra.specs.IndexOperators.{is_by_position}
use Rattle.algebra.specs.Operators.{combines_by}
use Rattle.algebra.specs.Names.{binary_name, domain_name, index_from_name, index_name, monoid_name, unary_name}
use Rattle.model.specs.declared.call.Act.TheVariants.{Free, Clear, Resize, Build, Set, Remove, Get, Nvals, Print, Reduce, Wait}
use Rattle.model.specs.declared.call.Call.{Call}
use Rattle.model.specs.declared.call.Call.TheVariants.{Create, Dup, On, Operate}
use Rattle.model.specs.declared.call.Desc.{Desc}
use Rattle.model.specs.declared.call.Form.TheVariants.{MatrixMatrix}
use Rattle.model.specs.declared.call.OneInput.TheVariants.{Apply, Select, ReduceRows, Transpose, Extract, Assign}
use Rattle.model.specs.declared.call.Operation.{Operation}
use Rattle.model.specs.declared.call.Operation.TheVariants.{Fill, OfOne, OfTwo}
use Rattle.model.specs.declared.call.Out.{Out}
use Rattle.model.specs.declared.call.Positions.TheVariants.{Union, Intersection}
use Rattle.model.specs.declared.call.Region.TheVariants as region
use Rattle.model.specs.declared.call.WaitMode.{WaitMode}
use Rattle.model.specs.declared.call.WaitMode.TheVariants.{Complete, Materialize}
use Rattle.model.specs.declared.call.TwoInputs.TheVariants.{Combine, Multiply}
use Rattle.model.specs.declared.shape.Shape.TheVariants as shape
use Rattle.model.specs.declared.shape.Place.{Place}
use Rattle.model.specs.declared.shape.Place.TheVariants.{One, Two}
use Rattle.model.specs.declared.tuples.Tuple.{Tuple}
use Rattle.model.specs.Grammar.{Called, Name, all_read, are_alike, by_position_of, by_value_of, call_of, calls, command_of, desc_of, domain_of, dotted_of, flag_added, index_name_of, indices_of, is_digit, is_name, is_none_word, middle_of, monoid_name_of, name_of, nth_word, number_of, one_of, op_name_of, operate_of, operations, out_of_words, perhaps, said_by, semiring_name_of, tuple_of, tuples_of, two_of, unary_name_of, value_of_word, wait_mode_of}
use Rattle.model.specs.Indices.{All as AllIndices, Indices, These}
use Rattle.model.specs.Written.{IsDomain, IsIndex, IsIndexName, IsList, IsName, IsOperation, IsOut, IsPlace, IsTuple, IsValue, IsWritable, desc_word, dotted, first_word, index_word, indices_word, joined, listed, middle_words, monoid_word, op_word, semiring_word, tuple_word, unary_word, wait_word, word_or_none, words_for}
use Rattle.model.proofs.TextLaws.{decimal-number, digits-whole}

-- ---- words of names

pub name_of-name : (name : Name) → IsName name → name_of name ≡ Some name
unfolding name_of
name_of-name name is = rw is refl

-- a name is no `-`
name-some : (name : Name) → IsName name → is_none_word name ≡ false
name-some name is = elim (cases_Bool (is_none_word name)) [
  | inr other ↦ other
  | inl same ↦ let dash : name ≡ codes "-" = (bytes_eq-Decides name (codes "-")).0 same in let bad : is_name (codes "-") ≡ true = rw dash at is in absurd (cc)
]

-- ---- numbers

number_of-decimal : (n : ℕ) → n < 2 ^ 64 → number_of (decimal n) ≡ Some n
unfolding number_of
number_of-decimal n small =
    let number = decimal-number n small in
    let digits = (and_parts (not (length (decimal n) == 0)) _ number.digits).1 in
    let some : nat_le 1 (length (decimal n)) ≡ true = le-leb 1 (length (decimal n)) number.word.filled in
    let few : nat_le (length (decimal n)) 20 ≡ true = le-leb (length (decimal n)) 20 (length-decimal-le 20 n (omega arith) (omega arith) small) in
    let fits : nat_lt n (2 ^ 64) ≡ true = lt-ltb n (2 ^ 64) small in
    rw (some, few, digits, number.value, fits) refl

value_of_word-value : (z : ℤ) → IsValue z → value_of_word (signed_decimal z) ≡ Some z
unfolding value_of_word
value_of_word-value (pos n) is =
    let small : n < 2 ^ 64 = grind (arith, nat_tests) in
    let low = (decimal-number n small).first in
    let no_minus : (get_or (decimal n) 0 0 == 45) ≡ false = grind (arith, nat_tests) in
    rw (no_minus, number_of-decimal n small) refl
value_of_word-value (negsuc n) is =
    let few_enough : suc n ≤ 2 ^ 63 = grind (arith, nat_tests) in
    let small : suc n < 2 ^ 64 = omega (arith, few_enough) in
    let number = decimal-number (suc n) small in
    let digits = (and_parts (not (length (decimal (suc n)) == 0)) _ number.digits).1 in
    let some : nat_le 1 (length (decimal (suc n))) ≡ true = le-leb 1 (length (decimal (suc n))) number.word.filled in
    let few : nat_le (length (decimal (suc n))) 20 ≡ true = le-leb (length (decimal (suc n))) 20 (length-decimal-le 20 (suc n) (omega arith) (omega arith) small) in
    let fits : nat_le (suc n) (2 ^ 63) ≡ true = le-leb (suc n) (2 ^ 63) few_enough in
    rw (some, few, digits, number.value, fits) refl

-- ---- words with a byte between them

-- a word without a byte
abbrev Lacks : ℕ → List ℕ → Type 0
Lacks byte word = All (λ b. (b == byte) ≡ false) word

lacks-from : (byte : ℕ) (word : List ℕ) → list_all (λ b. not (b == byte)) word ≡ true → Lacks byte word
lacks-from byte [] is = All-nil (λ b. (b == byte) ≡ false)
lacks-from byte (b ∷ word) is =
    let parts = and_parts (not (b == byte)) (list_all (λ b. not (b == byte)) word) is in
    let other : (b == byte) ≡ false = grind (arith, nat_tests) in
    All-cons (λ b. (b == byte) ≡ false) b word other (lacks-from byte word parts.1)

split-joined : (byte : ℕ) (word : List ℕ) (words : List (List ℕ)) → All (Lacks byte) (word ∷ words)
    → slice_split (λ b. b == byte) (joined byte (word ∷ words)) ≡ word ∷ words
split-joined byte word [] all = slice_split_none (λ b. b == byte) word (All-head (Lacks byte) word [] all)
split-joined byte word (next ∷ words) all =
    let here : (byte == byte) ≡ true = grind (arith, nat_tests) in
    slice_split_at (λ b. b == byte) word byte (joined byte (next ∷ words)) (All-head (Lacks byte) word (next ∷ words) all) here
    ∙ ap (λ (parts : List (List ℕ)). word ∷ parts) (split-joined byte next words (All-tail (Lacks byte) word (next ∷ words) all))

decimal-lacks : (byte n : ℕ) → n < 2 ^ 64 → byte < 48 → Lacks byte (decimal n)
decimal-lacks byte n small low =
    let digits = (and_parts (not (length (decimal n) == 0)) _ (decimal-number n small).digits).1 in
    All-weaker (λ b. 48 ≤ b) (λ b. (b == byte) ≡ false) (λ b high. grind (arith, nat_tests)) (decimal n) (digits-whole (decimal n) digits)

value-lacks : (z : ℤ) → IsValue z → Lacks 44 (signed_decimal z)
value-lacks (pos n) is =
    let small : n < 2 ^ 64 = grind (arith, nat_tests) in
    decimal-lacks 44 n small (omega arith)
value-lacks (negsuc n) is =
    let small : suc n < 2 ^ 64 = grind (arith, nat_tests) in
    let other : (45 == 44) ≡ false = refl in
    All-cons (λ b. (b == 44) ≡ false) 45 (decimal (suc n)) other (decimal-lacks 44 (suc n) small (omega arith))

-- ---- operators, monoids and semirings

binary-lacks : (kind : BinaryKind) → Lacks 46 (binary_name kind)
binary-lacks kind = lacks-from 46 (binary_name kind) (go kind) where
  go : (kind : BinaryKind) → list_all (λ b. not (b == 46)) (binary_name kind) ≡ true
  go binary.First = refl
  go _ = refl

unary-lacks : (kind : UnaryKind) → Lacks 46 (unary_name kind)
unary-lacks kind = lacks-from 46 (unary_name kind) (go kind) where
  go : (kind : UnaryKind) → list_all (λ b. not (b == 46)) (unary_name kind) ≡ true
  go unary.Identity = refl
  go _ = refl

index-lacks : (kind : IndexKind) → Lacks 46 (index_name kind)
index-lacks kind = lacks-from 46 (index_name kind) (go kind) where
  go : (kind : IndexKind) → list_all (λ b. not (b == 46)) (index_name kind) ≡ true
  go index.RowIndex = refl
  go _ = refl

monoid-lacks : (kind : MonoidKind) → Lacks 46 (monoid_name kind)
monoid-lacks kind = binary-lacks (combines_by kind)

domain-lacks : (d : Domain) → IsDomain d → Lacks 46 (domain_name d)
domain-lacks Boolean is = lacks-from 46 (codes "BOOL") refl
domain-lacks Int64 is = lacks-from 46 (codes "INT64") refl
domain-lacks Uint64 is = lacks-from 46 (codes "UINT64") refl
domain-lacks (User k) is =
    let small : k < 2 ^ 32 = is k refl in
    All-append (λ b. (b == 46) ≡ false) (codes "USER:") (decimal k) (lacks-from 46 (codes "USER:") refl) (decimal-lacks 46 k (omega arith) (omega arith))

dotted_of-dotted : (name : List ℕ) (d : Domain) → Lacks 46 name → IsDomain d
    → dotted_of (dotted (name ∷ domain_name d ∷ [])) ≡ Some (name, d)
unfolding dotted_of domain_of
dotted_of-dotted name d lacks is =
    let parts = split-joined 46 name (domain_name d ∷ []) (All-cons (Lacks 46) name (domain_name d ∷ []) lacks (All-cons (Lacks 46) (domain_name d) [] (domain-lacks d is) (All-nil (Lacks 46)))) in
    rw (parts, domain-named d is) refl

pub op_name_of-word : (op : OpName) → IsDomain op.domain → op_name_of (op_word op) ≡ Some op
unfolding op_name_of
op_name_of-word op is = rw (dotted_of-dotted (binary_name op.kind) op.domain (binary-lacks op.kind) is, binary-named op.kind) refl

pub unary_name_of-word : (op : UnaryName) → IsDomain op.domain → unary_name_of (unary_word op) ≡ Some op
unfolding unary_name_of
unary_name_of-word op is = rw (dotted_of-dotted (unary_name op.kind) op.domain (unary-lacks op.kind) is, unary-named op.kind) refl

pub monoid_name_of-word : (monoid : MonoidName) → IsDomain monoid.domain
    → monoid_name_of (monoid_word monoid) ≡ Some monoid
unfolding monoid_name_of
monoid_name_of-word monoid is = rw (dotted_of-dotted (monoid_name monoid.kind) monoid.domain (monoid-lacks monoid.kind) is, monoid-named monoid.kind) refl

-- a name with a point behind it is no name
index-pointed : (kind : IndexKind) (rest : List ℕ) → index_from_name (index_name kind ++ 46 ∷ rest) ≡ None
unfolding index_from_name
index-pointed index.RowIndex rest = refl
index-pointed _ rest = refl

by_position : (op : IndexName) (d : Domain) → is_by_position op.kind ≡ true → op.domain ≡ d → d ≡ Int64
    → index_name_of (index_name op.kind) ≡ Some op
unfolding index_name_of by_position_of
by_position op d is same own = rw (index-named op.kind, is) (ap (λ (d : Domain). Some (record { kind = op.kind; domain = d })) (sym (same ∙ own)))

by_value : (op : IndexName) → is_by_position op.kind ≡ false → IsDomain op.domain
    → index_name_of (dotted (index_name op.kind ∷ domain_name op.domain ∷ [])) ≡ Some op
unfolding index_name_of by_position_of by_value_of
by_value op other is =
    rw (index-pointed op.kind (domain_name op.domain), dotted_of-dotted (index_name op.kind) op.domain (index-lacks op.kind) is, index-named op.kind, other) refl

pub index_name_of-word : (op : IndexName) → IsIndexName op → index_name_of (index_word op) ≡ Some op
index_name_of-word op is = elim (cases_Bool (is_by_position op.kind)) [
  | inl by ↦ rw by (by_position op op.domain by refl (is.1 by))
  | inr other ↦ rw other (by_value op other is.0)
]

pub semiring_name_of-word : (semiring : SemiringName) → IsDomain semiring.domain
    → semiring_name_of (semiring_word semiring) ≡ Some semiring
unfolding semiring_name_of domain_of
semiring_name_of-word semiring is =
    let add = monoid_name semiring.add in
    let multiply = binary_name semiring.multiply in
    let d = domain_name semiring.domain in
    let parts = split-joined 46 add (multiply ∷ d ∷ [])
    (All-cons (Lacks 46) add (multiply ∷ d ∷ []) (monoid-lacks semiring.add) (All-cons (Lacks 46) multiply (d ∷ []) (binary-lacks semiring.multiply)
    (All-cons (Lacks 46) d [] (domain-lacks semiring.domain is) (All-nil (Lacks 46))))) in
    rw (parts, monoid-named semiring.add, binary-named semiring.multiply, domain-named semiring.domain is) refl

-- ---- `-`, or a word

op-some : (op : OpName) → is_none_word (op_word op) ≡ false
op-some op = go op.kind (46 ∷ domain_name op.domain) where
  go : (kind : BinaryKind) (rest : List ℕ) → is_none_word (binary_name kind ++ rest) ≡ false
  go binary.First rest = refl
  go _ rest = refl

pub perhaps-name : (name : Option Name) → IfSome name IsName
    → perhaps name_of (word_or_none (λ name. name) name) ≡ Some name
perhaps-name None is = refl
perhaps-name (Some name) is = rw (name-some name is, name_of-name name is) refl

pub perhaps-op : (op : Option OpName) → IfSome op (λ op. IsDomain op.domain)
    → perhaps op_name_of (word_or_none op_word op) ≡ Some op
perhaps-op None is = refl
perhaps-op (Some op) is = rw (op-some op, op_name_of-word op is) refl

-- ---- places and lists

one_of-place : (i : ℕ) → IsIndex i → one_of (decimal i) ≡ Some (One i)
one_of-place i is = rw (number_of-decimal i is) refl

two_of-place : (i j : ℕ) → IsIndex i → IsIndex j → two_of (decimal i) (decimal j) ≡ Some (Two i j)
two_of-place i j row col = rw (number_of-decimal i row, number_of-decimal j col) refl

all_read-written : {A : Type 0} (P : A → Type 0) (read : List ℕ → Option A) (write : A → List ℕ) (xs : List A)
    → ((x : A) → P x → read (write x) ≡ Some x) → All P xs → all_read read (map write xs) ≡ Some xs
all_read-written P read write [] each all = refl
all_read-written P read write (x ∷ xs) each all = rw (each x (All-head P x xs all), all_read-written P read write xs each (All-tail P x xs all)) refl

all-lack : (items : List ℕ) → All IsIndex items → All (Lacks 44) (map decimal items)
all-lack [] all = All-nil (Lacks 44)
all-lack (i ∷ items) all =
    All-cons (Lacks 44) (decimal i) (map decimal items) (decimal-lacks 44 i (All-head IsIndex i items all) (omega arith)) (all-lack items (All-tail IsIndex i items all))

-- the first byte of a number is no colon
first_small : (n : ℕ) → n < 2 ^ 64 → get_or (decimal n) 0 0 ≤ 57
first_small n small =
    let number = decimal-number n small in
    let digits = (and_parts (not (length (decimal n) == 0)) _ number.digits).1 in
    top (decimal n) number.word.filled digits where
      top : (word : List ℕ) → 0 < length word → list_all is_digit word ≡ true → get_or word 0 0 ≤ 57
      top [] filled is = absurd (omega arith)
      top (b ∷ word) filled is = let digit = (and_parts (is_digit b) (list_all is_digit word) is).0 in grind (arith, nat_tests)

no_colon : (word : List ℕ) (b : ℕ) → get_or word 0 0 ≡ b → b ≤ 57 → bytes_eq word (codes ":") ≡ false
no_colon word b first low = elim (cases_Bool (bytes_eq word (codes ":"))) [
  | inr other ↦ other
  | inl same ↦
      let colon : word ≡ 58 ∷ [] = (bytes_eq-Decides word (codes ":")).0 same in
      let is : b ≡ 58 = sym first ∙ ap (λ (word : List ℕ). get_or word 0 0) colon in
      absurd (omega (arith, is, low))
]

first_of_listed : (i : ℕ) (items : List ℕ) → IsIndex i
    → get_or (listed (map decimal (i ∷ items))) 0 0 ≡ get_or (decimal i) 0 0
first_of_listed i [] is = refl
first_of_listed i (next ∷ items) is = front (decimal i) (44 ∷ listed (map decimal (next ∷ items))) (decimal-number i is).word.filled where
  front : (word rest : List ℕ) → 0 < length word → get_or (word ++ rest) 0 0 ≡ get_or word 0 0
  front [] rest filled = absurd (omega arith)
  front (b ∷ word) rest filled = refl

pub indices_of-word : (indices : Indices) → IsList indices → indices_of (indices_word indices) ≡ Some indices
unfolding indices_of
indices_of-word AllIndices is = refl
indices_of-word (These []) is = let none : 0 < 0 = is.0 in absurd (omega (arith, none))
indices_of-word (These (i ∷ items)) is =
    let first = All-head IsIndex i items is.1 in
    let other = no_colon (listed (map decimal (i ∷ items))) _ (first_of_listed i items first) (first_small i first) in
    let parts = split-joined 44 (decimal i) (map decimal items) (all-lack (i ∷ items) is.1) in
    rw (other, parts, all_read-written IsIndex number_of decimal (i ∷ items) number_of-decimal is.1) refl

pub tuple_of-word : (t : Tuple) → IsPlace t.place → IsValue t.value → tuple_of (tuple_word t) ≡ Some t
unfolding tuple_of
tuple_of-word t place value = go t.place t.value place value where
  go : (p : Place) (z : ℤ) → IsPlace p → IsValue z → tuple_of (tuple_word (record { place = p; value = z })) ≡ Some (record { place = p; value = z })
  go (One i) z is value =
      let text = signed_decimal z in
      let parts = split-joined 44 (decimal i) (text ∷ []) (All-cons (Lacks 44) (decimal i) (text ∷ []) (decimal-lacks 44 i is (omega arith)) (All-cons (Lacks 44) text [] (value-lacks z value) (All-nil (Lacks 44)))) in
      rw (parts, one_of-place i is, value_of_word-value z value) refl
  go (Two i j) z is value =
      let text = signed_decimal z in
      let parts = split-joined 44 (decimal i) (decimal j ∷ text ∷ [])
      (All-cons (Lacks 44) (decimal i) (decimal j ∷ text ∷ []) (decimal-lacks 44 i is.0 (omega arith))
      (All-cons (Lacks 44) (decimal j) (text ∷ []) (decimal-lacks 44 j is.1 (omega arith)) (All-cons (Lacks 44) text [] (value-lacks z value) (All-nil (Lacks 44))))) in
      rw (parts, two_of-place i j is.0 is.1, value_of_word-value z value) refl

pub tuples_of-words : (tuples : List Tuple) → All IsTuple tuples → are_alike tuples ≡ true
    → tuples_of (map tuple_word tuples) ≡ Some tuples
unfolding tuples_of
tuples_of-words tuples all alike = rw (all_read-written IsTuple tuple_of tuple_word tuples (λ t is. tuple_of-word t is.0 is.1) all, alike) refl

-- ---- descriptors

flags-written : (r s c t u : Bool) → (let d : Desc = record { replace = r; structure = s; complement = c; transpose_first = t; transpose_second = u } in desc_of (desc_word d) ≡ Some d)
unfolding desc_of flag_added
flags-written true true true true true = refl
flags-written true true true true false = refl
flags-written true true true false true = refl
flags-written true true true false false = refl
flags-written true true false true true = refl
flags-written true true false true false = refl
flags-written true true false false true = refl
flags-written true true false false false = refl
flags-written true false true true true = refl
flags-written true false true true false = refl
flags-written true false true false true = refl
flags-written true false true false false = refl
flags-written true false false true true = refl
flags-written true false false true false = refl
flags-written true false false false true = refl
flags-written true false false false false = refl
flags-written false true true true true = refl
flags-written false true true true false = refl
flags-written false true true false true = refl
flags-written false true true false false = refl
flags-written false true false true true = refl
flags-written false true false true false = refl
flags-written false true false false true = refl
flags-written false true false false false = refl
flags-written false false true true true = refl
flags-written false false true true false = refl
flags-written false false true false true = refl
flags-written false false true false false = refl
flags-written false false false true true = refl
flags-written false false false true false = refl
flags-written false false false false true = refl
flags-written false false false false false = refl

pub desc_of-word : (d : Desc) → desc_of (desc_word d) ≡ Some d
desc_of-word d = flags-written d.replace d.structure d.complement d.transpose_first d.transpose_second

domain_of-name : (d : Domain) → IsDomain d → domain_of (domain_name d) ≡ Some d
unfolding domain_of
domain_of-name d is = domain-named d is

-- ---- operations

-- the words of an operation's row are read as that operation
said-operation : (operation : Operation Name) → IsOperation operation
    → said_by operations (first_word operation) (middle_words operation) ≡ Some operation
unfolding said_by
said-operation (Fill value (region.One indices)) is = rw (value_of_word-value value is.0, indices_of-word indices is.1) refl
said-operation (Fill value (region.Two rows cols)) is = rw (value_of_word-value value is.0, indices_of-word rows is.1.0, indices_of-word cols is.1.1) refl
said-operation (OfOne (Apply (function.Unary op)) a) is = rw (unary_name_of-word op is.0, name_of-name a is.1) refl
said-operation (OfOne (Apply (function.Index op scalar)) a) is = rw (index_name_of-word op is.0.0, name_of-name a is.1, value_of_word-value scalar is.0.1) refl
said-operation (OfOne (Apply (function.First op value)) a) is = rw (op_name_of-word op is.0.0, value_of_word-value value is.0.1, name_of-name a is.1) refl
said-operation (OfOne (Apply (function.Second op value)) a) is = rw (op_name_of-word op is.0.0, name_of-name a is.1, value_of_word-value value is.0.1) refl
said-operation (OfOne (Select op scalar) a) is = rw (index_name_of-word op is.0.0, name_of-name a is.1, value_of_word-value scalar is.0.1) refl
said-operation (OfOne (ReduceRows monoid) a) is = rw (monoid_name_of-word monoid is.0, name_of-name a is.1) refl
said-operation (OfOne Transpose a) is = rw (name_of-name a is.1) refl
said-operation (OfOne (Extract (region.One indices)) a) is = rw (name_of-name a is.1, indices_of-word indices is.0) refl
said-operation (OfOne (Extract (region.Two rows cols)) a) is = rw (name_of-name a is.1, indices_of-word rows is.0.0, indices_of-word cols is.0.1) refl
said-operation (OfOne (Assign (region.One indices)) a) is = rw (name_of-name a is.1, indices_of-word indices is.0) refl
said-operation (OfOne (Assign (region.Two rows cols)) a) is = rw (name_of-name a is.1, indices_of-word rows is.0.0, indices_of-word cols is.0.1) refl
said-operation (OfTwo (Multiply MatrixMatrix semiring) a b) is = rw (semiring_name_of-word semiring is.0, name_of-name a is.1, name_of-name b is.2) refl
said-operation (OfTwo (Multiply _ semiring) a b) is = rw (semiring_name_of-word semiring is.0, name_of-name a is.1, name_of-name b is.2) refl
said-operation (OfTwo (Combine Union op) a b) is = rw (op_name_of-word op is.0, name_of-name a is.1, name_of-name b is.2) refl
said-operation (OfTwo (Combine Intersection op) a b) is = rw (op_name_of-word op is.0, name_of-name a is.1, name_of-name b is.2) refl

-- no other line has an operation's first word
apart : (operation : Operation Name) → bytes_eq (first_word operation) (codes "load") ≡ false
    × ((words : List (List ℕ)) → said_by calls (first_word operation) words ≡ None)
unfolding said_by
apart (Fill value indices) = (refl, λ words. refl)
apart (OfOne (Apply (function.Unary op)) a) = (refl, λ words. refl)
apart (OfOne (Apply _) a) = (refl, λ words. refl)
apart (OfOne _ a) = (refl, λ words. refl)
apart (OfTwo (Multiply MatrixMatrix semiring) a b) = (refl, λ words. refl)
apart (OfTwo (Multiply _ semiring) a b) = (refl, λ words. refl)
apart (OfTwo (Combine Union op) a b) = (refl, λ words. refl)
apart (OfTwo (Combine Intersection op) a b) = (refl, λ words. refl)

-- the words of an operation's call are parted as they were put together
module _ (first c mask accum : List ℕ) (middle : List (List ℕ)) (desc : List ℕ) where
  all_words : List (List ℕ)
  all_words = first ∷ c ∷ mask ∷ accum ∷ middle ++ desc ∷ []

  last_place : length all_words - 1 ≡ suc (suc (suc (suc (length middle))))
  unfolding all_words
  last_place = simp length-append (omega arith)

  middle_of-words : middle_of all_words ≡ middle
  unfolding all_words
  middle_of-words = ap (λ k. drop 4 (take k all_words)) last_place ∙ take-append_seam middle (desc ∷ [])

  last_of-words : nth_word all_words (length all_words - 1) ≡ desc
  unfolding all_words
  last_of-words = ap (nth_word all_words) last_place ∙ get_or-append_seam middle desc [] []

  enough-words : nat_le 5 (length all_words) ≡ true
  unfolding all_words
  enough-words = simp length-append (grind (arith, nat_tests))

out_of_words-words : (first : List ℕ) (out : Out Name) (middle : List (List ℕ)) → IsOut out
    → out_of_words (all_words first out.c (word_or_none (λ mask. mask) out.mask) (word_or_none op_word out.accum) middle (desc_word out.desc))
    ≡ Some out
unfolding out_of_words all_words
out_of_words-words first out middle is =
    let mask = word_or_none (λ mask. mask) out.mask in
    let accum = word_or_none op_word out.accum in
    let desc = desc_word out.desc in
    rw (enough-words first out.c mask accum middle desc, name_of-name out.c is.0, perhaps-name out.mask is.1, perhaps-op out.accum is.2, last_of-words first out.c mask accum middle desc, desc_of-word out.desc) refl

written-operate : (out : Out Name) (operation : Operation Name) → IsOut out → IsOperation operation
    → command_of (words_for (Operate out operation)) ≡ Some (Called (Operate out operation))
unfolding command_of call_of operate_of all_words
written-operate out operation is fits =
    let words = words_for (Operate out operation) in
    let middle = middle_of-words (first_word operation) out.c (word_or_none (λ mask. mask) out.mask) (word_or_none op_word out.accum) (middle_words operation) (desc_word out.desc) in
    rw ((apart operation).0, (apart operation).1 (drop 1 words), middle, said-operation operation fits, out_of_words-words (first_word operation) out (middle_words operation) is) refl

-- ---- calls

wait_mode_of-word : (mode : WaitMode) → wait_mode_of (wait_word mode) ≡ Some mode
unfolding wait_mode_of
wait_mode_of-word Complete = refl
wait_mode_of-word Materialize = refl

-- each call that can be written is read as it was written
pub command_of-words_for : (call : Call Name Name) → IsWritable call → command_of (words_for call) ≡ Some (Called call)
unfolding command_of call_of said_by
command_of-words_for (Create name d (shape.One size)) is = rw (name_of-name name is.0, domain_of-name d is.1, number_of-decimal size is.2) refl
command_of-words_for (Create name d (shape.Two rows cols)) is = rw (name_of-name name is.0, domain_of-name d is.1, number_of-decimal rows is.2.0, number_of-decimal cols is.2.1) refl
command_of-words_for (Dup name object) is = rw (name_of-name name is.0, name_of-name object is.1) refl
command_of-words_for (On object Free) is = rw (name_of-name object is.0) refl
command_of-words_for (On object Clear) is = rw (name_of-name object is.0) refl
command_of-words_for (On object Nvals) is = rw (name_of-name object is.0) refl
command_of-words_for (On object Print) is = rw (name_of-name object is.0) refl
command_of-words_for (On object (Resize (shape.One size))) is = rw (name_of-name object is.0, number_of-decimal size is.1) refl
command_of-words_for (On object (Resize (shape.Two rows cols))) is = rw (name_of-name object is.0, number_of-decimal rows is.1.0, number_of-decimal cols is.1.1) refl
command_of-words_for (On object (Build dup tuples)) is =
    let long : nat_le 2 (suc (suc (length (map tuple_word tuples)))) ≡ true = grind (arith, nat_tests) in
    rw (long, name_of-name object is.0, perhaps-op dup is.1.0, tuples_of-words tuples is.1.1 is.1.2) refl
command_of-words_for (On object (Set (One i) value)) is = rw (name_of-name object is.0, number_of-decimal i is.1.0, value_of_word-value value is.1.1) refl
command_of-words_for (On object (Set (Two i j) value)) is = rw (name_of-name object is.0, number_of-decimal i is.1.0.0, number_of-decimal j is.1.0.1, value_of_word-value value is.1.1) refl
command_of-words_for (On object (Remove (One i))) is = rw (name_of-name object is.0, number_of-decimal i is.1) refl
command_of-words_for (On object (Remove (Two i j))) is = rw (name_of-name object is.0, number_of-decimal i is.1.0, number_of-decimal j is.1.1) refl
command_of-words_for (On object (Get (One i))) is = rw (name_of-name object is.0, number_of-decimal i is.1) refl
command_of-words_for (On object (Get (Two i j))) is = rw (name_of-name object is.0, number_of-decimal i is.1.0, number_of-decimal j is.1.1) refl
command_of-words_for (On object (Reduce monoid)) is = rw (name_of-name object is.0, monoid_name_of-word monoid is.1) refl
command_of-words_for (On object (Wait mode)) is = rw (name_of-name object is.0, wait_mode_of-word mode) refl
command_of-words_for (Operate out operation) is = written-operate out operation is.0 is.1
