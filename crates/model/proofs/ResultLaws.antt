-- What an accepted operation leaves in its output is an object again.
use Rattle.std.proofs.Common.{◌≡◌, ℕ, Bool, true, false, cond, List, [], ◌∷◌, Option, Some, None, ◌&&◌, refl, subst}
use Rattle.std.specs.List.{All}
use Rattle.std.specs.Option.{option_map_or}
use Rattle.std.proofs.lemmas.Bool.{and_parts}
use Rattle.std.proofs.lemmas.List.Elements.{All-head, All-cons, All-nil, All-tail}
use Rattle.algebra.proofs.Words.{IsWordOf-eval}
use Rattle.algebra.specs.declared.domain.Domain.{Domain}
use Rattle.algebra.specs.declared.operator_names.OpName.{OpName}
use Rattle.algebra.specs.Operators.{answer_domain, offers, eval_of}
use Rattle.algebra.specs.Value.{IsWordOf, same_domain}
use Rattle.model.specs.declared.call.Operation.{Operation}
use Rattle.model.specs.declared.call.Operation.TheVariants.{Fill, OfOne, OfTwo}
use Rattle.model.specs.Object.{AreWordsOf, Content, IsObject, Object, cols_of, in_domain, rows_of, signature_of, IsWithin, transposed_object, transposed_signature}
use Rattle.model.specs.Operations.{operation, computed, is_written_by}
use Rattle.model.specs.Renamed.{inputs_of, renamed_operation, renamed_out}
use Rattle.model.specs.Table.{plan_of, transposed, transposed_if, transposes_one}
use Rattle.std.specs.Prelude.{nat_lt}
use Rattle.model.specs.declared.call.Desc.{Desc}
use Rattle.model.specs.declared.call.Out.{Out}
use Rattle.model.specs.declared.shape.Shape.{Shape}
use Rattle.model.specs.declared.shape.Shape.TheVariants.{One, Two}
use Rattle.model.specs.Fault.{accumulates, operation_fault, plan_in}
use Rattle.model.specs.WriteBack.{accumulated, accumulated_by, landed, mask_set, masked, result_of}
use Rattle.model.proofs.ObjectLaws.{cast_content-within, cast_content-words, same_domain-true, same_shape-rows, and_turned}
use Rattle.model.proofs.WriteBackLaws.{accepted-accumulator, accepted-inside, accepted-kinds, accepted-shapes}
use Rattle.model.proofs.OperationLaws.{KeepsInside, IsFit, operation-within}

-- ---- transposed inputs

transposed_as-within : (domain : Domain) (shape : Shape) (c : Content) → IsWithin (rows_of shape) (cols_of shape) c
    → KeepsInside (transposed_object (record { domain = domain; shape = shape; content = c }))
transposed_as-within domain (Two m n) c inside = λ i j outside. inside j i (and_turned (nat_lt i n) (nat_lt j m) outside)
transposed_as-within domain (One n) c inside = inside

transposed_if-within : (flag : Bool) (o : Object) → KeepsInside o → KeepsInside (transposed_if transposed_object flag o)
transposed_if-within true o inside = transposed_as-within o.domain o.shape o.content inside
transposed_if-within false o inside = inside

transposed-within : (desc : Desc) (op : Operation Object) → All KeepsInside (inputs_of op)
    → All KeepsInside (inputs_of (transposed transposed_object desc op))
transposed-within desc (Fill value region) inside = All-nil KeepsInside
transposed-within desc (OfOne computes a) inside =
    All-cons KeepsInside (transposed_if transposed_object (transposes_one computes desc) a) []
    (transposed_if-within (transposes_one computes desc) a (All-head KeepsInside a [] inside)) (All-nil KeepsInside)
transposed-within desc (OfTwo computes a b) inside =
    let first = All-head KeepsInside a (b ∷ []) inside in
    let second = All-head KeepsInside b [] (All-tail KeepsInside a (b ∷ []) inside) in
    let a' = transposed_if transposed_object desc.transpose_first a in
    let b' = transposed_if transposed_object desc.transpose_second b in
    All-cons KeepsInside a' (b' ∷ []) (transposed_if-within desc.transpose_first a first)
    (All-cons KeepsInside b' [] (transposed_if-within desc.transpose_second b second) (All-nil KeepsInside))

transposed_if-signature : (flag : Bool) (o : Object)
    → signature_of (transposed_if transposed_object flag o) ≡ transposed_if transposed_signature flag (signature_of o)
transposed_if-signature true o = refl
transposed_if-signature false o = refl

pub transposed-signature : (desc : Desc) (op : Operation Object)
    → renamed_operation signature_of (transposed transposed_object desc op) ≡ transposed transposed_signature desc (renamed_operation signature_of op)
transposed-signature desc (Fill value region) = refl
transposed-signature desc (OfOne computes a) = rw (transposed_if-signature (transposes_one computes desc) a) refl
transposed-signature desc (OfTwo computes a b) = rw (transposed_if-signature desc.transpose_first a, transposed_if-signature desc.transpose_second b) refl

-- ---- write-back

accumulated-none : (accum : Option OpName) → accumulated_by accum None None ≡ None
accumulated-none None = refl
accumulated-none (Some op) = refl

chosen-none : (test replace : Bool) (x y : Option ℕ) → x ≡ None → y ≡ None → cond test x (cond replace None y) ≡ None
chosen-none true replace x y first second = first
chosen-none false true x y first second = refl
chosen-none false false x y first second = second

either-none : (test : Bool) (x y : Option ℕ) → x ≡ None → y ≡ None → cond test x y ≡ None
either-none true x y first second = first
either-none false x y first second = second

landed-within : (out : Out Object) (is_written : ℕ → ℕ → Bool) (values : Content) (rows cols : ℕ)
    → IsWithin rows cols out.c.content → IsWithin rows cols values
    → IsWithin rows cols (landed out is_written values)
landed-within out is_written values rows cols old new i j outside =
    either-none (is_written i j) (accumulated_by out.accum (out.c.content i j) (values i j)) (out.c.content i j)
    (rw (old i j outside, new i j outside) (accumulated-none out.accum)) (old i j outside)

masked-within : (out : Out Object) (z : Content) (rows cols : ℕ) → IsWithin rows cols out.c.content
    → IsWithin rows cols z → IsWithin rows cols (masked out z)
masked-within out z rows cols old new i j outside =
    chosen-none (mask_set out i j) out.desc.replace (z i j) (out.c.content i j) (new i j outside) (old i j outside)

-- the accumulator, where there is one, gives words of the output's domain
abbrev AccumulatesIn : Domain → Option OpName → Type 0
AccumulatesIn domain None = Unit {0}
AccumulatesIn domain (Some op) = answer_domain op.kind op.domain ≡ domain

accumulated-word : (domain : Domain) (op : OpName) (old new : Option ℕ) (word : ℕ)
    → answer_domain op.kind op.domain ≡ domain
    → ((w : ℕ) → old ≡ Some w → IsWordOf domain w) → ((w : ℕ) → new ≡ Some w → IsWordOf domain w)
    → accumulated op old new ≡ Some word → IsWordOf domain word
accumulated-word domain op None new word gives olds news is = news word is
accumulated-word domain op (Some x) None word gives olds news is = olds word is
accumulated-word domain op (Some x) (Some y) word gives olds news is =
    let same : eval_of op.kind op.domain x y ≡ word = cc in
    subst (λ (d : Domain). IsWordOf d word) gives (rw same at (IsWordOf-eval op.kind op.domain x y))

accumulated_by-word : (domain : Domain) (accum : Option OpName) (old new : Option ℕ) (word : ℕ)
    → AccumulatesIn domain accum
    → ((w : ℕ) → old ≡ Some w → IsWordOf domain w) → ((w : ℕ) → new ≡ Some w → IsWordOf domain w)
    → accumulated_by accum old new ≡ Some word → IsWordOf domain word
accumulated_by-word domain None old new word gives olds news is = news word is
accumulated_by-word domain (Some op) old new word gives olds news is = accumulated-word domain op old new word gives olds news is

chosen-word : (domain : Domain) (test replace : Bool) (x y : Option ℕ) (word : ℕ)
    → (x ≡ Some word → IsWordOf domain word) → (y ≡ Some word → IsWordOf domain word)
    → cond test x (cond replace None y) ≡ Some word → IsWordOf domain word
chosen-word domain true replace x y word first second is = first is
chosen-word domain false true x y word first second is = absurd (cc)
chosen-word domain false false x y word first second is = second is

either-word : (domain : Domain) (test : Bool) (x y : Option ℕ) (word : ℕ) → (x ≡ Some word → IsWordOf domain word)
    → (y ≡ Some word → IsWordOf domain word)
    → cond test x y ≡ Some word → IsWordOf domain word
either-word domain true x y word first second is = first is
either-word domain false x y word first second is = second is

landed-words : (out : Out Object) (is_written : ℕ → ℕ → Bool) (values : Content) (domain : Domain)
    → AccumulatesIn domain out.accum → AreWordsOf domain out.c.content → AreWordsOf domain values
    → AreWordsOf domain (landed out is_written values)
landed-words out is_written values domain gives old new i j word is =
    either-word domain (is_written i j) (accumulated_by out.accum (out.c.content i j) (values i j)) (out.c.content i j) word
    (accumulated_by-word domain out.accum (out.c.content i j) (values i j) word gives (old i j) (new i j)) (old i j word) is

masked-words : (out : Out Object) (z : Content) (domain : Domain) → AreWordsOf domain out.c.content
    → AreWordsOf domain z → AreWordsOf domain (masked out z)
masked-words out z domain old new i j word is =
    chosen-word domain (mask_set out i j) out.desc.replace (z i j) (out.c.content i j) word (new i j word) (old i j word) is

-- ---- accepted operations

accumulator_gives : (domain : Domain) (accum : Option OpName) → option_map_or (accumulates domain) accum true ≡ true
    → AccumulatesIn domain accum
accumulator_gives domain None h = tt
accumulator_gives domain (Some op) h =
    same_domain-true (answer_domain op.kind op.domain) domain
    (and_parts (offers op.kind op.domain && same_domain op.domain domain) (same_domain (answer_domain op.kind op.domain) domain) h).1

-- what an accepted operation leaves lies inside the shape of its output
pub result-within : (out : Out Object) (op : Operation Object)
    → operation_fault (renamed_out signature_of out) (renamed_operation signature_of op) ≡ None
    → KeepsInside out.c → All KeepsInside (inputs_of op)
    → IsWithin (rows_of out.c.shape) (cols_of out.c.shape) (result_of out op)
unfolding result_of
result-within out op accepted old inputs =
    let c = signature_of out.c in
    let sig_out = renamed_out signature_of out in
    let sig = renamed_operation signature_of op in
    let moved = transposed transposed_object out.desc op in
    let shapes = accepted-shapes sig_out sig accepted in
    let same = same_shape-rows (plan_in c out.desc sig).shape out.c.shape shapes.0 in
    let fit : IsFit (plan_of c (renamed_operation signature_of moved)) =
    rw (transposed-signature out.desc op) (accepted-kinds sig_out sig accepted, shapes.1, accepted-inside sig_out sig accepted) in
    let inside = operation-within c moved fit (transposed-within out.desc op inputs) in
    let inside' : IsWithin (rows_of out.c.shape) (cols_of out.c.shape) (operation c moved) =
    rw (← same.0, ← same.1) (rw (transposed-signature out.desc op) at inside) in
    let t = computed c moved in
    let values = in_domain out.c.domain t in
    let is_written = is_written_by out.c.shape op in
    masked-within out (landed out is_written values) (rows_of out.c.shape) (cols_of out.c.shape) old
    (landed-within out is_written values (rows_of out.c.shape) (cols_of out.c.shape) old
    (cast_content-within t.domain out.c.domain (rows_of out.c.shape) (cols_of out.c.shape) t.content inside'))

-- ..and its words are values of the output's domain
result-words : (out : Out Object) (op : Operation Object)
    → operation_fault (renamed_out signature_of out) (renamed_operation signature_of op) ≡ None
    → AreWordsOf out.c.domain out.c.content → AreWordsOf out.c.domain (result_of out op)
unfolding result_of
result-words out op accepted old =
    let c = signature_of out.c in
    let sig_out = renamed_out signature_of out in
    let sig = renamed_operation signature_of op in
    let t = computed c (transposed transposed_object out.desc op) in
    let accumulates_in = accumulator_gives out.c.domain out.accum (accepted-accumulator sig_out sig accepted) in
    let values = in_domain out.c.domain t in
    let is_written = is_written_by out.c.shape op in
    masked-words out (landed out is_written values) out.c.domain old
    (landed-words out is_written values out.c.domain accumulates_in old (cast_content-words t.domain out.c.domain t.content))

all_inside : (os : List Object) → All IsObject os → All KeepsInside os
all_inside [] are = All-nil KeepsInside
all_inside (o ∷ os) are = All-cons KeepsInside o os (All-head IsObject o os are).within (all_inside os (All-tail IsObject o os are))

-- an accepted operation leaves an object in the place of its output
pub result-is_object : (out : Out Object) (op : Operation Object)
    → operation_fault (renamed_out signature_of out) (renamed_operation signature_of op) ≡ None
    → IsObject out.c → All IsObject (inputs_of op) → IsObject (record out.c { content = result_of out op })
result-is_object out op accepted old inputs = record {
  within = result-within out op accepted old.within (all_inside (inputs_of op) inputs);
  words = result-words out op accepted old.words;
}
