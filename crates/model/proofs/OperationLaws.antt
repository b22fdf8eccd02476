-- What operations compute are words of the domain that the table gives, and lie inside the shape that it gives.
use Rattle.std.proofs.Common.{◌≡◌, ◌==◌, ℕ, Bool, true, false, cond, List, [], ◌∷◌, Option, Some, None, ◌&&◌, not, refl, inl, inr, arith}
use Rattle.std.specs.List.{All, filter_map}
use Rattle.std.specs.Option.{option_and_then, option_map}
use Rattle.std.proofs.lemmas.Bool.{and_parts, cases_Bool}
use Rattle.std.proofs.lemmas.List.Elements.{All-head, All-tail}
use Rattle.algebra.proofs.Casts.{IsWordOf-cast, IsWordOf-word_of}
use Rattle.algebra.proofs.Sums.{sum-word}
use Rattle.algebra.proofs.Words.{IsWordOf-eval, IsWordOf-index_eval, IsWordOf-unary_eval}
use Rattle.algebra.specs.declared.domain.Domain.{Domain}
use Rattle.algebra.specs.declared.functions.FunctionName.{FunctionName}
use Rattle.algebra.specs.declared.functions.FunctionName.TheVariants.{Unary, First, Second, Index}
use Rattle.algebra.specs.declared.operator_names.MonoidName.{MonoidName}
use Rattle.algebra.specs.declared.operator_names.OpName.{OpName}
use Rattle.algebra.specs.declared.operator_names.SemiringName.{SemiringName}
use Rattle.algebra.specs.Functions.{function_answer, function_domain, function_of}
use Rattle.algebra.specs.Monoids.{sum_of}
use Rattle.algebra.specs.Operators.{answer_domain, combines_by, offers}
use Rattle.algebra.specs.Value.{IsWordOf, cast_of, word_of}
use Rattle.model.specs.declared.call.Form.{Form}
use Rattle.model.specs.declared.call.Form.TheVariants.{MatrixMatrix, MatrixVector, VectorMatrix}
use Rattle.model.specs.declared.call.OneInput.{OneInput}
use Rattle.model.specs.declared.call.OneInput.TheVariants.{Apply, Select, ReduceRows, Transpose, Extract, Assign}
use Rattle.model.specs.declared.call.Operation.{Operation}
use Rattle.model.specs.declared.call.Operation.TheVariants.{Fill, OfOne, OfTwo}
use Rattle.model.specs.declared.call.Positions.{Positions}
use Rattle.model.specs.declared.call.Positions.TheVariants.{Union, Intersection}
use Rattle.model.specs.declared.call.TwoInputs.{TwoInputs}
use Rattle.model.specs.declared.call.TwoInputs.TheVariants.{Combine, Multiply}
use Rattle.model.specs.declared.shape.Signature.{Signature}
use Rattle.model.specs.ElementWise.{eval_cast, of_both, of_either}
use Rattle.model.specs.Object.{AreWordsOf, Content, IsObject, Object, cols_of, in_domain, rows_of, signature_of, transposed_content, IsWithin, is_matrix, same_shape, transposed_shape}
use Rattle.model.specs.Operations.{combined, computed_of_one, computed_of_two, multiplied, operation}
use Rattle.model.specs.Product.{sum_domain, product}
use Rattle.model.specs.Reductions.{row_words, row_sums}
use Rattle.model.specs.Regions.{cols_in, rows_in}
use Rattle.model.specs.Renamed.{inputs_of, renamed_operation}
use Rattle.model.specs.Table.{inner_size, is_offered, offers_one, plan_of, plan_of_one, plan_of_two, are_factors, product_shape}
use Rattle.model.proofs.ProductLaws.{product-words, product-no_col, product-no_row}
use Rattle.model.proofs.RegionLaws.{extracted-words, filled-words, placed-words, extracted-within, filled-within, placed-within, shape_in-counts}
use Rattle.model.proofs.StoredLaws.{row_words-domain}
use Rattle.std.specs.Prelude.{nat_lt}
use Rattle.std.proofs.lemmas.Bool.Decides.{nat_tests}
use Rattle.model.specs.declared.call.Plan.{Plan}
use Rattle.model.specs.declared.shape.Shape.{Shape}
use Rattle.model.specs.declared.shape.Shape.TheVariants.{One, Two}
use Rattle.model.specs.Entries.{below}
use Rattle.model.specs.Indices.{are_below}
use Rattle.model.proofs.ObjectLaws.{cast_content-within, same_shape-rows, vector-column, and_turned}

-- ---- two inputs

multiplied-words : (form : Form) (semiring : SemiringName) (n : ℕ) (a b : Content)
    → offers (combines_by semiring.add) (sum_domain semiring) ≡ true
    → AreWordsOf (sum_domain semiring) (multiplied form semiring n a b)
multiplied-words MatrixMatrix semiring n a b offered = product-words semiring n a b offered
multiplied-words MatrixVector semiring n a b offered = product-words semiring n a b offered
multiplied-words VectorMatrix semiring n a b offered = λ i j word is. product-words semiring n (transposed_content a) b offered j i word is

either-word : (d : Domain) (f g : ℕ → ℕ) (h : ℕ → ℕ → ℕ) (x y : Option ℕ) (word : ℕ) → ((w : ℕ) → IsWordOf d (f w))
    → ((w : ℕ) → IsWordOf d (g w)) → ((v w : ℕ) → IsWordOf d (h v w))
    → of_either f g h x y ≡ Some word → IsWordOf d word
either-word d f g h None None word left right both is = absurd (cc)
either-word d f g h (Some x) None word left right both is = let same : f x ≡ word = cc in rw same at (left x)
either-word d f g h None (Some y) word left right both is = let same : g y ≡ word = cc in rw same at (right y)
either-word d f g h (Some x) (Some y) word left right both is = let same : h x y ≡ word = cc in rw same at (both x y)

both-word : (d : Domain) (h : ℕ → ℕ → ℕ) (x y : Option ℕ) (word : ℕ) → ((v w : ℕ) → IsWordOf d (h v w))
    → of_both h x y ≡ Some word → IsWordOf d word
both-word d h None y word both is = absurd (cc)
both-word d h (Some x) None word both is = absurd (cc)
both-word d h (Some x) (Some y) word both is = let same : h x y ≡ word = cc in rw same at (both x y)

eval_cast-word : (op : OpName) (a b : Object) (x y : ℕ)
    → IsWordOf (answer_domain op.kind op.domain) (eval_cast op a b x y)
eval_cast-word op a b x y = IsWordOf-eval op.kind op.domain (cast_of a.domain op.domain x) (cast_of b.domain op.domain y)

combined-words : (positions : Positions) (op : OpName) (a b : Object)
    → AreWordsOf (answer_domain op.kind op.domain) (combined positions op a b)
combined-words Union op a b i j word is =
    let answer = answer_domain op.kind op.domain in
    either-word answer (cast_of a.domain answer) (cast_of b.domain answer) (eval_cast op a b) (a.content i j) (b.content i j) word
    (λ w. IsWordOf-cast a.domain answer w) (λ w. IsWordOf-cast b.domain answer w) (eval_cast-word op a b) is
combined-words Intersection op a b i j word is =
    both-word (answer_domain op.kind op.domain) (eval_cast op a b) (a.content i j) (b.content i j) word (eval_cast-word op a b) is

two-words : (computes : TwoInputs) (a b : Object) → is_offered (OfTwo computes a b) ≡ true
    → AreWordsOf (plan_of_two computes (signature_of a) (signature_of b)).domain (computed_of_two computes a b)
two-words (Multiply form semiring) a b offered =
    multiplied-words form semiring (inner_size form a.shape) (in_domain semiring.domain a) (in_domain semiring.domain b)
    (and_parts (offers semiring.multiply semiring.domain) (offers (combines_by semiring.add) (sum_domain semiring)) offered).1
two-words (Combine positions op) a b offered = combined-words positions op a b

-- ---- one input

function-word : (function : FunctionName) (i j word : ℕ)
    → IsWordOf (function_answer function) (function_of function i j word)
function-word (Unary op) i j word = IsWordOf-unary_eval op.kind op.domain word
function-word (First op value) i j word = IsWordOf-eval op.kind op.domain _ word
function-word (Second op value) i j word = IsWordOf-eval op.kind op.domain word _
function-word (Index op scalar) i j word = IsWordOf-index_eval op.kind op.domain word i j _

mapped-word : (d : Domain) (f : ℕ → ℕ) (o : Option ℕ) (word : ℕ) → ((w : ℕ) → IsWordOf d (f w))
    → option_map f o ≡ Some word → IsWordOf d word
mapped-word d f None word each is = absurd (cc)
mapped-word d f (Some x) word each is = let same : f x ≡ word = cc in rw same at (each x)

kept-word : (test : ℕ → Bool) (o : Option ℕ) (word : ℕ)
    → option_and_then (λ w. cond (test w) (Some w) None) o ≡ Some word → o ≡ Some word
kept-word test None word is = absurd (cc)
kept-word test (Some x) word is = elim (test x) as (λ t. cond t (Some x) None ≡ Some word → Some x ≡ Some word) [ true ↦ λ e. e | false ↦ λ e. absurd (cc) ] is

pub summed-word : (monoid : MonoidName) (words : List ℕ) (word : ℕ)
    → offers (combines_by monoid.kind) monoid.domain ≡ true → All (IsWordOf monoid.domain) words
    → sum_of monoid.kind monoid.domain words ≡ Some word → IsWordOf monoid.domain word
summed-word monoid [] word offered all is = absurd (cc)
summed-word monoid (first ∷ words) word offered all is =
    sum-word monoid.kind monoid.domain first words word offered (All-head (IsWordOf monoid.domain) first words all) is

column-word : (first : Bool) (o : Option ℕ) (word : ℕ) → cond first o None ≡ Some word → o ≡ Some word
column-word true o word is = is
column-word false o word is = absurd (cc)

one-words : (c : Signature) (computes : OneInput) (a : Object) → offers_one computes ≡ true → IsObject a
    → AreWordsOf (plan_of_one c computes (signature_of a)).domain (computed_of_one c.shape computes a)
one-words c (Apply function) a offered are i j word is =
    mapped-word (function_answer function) (function_of function i j) (in_domain (function_domain function) a i j) word (function-word function i j) is
one-words c (Select op scalar) a offered are i j word is = are.words i j word (kept-word _ (a.content i j) word is)
one-words c (ReduceRows monoid) a offered are i j word is =
    let values = in_domain monoid.domain a in
    summed-word monoid (row_words _ values i) word offered (row_words-domain monoid.domain _ a i) (column-word (j == 0) _ word is)
one-words c Transpose a offered are i j word is = are.words j i word is
one-words c (Extract region) a offered are i j word is = extracted-words a.domain (rows_of a.shape) (cols_of a.shape) (rows_in region) (cols_in region) a.content are.words i j word is
one-words c (Assign region) a offered are i j word is = placed-words a.domain (rows_of c.shape) (cols_of c.shape) (rows_in region) (cols_in region) a.content are.words i j word is

-- ---- any operation

pub operation-words : (c : Signature) (op : Operation Object) → is_offered op ≡ true → All IsObject (inputs_of op)
    → AreWordsOf (plan_of c (renamed_operation signature_of op)).domain (operation c op)
unfolding operation
operation-words c (Fill value region) offered are =
    filled-words c.domain (rows_of c.shape) (cols_of c.shape) (rows_in region) (cols_in region) (word_of c.domain value) (IsWordOf-word_of c.domain value)
operation-words c (OfOne computes a) offered are = one-words c computes a offered (All-head IsObject a [] are)
operation-words c (OfTwo computes a b) offered are = two-words computes a b offered

-- ---- inside the shape of what is computed

beyond_col : (low : Bool) → (low && false) ≡ false
beyond_col true = refl
beyond_col false = refl

-- an object's map lies inside its shape
abbrev pub KeepsInside : Object → Type 0
KeepsInside o = IsWithin (rows_of o.shape) (cols_of o.shape) o.content

-- a product of maps that lie inside m rows, and inside n columns
product-within : (semiring : SemiringName) (inner m n : ℕ) (a b : Content)
    → ((i k : ℕ) → nat_lt i m ≡ false → a i k ≡ None)
    → ((k j : ℕ) → nat_lt j n ≡ false → b k j ≡ None) → IsWithin m n (product semiring inner a b)
product-within semiring inner m n a b first second i j outside =
    elim (cases_Bool (nat_lt i m)) [
      | inl inside ↦ product-no_col semiring inner a b i j (λ k. second k j (rw inside at outside))
      | inr past ↦ product-no_row semiring inner a b i j (λ k. first i k past)
    ]

-- an input in another domain has nothing below its rows, and nothing behind its columns
no_row : (domain : Domain) (o : Object) → KeepsInside o → (i k : ℕ) → nat_lt i (rows_of o.shape) ≡ false
    → in_domain domain o i k ≡ None
no_row domain o inside i k past = cast_content-within o.domain domain (rows_of o.shape) (cols_of o.shape) o.content inside i k (rw past refl)

no_col : (domain : Domain) (o : Object) → KeepsInside o → (k j : ℕ) → nat_lt j (cols_of o.shape) ≡ false
    → in_domain domain o k j ≡ None
no_col domain o inside k j past =
    cast_content-within o.domain domain (rows_of o.shape) (cols_of o.shape) o.content inside k j (rw past (beyond_col (nat_lt k (rows_of o.shape))))

-- a product of objects that are of the kinds of its form
multiplied-within : (form : Form) (semiring : SemiringName) (a b : Object) → are_factors form a.shape b.shape ≡ true
    → KeepsInside a → KeepsInside b
    → let shape = product_shape form a.shape b.shape in IsWithin (rows_of shape) (cols_of shape)
    (multiplied form semiring (inner_size form a.shape) (in_domain semiring.domain a) (in_domain semiring.domain b))
multiplied-within MatrixMatrix semiring a b kinds first second =
    product-within semiring (cols_of a.shape) (rows_of a.shape) (cols_of b.shape) (in_domain semiring.domain a) (in_domain semiring.domain b)
    (no_row semiring.domain a first) (no_col semiring.domain b second)
multiplied-within MatrixVector semiring a b kinds first second =
    let one = vector-column b.shape (and_parts (is_matrix a.shape) (not (is_matrix b.shape)) kinds).1 in
    product-within semiring (cols_of a.shape) (rows_of a.shape) 1 (in_domain semiring.domain a) (in_domain semiring.domain b)
    (no_row semiring.domain a first) (rw one at (no_col semiring.domain b second))
multiplied-within VectorMatrix semiring a b kinds first second =
    let one = vector-column a.shape (and_parts (not (is_matrix a.shape)) (is_matrix b.shape) kinds).0 in
    λ i j outside. product-within semiring (rows_of a.shape) 1 (cols_of b.shape) (transposed_content (in_domain semiring.domain a)) (in_domain semiring.domain b)
    (λ i k past. no_col semiring.domain a first k i (rw one past)) (no_col semiring.domain b second) j i
    (and_turned (nat_lt i (cols_of b.shape)) (nat_lt j 1) outside)

-- where neither has a value, their union and their intersection have none
combined-within : (positions : Positions) (op : OpName) (a b : Object) → same_shape a.shape b.shape ≡ true
    → KeepsInside a → KeepsInside b
    → IsWithin (rows_of a.shape) (cols_of a.shape) (combined positions op a b)
combined-within Union op a b same first second i j outside =
    let shapes = same_shape-rows a.shape b.shape same in
    let none : b.content i j ≡ None = second i j (rw (← shapes.0, ← shapes.1) outside) in
    rw (first i j outside, none) refl
combined-within Intersection op a b same first second i j outside = rw (first i j outside) refl

-- a row without values has no sum
row_words-none : (c : Content) (i : ℕ) (ks : List ℕ) → ((k : ℕ) → c i k ≡ None) → filter_map (λ k. c i k) ks ≡ []
row_words-none c i [] none = refl
row_words-none c i (k ∷ ks) none = rw (none k) (row_words-none c i ks none)

row_sums-within : (monoid : MonoidName) (cols m : ℕ) (c : Content) → ((i k : ℕ) → nat_lt i m ≡ false → c i k ≡ None)
    → IsWithin m 1 (row_sums monoid cols c)
row_sums-within monoid cols m c none i j outside =
    elim (cases_Bool (j == 0)) [
      | inl first ↦
          let past : nat_lt i m ≡ false = grind (arith, nat_tests) in
          rw (first, row_words-none c i (below cols) (λ k. none i k past)) refl
      | inr other ↦ rw other refl
    ]

-- what an operation asks of indices and of its output
abbrev pub IsFit : Plan → Type 0
IsFit plan = (plan.kinds ≡ true) × (plan.fits ≡ true) × (plan.inside ≡ true)

transposed-within_shape : (shape : Shape) (c : Content) → is_matrix shape ≡ true
    → IsWithin (rows_of shape) (cols_of shape) c
    → IsWithin (rows_of (transposed_shape shape)) (cols_of (transposed_shape shape)) (transposed_content c)
transposed-within_shape (Two m n) c is inside = λ i j outside. inside j i (and_turned (nat_lt i n) (nat_lt j m) outside)
transposed-within_shape (One n) c is inside = absurd (cc)

one-within : (c : Signature) (computes : OneInput) (a : Object) → IsFit (plan_of_one c computes (signature_of a))
    → KeepsInside a
    → let shape = (plan_of_one c computes (signature_of a)).shape in IsWithin (rows_of shape) (cols_of shape) (computed_of_one c.shape computes a)
one-within c (Apply function) a fit inside i j outside = rw (inside i j outside) refl
one-within c (Select op scalar) a fit inside i j outside = rw (inside i j outside) refl
one-within c Transpose a fit inside i j outside = transposed-within_shape a.shape a.content fit.0 inside i j outside
one-within c (Extract region) a fit inside i j outside =
    let counts = shape_in-counts a.shape region fit.0 in
    extracted-within (rows_of a.shape) (cols_of a.shape) (rows_in region) (cols_in region) a.content i j (rw (counts.0, counts.1) outside)
one-within c (Assign region) a fit inside i j outside =
    let parts = and_parts (are_below (rows_of c.shape) (rows_in region)) (are_below (cols_of c.shape) (cols_in region)) fit.2 in
    placed-within (rows_of c.shape) (cols_of c.shape) (rows_in region) (cols_in region) a.content parts.0 parts.1 i j outside
one-within c (ReduceRows monoid) a fit inside i j outside = row_sums-within monoid (cols_of a.shape) (rows_of a.shape) (in_domain monoid.domain a) (no_row monoid.domain a inside) i j outside

pub operation-within : (c : Signature) (op : Operation Object) → IsFit (plan_of c (renamed_operation signature_of op))
    → All KeepsInside (inputs_of op)
    → let shape = (plan_of c (renamed_operation signature_of op)).shape in IsWithin (rows_of shape) (cols_of shape) (operation c op)
unfolding operation
operation-within c (Fill value region) fit inside =
    let parts = and_parts (are_below (rows_of c.shape) (rows_in region)) (are_below (cols_of c.shape) (cols_in region)) fit.2 in
    filled-within (rows_of c.shape) (cols_of c.shape) (rows_in region) (cols_in region) (word_of c.domain value) parts.0 parts.1
operation-within c (OfOne computes a) fit inside = one-within c computes a fit (All-head KeepsInside a [] inside)
operation-within c (OfTwo (Multiply form semiring) a b) fit inside =
    multiplied-within form semiring a b fit.0 (All-head KeepsInside a (b ∷ []) inside) (All-head KeepsInside b [] (All-tail KeepsInside a (b ∷ []) inside))
operation-within c (OfTwo (Combine positions op) a b) fit inside =
    combined-within positions op a b fit.1 (All-head KeepsInside a (b ∷ []) inside) (All-head KeepsInside b [] (All-tail KeepsInside a (b ∷ []) inside))
