-- An operator looks at the value that a word stands for. So what operations compute of stored words is the same
-- whether these are cast to the operator's domain or not.
use Rattle.std.proofs.Common.{◌≡◌, ◌∙◌, ◌==◌, ℕ, true, Bool, cond, List, [], ◌∷◌, ◌++◌, map, get_or, Option, Some, None, refl, sym, ap}
use Rattle.std.specs.List.{All, cons_option, filter_map, flat_map, fold}
use Rattle.std.specs.Option.{option_and_then, option_map, unwrap_or}
use Rattle.std.proofs.lemmas.List.Elements.{All-append, All-cons, All-head, All-map, All-nil, All-tail}
use Rattle.std.proofs.lemmas.List.{map-append}
use Rattle.algebra.proofs.Casts.{IsWordOf-cast, own-cast, truth-cast, value_of-cast}
use Rattle.algebra.proofs.Sums.{sum-from_identity}
use Rattle.algebra.specs.declared.domain.Domain.{Domain}
use Rattle.algebra.specs.declared.domain.Domain.TheVariants.{Bool as Boolean}
use Rattle.algebra.specs.declared.functions.FunctionName.{FunctionName}
use Rattle.algebra.specs.declared.functions.FunctionName.TheVariants.{Unary, First, Second, Index}
use Rattle.algebra.specs.declared.kinds.BinaryKind.{BinaryKind}
use Rattle.algebra.specs.declared.kinds.BinaryKind.TheVariants as binary
use Rattle.algebra.specs.declared.kinds.IndexKind.{IndexKind}
use Rattle.algebra.specs.declared.kinds.IndexKind.TheVariants as index
use Rattle.algebra.specs.declared.kinds.MonoidKind.{MonoidKind}
use Rattle.algebra.specs.declared.operator_names.IndexName.{IndexName}
use Rattle.algebra.specs.declared.operator_names.MonoidName.{MonoidName}
use Rattle.algebra.specs.declared.operator_names.OpName.{OpName}
use Rattle.algebra.specs.declared.operator_names.SemiringName.{SemiringName}
use Rattle.algebra.specs.Functions.{function_domain, function_of, takes}
use Rattle.algebra.specs.IndexOperators.{index_answer_domain, index_eval_of, passes, takes_index}
use Rattle.algebra.specs.Monoids.{identity_of, sum_of}
use Rattle.algebra.specs.Operators.{answer_domain, combines_by, eval_of, formula, offers}
use Rattle.algebra.specs.UnaryOperators.{unary_formula}
use Rattle.algebra.specs.Value.{IsWordOf, are_compatible, cast_of, value_of, word_of}
use Rattle.model.specs.declared.call.Form.{Form}
use Rattle.model.specs.declared.call.Form.TheVariants.{MatrixMatrix, MatrixVector, VectorMatrix}
use Rattle.model.specs.ElementWise.{applied, eval_cast, intersection, kept_where, of_both, of_either, passes_cast, union}
use Rattle.model.specs.Entries.{below}
use Rattle.model.specs.Object.{AreWordsOf, Content, Object, cast_content, cols_of, in_domain, rows_of, transposed_content}
use Rattle.model.specs.Operations.{multiplied}
use Rattle.model.specs.Product.{product, product_of, sum_of as semiring_sum_of}
use Rattle.model.specs.Reductions.{all_words, row_words, sum_in}
use Rattle.model.proofs.ObjectLaws.{cast_content-words}

-- words that may be there, of a domain
abbrev MayBeOf : Domain → Option ℕ → Type 0
MayBeOf d o = (word : ℕ) → o ≡ Some word → IsWordOf d word

-- ---- operators

eval-stored : (op : OpName) (from other : Domain) (x y : ℕ) → are_compatible from op.domain ≡ true
    → are_compatible other op.domain ≡ true
    → IsWordOf from x → IsWordOf other y
    → eval_of op.kind op.domain (cast_of from op.domain x) (cast_of other op.domain y) ≡ eval_of op.kind op.domain x y
eval-stored op from other x y h g p q =
    let first = value_of-cast from op.domain x h p in
    let second = value_of-cast other op.domain y g q in
    λ t. word_of (answer_domain op.kind op.domain) (formula op.kind (first t) (second t))

first-stored : (op : OpName) (from : Domain) (x y : ℕ) → are_compatible from op.domain ≡ true → IsWordOf from y
    → eval_of op.kind op.domain x (cast_of from op.domain y) ≡ eval_of op.kind op.domain x y
first-stored op from x y h q =
    let second = value_of-cast from op.domain y h q in
    λ t. word_of (answer_domain op.kind op.domain) (formula op.kind (value_of op.domain x) (second t))

second-stored : (op : OpName) (from : Domain) (x y : ℕ) → are_compatible from op.domain ≡ true → IsWordOf from x
    → eval_of op.kind op.domain (cast_of from op.domain x) y ≡ eval_of op.kind op.domain x y
second-stored op from x y h p =
    let first = value_of-cast from op.domain x h p in
    λ t. word_of (answer_domain op.kind op.domain) (formula op.kind (first t) (value_of op.domain y))

-- the domain of an answer is the operator's, or BOOL
answer_either : (P : Domain → Type 0) (d : Domain) → P d → P Boolean → (kind : BinaryKind) → P (answer_domain kind d)
answer_either P d own truth binary.Eq = truth
answer_either P d own truth binary.Ne = truth
answer_either P d own truth binary.Gt = truth
answer_either P d own truth binary.Lt = truth
answer_either P d own truth binary.Ge = truth
answer_either P d own truth binary.Le = truth
answer_either P d own truth _ = own

-- a word alone in a union
alone-stored : (kind : BinaryKind) (from d : Domain) (x : ℕ) → are_compatible from d ≡ true → IsWordOf from x
    → cast_of from (answer_domain kind d) x ≡ cast_of d (answer_domain kind d) x
alone-stored kind from d x h p = answer_either (λ answer. cast_of from answer x ≡ cast_of d answer x) d (own-cast from d x h p) (truth-cast from d x p) kind

index-stored : (kind : IndexKind) (d from : Domain) (word i j s : ℕ) → takes_index kind d from ≡ true
    → IsWordOf from word
    → index_eval_of kind d (cast_of from d word) i j s ≡ index_eval_of kind d word i j s
index-stored index.ValueEq d from word i j s h p = let same = value_of-cast from d word h p in rw same refl
index-stored index.ValueNe d from word i j s h p = let same = value_of-cast from d word h p in rw same refl
index-stored index.ValueLt d from word i j s h p = let same = value_of-cast from d word h p in rw same refl
index-stored index.ValueLe d from word i j s h p = let same = value_of-cast from d word h p in rw same refl
index-stored index.ValueGt d from word i j s h p = let same = value_of-cast from d word h p in rw same refl
index-stored index.ValueGe d from word i j s h p = let same = value_of-cast from d word h p in rw same refl
index-stored _ d from word i j s h p = refl

function-stored : (function : FunctionName) (from : Domain) (i j word : ℕ) → takes function from ≡ true
    → IsWordOf from word
    → function_of function i j (cast_of from (function_domain function) word) ≡ function_of function i j word
function-stored (Unary op) from i j word h p =
    let same = value_of-cast from op.domain word h p in λ t. word_of op.domain (unary_formula op.kind (same t))
function-stored (First op value) from i j word h p = first-stored op from (word_of op.domain value) word h p
function-stored (Second op value) from i j word h p = second-stored op from word (word_of op.domain value) h p
function-stored (Index op scalar) from i j word h p = index-stored op.kind op.domain from word i j _ h p

-- ---- operations that go position by position

either-stored : (op : OpName) (a b : Object) (x y : Option ℕ) → are_compatible a.domain op.domain ≡ true
    → are_compatible b.domain op.domain ≡ true
    → MayBeOf a.domain x → MayBeOf b.domain y → let answer = answer_domain op.kind op.domain in
    of_either (cast_of a.domain answer) (cast_of b.domain answer) (eval_cast op a b) x y
    ≡ of_either (cast_of op.domain answer) (cast_of op.domain answer) (eval_of op.kind op.domain) x y
either-stored op a b None None h g p q = refl
either-stored op a b (Some x) None h g p q = ap Some (alone-stored op.kind a.domain op.domain x h (p x refl))
either-stored op a b None (Some y) h g p q = ap Some (alone-stored op.kind b.domain op.domain y g (q y refl))
either-stored op a b (Some x) (Some y) h g p q = ap Some (eval-stored op a.domain b.domain x y h g (p x refl) (q y refl))

pub union-stored : (op : OpName) (a b : Object) → are_compatible a.domain op.domain ≡ true
    → are_compatible b.domain op.domain ≡ true
    → AreWordsOf a.domain a.content → AreWordsOf b.domain b.content → (i j : ℕ) → let answer = answer_domain op.kind op.domain in
    union op a b i j ≡ of_either (cast_of op.domain answer) (cast_of op.domain answer) (eval_of op.kind op.domain) (a.content i j) (b.content i j)
union-stored op a b h g first second i j = either-stored op a b (a.content i j) (b.content i j) h g (first i j) (second i j)

both-stored : (op : OpName) (a b : Object) (x y : Option ℕ) → are_compatible a.domain op.domain ≡ true
    → are_compatible b.domain op.domain ≡ true
    → MayBeOf a.domain x → MayBeOf b.domain y → of_both (eval_cast op a b) x y ≡ of_both (eval_of op.kind op.domain) x y
both-stored op a b None y h g p q = refl
both-stored op a b (Some x) None h g p q = refl
both-stored op a b (Some x) (Some y) h g p q = ap Some (eval-stored op a.domain b.domain x y h g (p x refl) (q y refl))

pub intersection-stored : (op : OpName) (a b : Object) → are_compatible a.domain op.domain ≡ true
    → are_compatible b.domain op.domain ≡ true
    → AreWordsOf a.domain a.content → AreWordsOf b.domain b.content → (i j : ℕ)
    → intersection op a b i j ≡ of_both (eval_of op.kind op.domain) (a.content i j) (b.content i j)
intersection-stored op a b h g first second i j = both-stored op a b (a.content i j) (b.content i j) h g (first i j) (second i j)

each-stored : (f : ℕ → ℕ) (g : ℕ → ℕ) (d : Domain) (o : Option ℕ)
    → ((word : ℕ) → IsWordOf d word → f (g word) ≡ f word) → MayBeOf d o
    → option_map f (option_map g o) ≡ option_map f o
each-stored f g d None same p = refl
each-stored f g d (Some word) same p = ap Some (same word (p word refl))

pub applied-stored : (function : FunctionName) (a : Object) → takes function a.domain ≡ true
    → AreWordsOf a.domain a.content → (i j : ℕ)
    → applied function (in_domain (function_domain function) a) i j ≡ applied function a.content i j
applied-stored function a h words i j =
    each-stored (function_of function i j) (cast_of a.domain (function_domain function)) a.domain (a.content i j)
    (λ word p. function-stored function a.domain i j word h p) (words i j)

kept-stored : (test same : ℕ → Bool) (d : Domain) (o : Option ℕ)
    → ((word : ℕ) → IsWordOf d word → test word ≡ same word) → MayBeOf d o
    → option_and_then (λ word. cond (test word) (Some word) None) o ≡ option_and_then (λ word. cond (same word) (Some word) None) o
kept-stored test same d None is p = refl
kept-stored test same d (Some word) is p = ap (λ b. cond b (Some word) None) (is word (p word refl))

pub selected-stored : (op : IndexName) (s : ℕ) (a : Object) → takes_index op.kind op.domain a.domain ≡ true
    → AreWordsOf a.domain a.content → (i j : ℕ)
    → kept_where (passes_cast op s a) a.content i j ≡ kept_where (λ i j word. passes op.kind op.domain word i j s) a.content i j
selected-stored op s a h words i j =
    kept-stored (passes_cast op s a i j) (λ word. passes op.kind op.domain word i j s) a.domain (a.content i j)
    (λ word p. ap (λ (answer : ℕ). cast_of (index_answer_domain op.kind) Boolean answer == 1) (index-stored op.kind op.domain a.domain word i j s h p)) (words i j)

-- ---- products

product_of-stored : (semiring : SemiringName) (from other : Domain) (x y : Option ℕ)
    → are_compatible from semiring.domain ≡ true → are_compatible other semiring.domain ≡ true
    → MayBeOf from x → MayBeOf other y → product_of semiring (option_map (cast_of from semiring.domain) x)
    (option_map (cast_of other semiring.domain) y) ≡ product_of semiring x y
product_of-stored semiring from other None y h g p q = refl
product_of-stored semiring from other (Some x) None h g p q = refl
product_of-stored semiring from other (Some x) (Some y) h g p q =
    let op : OpName = record { kind = semiring.multiply; domain = semiring.domain } in
    ap Some (eval-stored op from other x y h g (p x refl) (q y refl))

product-stored : (semiring : SemiringName) (n : ℕ) (from other : Domain) (a b : Content)
    → are_compatible from semiring.domain ≡ true → are_compatible other semiring.domain ≡ true
    → AreWordsOf from a → AreWordsOf other b → (i j : ℕ)
    → product semiring n (cast_content from semiring.domain a)
    (cast_content other semiring.domain b) i j ≡ product semiring n a b i j
unfolding product
product-stored semiring n from other a b h g first second i j =
    λ t. semiring_sum_of semiring (filter_map (λ k. product_of-stored semiring from other (a i k) (b k j) h g (first i k) (second k j) t) (below n))

pub multiplied-stored : (form : Form) (semiring : SemiringName) (n : ℕ) (a b : Object)
    → are_compatible a.domain semiring.domain ≡ true → are_compatible b.domain semiring.domain ≡ true
    → AreWordsOf a.domain a.content → AreWordsOf b.domain b.content → (i j : ℕ)
    → multiplied form semiring n (in_domain semiring.domain a)
    (in_domain semiring.domain b) i j ≡ multiplied form semiring n a.content b.content i j
multiplied-stored MatrixMatrix semiring n a b h g first second i j = product-stored semiring n a.domain b.domain a.content b.content h g first second i j
multiplied-stored MatrixVector semiring n a b h g first second i j = product-stored semiring n a.domain b.domain a.content b.content h g first second i j
multiplied-stored VectorMatrix semiring n a b h g first second i j =
    product-stored semiring n a.domain b.domain (transposed_content a.content) b.content h g (λ i j. first j i) second j i

-- ---- sums

row_words-cast : (f : ℕ → ℕ) (c : Content) (i : ℕ) (ks : List ℕ)
    → filter_map (λ k. option_map f (c i k)) ks ≡ map f (filter_map (λ k. c i k) ks)
row_words-cast f c i [] = refl
row_words-cast f c i (k ∷ ks) =
    let rest = row_words-cast f c i ks in
    elim (c i k) as (λ o. cons_option (option_map f o) (filter_map (λ k. option_map f (c i k)) ks) ≡ map f (cons_option o (filter_map (λ k. c i k) ks)))
    [ None ↦ rest | Some word ↦ ap (λ ws. f word ∷ ws) rest ]

all_words-cast : (f : ℕ → ℕ) (c : Content) (cols : ℕ) (ks : List ℕ)
    → flat_map (row_words cols (λ i j. option_map f (c i j))) ks ≡ map f (flat_map (row_words cols c) ks)
all_words-cast f c cols [] = refl
all_words-cast f c cols (k ∷ ks) =
    ap (λ ws. ws ++ flat_map (row_words cols (λ i j. option_map f (c i j))) ks) (row_words-cast f c k (below cols))
    ∙ ap (λ ws. map f (row_words cols c k) ++ ws) (all_words-cast f c cols ks)
    ∙ sym (map-append f (row_words cols c k) (flat_map (row_words cols c) ks))

row_words-are : (d : Domain) (c : Content) (i : ℕ) (ks : List ℕ) → AreWordsOf d c
    → All (IsWordOf d) (filter_map (λ k. c i k) ks)
row_words-are d c i [] words = All-nil (IsWordOf d)
row_words-are d c i (k ∷ ks) words =
    let rest = row_words-are d c i ks words in
    let found : (o : Option ℕ) → c i k ≡ o → All (IsWordOf d) (cons_option o (filter_map (λ k. c i k) ks)) = λ o. elim o as (λ o. c i k ≡ o → All (IsWordOf d) (cons_option o (filter_map (λ k. c i k) ks)))
    [ None ↦ λ none. rest | Some word ↦ λ some. All-cons (IsWordOf d) word (filter_map (λ k. c i k) ks) (words i k word some) rest ] in
    found (c i k) refl

all_words-are : (d : Domain) (c : Content) (cols : ℕ) (ks : List ℕ) → AreWordsOf d c
    → All (IsWordOf d) (flat_map (row_words cols c) ks)
all_words-are d c cols [] words = All-nil (IsWordOf d)
all_words-are d c cols (k ∷ ks) words =
    All-append (IsWordOf d) (row_words cols c k) (flat_map (row_words cols c) ks) (row_words-are d c k (below cols) words) (all_words-are d c cols ks words)

-- the words of a row of a map that is cast are of the domain to which it is cast
pub row_words-domain : (d : Domain) (cols : ℕ) (a : Object) (i : ℕ)
    → All (IsWordOf d) (row_words cols (in_domain d a) i)
row_words-domain d cols a i = row_words-are d (in_domain d a) i (below cols) (cast_content-words a.domain d a.content)

-- what is put onto a word is the same, cast or not
fold-stored : (kind : MonoidKind) (from d : Domain) (start : ℕ) (words : List ℕ) → are_compatible from d ≡ true
    → All (IsWordOf from) words
    → fold (eval_of (combines_by kind) d) start (map (cast_of from d) words) ≡ fold (eval_of (combines_by kind) d) start words
fold-stored kind from d start [] h all = refl
fold-stored kind from d start (word ∷ words) h all =
    let op : OpName = record { kind = combines_by kind; domain = d } in
    let first = first-stored op from start word h (All-head (IsWordOf from) word words all) in
    ap (λ sum. fold (eval_of (combines_by kind) d) sum (map (cast_of from d) words)) first
    ∙ fold-stored kind from d (eval_of (combines_by kind) d start word) words h (All-tail (IsWordOf from) word words all)

casts_are : (from d : Domain) (words : List ℕ) → All (IsWordOf d) (map (cast_of from d) words)
casts_are from d words = All-map (IsWordOf d) (cast_of from d) words (λ k e within. IsWordOf-cast from d (get_or words k e))

-- words combined from the monoid's identity are the sum of the cast words
folded_all : (kind : MonoidKind) (from d : Domain) (words : List ℕ) → offers (combines_by kind) d ≡ true
    → are_compatible from d ≡ true → All (IsWordOf from) words
    → unwrap_or (sum_of kind d (map (cast_of from d) words)) (identity_of kind d) ≡ fold (eval_of (combines_by kind) d)
    (identity_of kind d) words
folded_all kind from d words offered h all =
    sym (sum-from_identity kind d (map (cast_of from d) words) offered (casts_are from d words))
    ∙ fold-stored kind from d (identity_of kind d) words h all

-- ..where there is one
pub sum-stored : (kind : MonoidKind) (from d : Domain) (word : ℕ) (words : List ℕ) → offers (combines_by kind) d ≡ true
    → are_compatible from d ≡ true
    → All (IsWordOf from) (word ∷ words)
    → sum_of kind d (map (cast_of from d) (word ∷ words)) ≡ Some (fold (eval_of (combines_by kind) d) (identity_of kind d) (word ∷ words))
sum-stored kind from d word words offered h all = ap Some (folded_all kind from d (word ∷ words) offered h all)

-- the words of a row of an object, cast
pub row_words-stored : (d : Domain) (cols : ℕ) (a : Object) (i : ℕ)
    → row_words cols (in_domain d a) i ≡ map (cast_of a.domain d) (row_words cols a.content i)
row_words-stored d cols a i = row_words-cast (cast_of a.domain d) a.content i (below cols)

pub row_words-all : (cols : ℕ) (a : Object) (i : ℕ) → AreWordsOf a.domain a.content
    → All (IsWordOf a.domain) (row_words cols a.content i)
row_words-all cols a i words = row_words-are a.domain a.content i (below cols) words

-- the sum of all values of an object
pub sum_in-stored : (monoid : MonoidName) (a : Object) → offers (combines_by monoid.kind) monoid.domain ≡ true
    → are_compatible a.domain monoid.domain ≡ true
    → AreWordsOf a.domain a.content
    → sum_in monoid a ≡ fold (eval_of (combines_by monoid.kind) monoid.domain) (identity_of monoid.kind monoid.domain)
    (all_words (rows_of a.shape) (cols_of a.shape) a.content)
sum_in-stored monoid a offered h words =
    let rows = rows_of a.shape in
    let cols = cols_of a.shape in
    ap (λ ws. unwrap_or (sum_of monoid.kind monoid.domain ws) (identity_of monoid.kind monoid.domain)) (all_words-cast (cast_of a.domain monoid.domain) a.content cols (below rows))
    ∙ folded_all monoid.kind a.domain monoid.domain (all_words rows cols a.content) offered h (all_words-are a.domain a.content cols (below rows) words)
