-- Objects keep inside their shapes, and their words are values of their domains.
use Rattle.std.proofs.Common.{◌≡◌, ℕ, ◌<◌, ◌&&◌, ◌==◌, Bool, true, false, cond, not, Option, Some, None, refl, sym, ap, arith}
use Rattle.std.specs.Prelude.{ℤ, nat_lt}
use Rattle.std.specs.Option.{option_map}
use Rattle.std.proofs.lemmas.Bool.{and_parts, eqb-true}
use Rattle.std.proofs.lemmas.Bool.Decides.{nat_tests}
use Rattle.algebra.proofs.Casts.{IsWordOf-cast, IsWordOf-word_of, cast_own}
use Rattle.algebra.specs.declared.domain.Domain.{Domain}
use Rattle.algebra.specs.declared.domain.Domain.TheVariants as domains
use Rattle.algebra.specs.Value.{IsWordOf, cast_of, same_domain, word_of}
use Rattle.model.specs.declared.shape.Place.{Place}
use Rattle.model.specs.declared.shape.Place.TheVariants as place
use Rattle.model.specs.declared.shape.Shape.{Shape}
use Rattle.model.specs.declared.shape.Shape.TheVariants.{One, Two}
use Rattle.model.specs.Object.{AreWordsOf, Content, IsObject, IsWithin, Object, cast_content, col_of, cols_of, empty_object, is_inside, is_matrix, row_of, rows_of, same_shape, transposed_object, with_entry}
use Rattle.model.specs.Object.{without_entry}

pub objects_equal : (a b : Object) → a.domain ≡ b.domain → a.shape ≡ b.shape
    → ((i j : ℕ) → a.content i j ≡ b.content i j) → a ≡ b
objects_equal a b domain shape same = λ k. record { domain = domain k; shape = shape k; content = λ i j. same i j k }

pub same_domain-true : (a b : Domain) → same_domain a b ≡ true → a ≡ b
same_domain-true domains.Bool domains.Bool h = refl
same_domain-true domains.Int64 domains.Int64 h = refl
same_domain-true domains.Uint64 domains.Uint64 h = refl
same_domain-true (domains.User k) (domains.User m) h = ap domains.User (eqb-true k m h)
same_domain-true _ _ h = absurd (cc)

-- ---- casts

-- casting a map to the domain of its words changes nothing
pub own_word : (domain : Domain) (o : Option ℕ) → ((word : ℕ) → o ≡ Some word → IsWordOf domain word)
    → option_map (cast_of domain domain) o ≡ o
own_word domain None words = refl
own_word domain (Some word) words = ap Some (cast_own domain word (words word refl))

pub cast_word-own : (from to : Domain) (o : Option ℕ) → same_domain from to ≡ true
    → ((word : ℕ) → o ≡ Some word → IsWordOf from word) → o ≡ option_map (cast_of from to) o
cast_word-own from to o same words =
    let is : from ≡ to = same_domain-true from to same in
    rw (← is) (sym (own_word from o words))

pub cast_content-own : (from to : Domain) (c : Content) → same_domain from to ≡ true → AreWordsOf from c → (i j : ℕ)
    → c i j ≡ cast_content from to c i j
cast_content-own from to c same words i j = cast_word-own from to (c i j) same (words i j)

-- what is cast is a word of the domain to which it is cast
cast_word : (from to : Domain) (o : Option ℕ) (word : ℕ) → option_map (cast_of from to) o ≡ Some word → IsWordOf to word
cast_word from to None word is = absurd (cc)
cast_word from to (Some x) word is = let same : cast_of from to x ≡ word = cc in rw same at (IsWordOf-cast from to x)

pub cast_content-words : (from to : Domain) (c : Content) → AreWordsOf to (cast_content from to c)
cast_content-words from to c i j word is = cast_word from to (c i j) word is

pub cast_content-within : (from to : Domain) (rows cols : ℕ) (c : Content) → IsWithin rows cols c
    → IsWithin rows cols (cast_content from to c)
cast_content-within from to rows cols c within i j outside = rw (within i j outside) refl

-- ---- objects

pub empty-is_object : (domain : Domain) (shape : Shape) → IsObject (empty_object domain shape)
empty-is_object domain shape = record { within = λ i j outside. refl; words = λ i j word is. absurd (cc) }

-- a place inside a shape is inside its rows and columns
pub inside-bounds : (p : Place) (shape : Shape) → is_inside p shape ≡ true
    → (row_of p < rows_of shape) × (col_of p < cols_of shape)
inside-bounds (place.One i) (One n) h = (grind (arith, nat_tests), omega arith)
inside-bounds (place.Two i j) (Two m n) h = let parts = and_parts (nat_lt i m) (nat_lt j n) h in (grind (arith, nat_tests), grind (arith, nat_tests))
inside-bounds (place.One i) (Two m n) h = absurd (cc)
inside-bounds (place.Two i j) (One n) h = absurd (cc)

entry_within : (at : Bool) (word : ℕ) (o : Option ℕ) → at ≡ false → o ≡ None → cond at (Some word) o ≡ None
entry_within at word o apart none = rw apart none

not_there : (i j row col rows cols : ℕ) → row < rows → col < cols → (nat_lt i rows && nat_lt j cols) ≡ false
    → ((i == row) && (j == col)) ≡ false
not_there i j row col rows cols in_rows in_cols outside = grind (arith, nat_tests)

entry_word : (domain : Domain) (at : Bool) (set word : ℕ) (o : Option ℕ) → IsWordOf domain set
    → ((w : ℕ) → o ≡ Some w → IsWordOf domain w) → cond at (Some set) o ≡ Some word → IsWordOf domain word
entry_word domain true set word o small old is = let same : set ≡ word = cc in rw same at small
entry_word domain false set word o small old is = old word is

-- a map with a word at a position inside rows and columns has nothing outside these
entry-within : (c : Content) (row col word rows cols : ℕ) → IsWithin rows cols c → row < rows → col < cols
    → IsWithin rows cols (with_entry c row col word)
entry-within c row col word rows cols within low left i j outside =
    entry_within ((i == row) && (j == col)) word (c i j) (not_there i j row col rows cols low left outside) (within i j outside)

-- an object with a word of its domain at a position inside it
pub entry-is_object : (o : Object) (row col word : ℕ) → IsObject o → row < rows_of o.shape → col < cols_of o.shape
    → IsWordOf o.domain word → IsObject (record o { content = with_entry o.content row col word })
entry-is_object o row col word is low left small = record {
  within = entry-within o.content row col word (rows_of o.shape) (cols_of o.shape) is.within low left;
  words = λ i j w set. entry_word o.domain ((i == row) && (j == col)) word w (o.content i j) small (is.words i j) set;
}

-- a map with a value set at a place inside a shape has nothing outside that
pub set-within : (o : Object) (p : Place) (word : ℕ) → IsWithin (rows_of o.shape) (cols_of o.shape) o.content
    → is_inside p o.shape ≡ true
    → IsWithin (rows_of o.shape) (cols_of o.shape) (with_entry o.content (row_of p) (col_of p) word)
set-within o p word within inside =
    let bounds = inside-bounds p o.shape inside in
    entry-within o.content (row_of p) (col_of p) word (rows_of o.shape) (cols_of o.shape) within bounds.0 bounds.1

-- an object with a value set at a place inside it
pub set-is_object : (o : Object) (p : Place) (value : ℤ) → IsObject o → is_inside p o.shape ≡ true
    → IsObject (record o { content = with_entry o.content (row_of p) (col_of p) (word_of o.domain value) })
set-is_object o p value is inside =
    let bounds = inside-bounds p o.shape inside in
    entry-is_object o (row_of p) (col_of p) (word_of o.domain value) is bounds.0 bounds.1 (IsWordOf-word_of o.domain value)

removed_within : (at : Bool) (o : Option ℕ) → o ≡ None → cond at None o ≡ None
removed_within true o none = refl
removed_within false o none = none

removed_word : (at : Bool) (o : Option ℕ) (word : ℕ) → cond at None o ≡ Some word → o ≡ Some word
removed_word true o word is = absurd (cc)
removed_word false o word is = is

-- a map without the entry at a position has nothing outside what it had nothing outside
without-within : (c : Content) (row col rows cols : ℕ) → IsWithin rows cols c
    → IsWithin rows cols (without_entry c row col)
without-within c row col rows cols within i j outside = removed_within ((i == row) && (j == col)) (c i j) (within i j outside)

-- an object without the entry at a position
pub without-is_object : (o : Object) (row col : ℕ) → IsObject o
    → IsObject (record o { content = without_entry o.content row col })
without-is_object o row col is = record {
  within = without-within o.content row col (rows_of o.shape) (cols_of o.shape) is.within;
  words = λ i j word left. is.words i j word (removed_word ((i == row) && (j == col)) (o.content i j) word left);
}

-- ..at a place
pub removed-within : (o : Object) (p : Place) → IsWithin (rows_of o.shape) (cols_of o.shape) o.content
    → IsWithin (rows_of o.shape) (cols_of o.shape) (without_entry o.content (row_of p) (col_of p))
removed-within o p within = without-within o.content (row_of p) (col_of p) (rows_of o.shape) (cols_of o.shape) within

pub removed-is_object : (o : Object) (p : Place) → IsObject o
    → IsObject (record o { content = without_entry o.content (row_of p) (col_of p) })
removed-is_object o p is = without-is_object o (row_of p) (col_of p) is

-- ---- the transpose

pub and_turned : (a b : Bool) → (a && b) ≡ false → (b && a) ≡ false
and_turned true true h = h
and_turned true false h = refl
and_turned false true h = refl
and_turned false false h = refl

transposed_as : (domain : Domain) (shape : Shape) (c : Content) → IsObject (record { domain = domain; shape = shape; content = c }) → IsObject (transposed_object (record { domain = domain; shape = shape; content = c }))
transposed_as domain (Two m n) c is = record { within = λ i j outside. is.within j i (and_turned (nat_lt i n) (nat_lt j m) outside); words = λ i j word stored. is.words j i word stored }
transposed_as domain (One n) c is = record { within = is.within; words = is.words }

pub transposed-is_object : (o : Object) → IsObject o → IsObject (transposed_object o)
transposed-is_object o is = transposed_as o.domain o.shape o.content is

-- ---- shapes

-- a vector is one column
pub vector-column : (shape : Shape) → not (is_matrix shape) ≡ true → cols_of shape ≡ 1
vector-column (One n) h = refl
vector-column (Two m n) h = absurd (cc)

pub same_shape-rows : (a b : Shape) → same_shape a b ≡ true → (rows_of a ≡ rows_of b) × (cols_of a ≡ cols_of b)
same_shape-rows (One m) (One n) h = (eqb-true m n h, refl)
same_shape-rows (Two m n) (Two k l) h = let parts = and_parts (m == k) (n == l) h in (eqb-true m k parts.0, eqb-true n l parts.1)
same_shape-rows (One m) (Two k l) h = absurd (cc)
same_shape-rows (Two m n) (One k) h = absurd (cc)
