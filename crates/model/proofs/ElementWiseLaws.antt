-- Laws of what goes position by position, and of sums.
use Rattle.std.proofs.Common.{◌≡◌, ◌∙◌, ◌==◌, ℕ, Bool, true, false, cond, not, List, [], ◌∷◌, ◌++◌, map, Option, Some, None, refl, sym, ap, ℤ, pos, ◌+ℤ◌, int_le, arith}
use Rattle.std.specs.List.{All, concat, cons_option, filter_map, flat_map}
use Rattle.std.proofs.lemmas.List.Elements.{All-cons, All-nil}
use Rattle.std.specs.Option.{option_and_then, unwrap_or}
use Rattle.std.proofs.lemmas.Int.{ints}
use Rattle.algebra.proofs.Casts.{value_of-word_of}
use Rattle.algebra.proofs.Sums.{sum-parts}
use Rattle.algebra.specs.declared.domain.Domain.{Domain}
use Rattle.algebra.specs.declared.domain.Domain.TheVariants.{Bool as Boolean, Int64}
use Rattle.algebra.specs.declared.kinds.IndexKind.TheVariants.{Tril, Triu}
use Rattle.algebra.specs.declared.operator_names.IndexName.{IndexName}
use Rattle.algebra.specs.declared.operator_names.MonoidName.{MonoidName}
use Rattle.algebra.specs.declared.operator_names.OpName.{OpName}
use Rattle.algebra.specs.IndexOperators.{passes}
use Rattle.algebra.specs.Monoids.{identity_of, sum_of}
use Rattle.algebra.specs.Operators.{combines_by, eval_of, offers, truth}
use Rattle.algebra.specs.Value.{IsWordOf, cast_of, is_value_of, word_of}
use Rattle.model.specs.declared.shape.Shape.TheVariants.{One}
use Rattle.model.specs.ElementWise.{eval_cast, intersection, of_both, of_either, selected, union}
use Rattle.model.specs.Entries.{below, count_from}
use Rattle.model.specs.Object.{Object, cols_of, in_domain, rows_of}
use Rattle.model.specs.Reductions.{all_words, row_sums, row_words, sum_in}
use Rattle.model.proofs.ObjectLaws.{own_word}
use Rattle.model.proofs.OperationLaws.{summed-word}
use Rattle.model.proofs.StoredLaws.{row_words-domain}

-- ---- operands exchanged

-- whether an operator gives the same for its operands either way
abbrev pub Commutes : OpName → Type 0
Commutes op = (x y : ℕ) → eval_of op.kind op.domain x y ≡ eval_of op.kind op.domain y x

either_way : (f g : ℕ → ℕ) (h k : ℕ → ℕ → ℕ) (x y : Option ℕ) → ((v w : ℕ) → h v w ≡ k w v)
    → of_either f g h x y ≡ of_either g f k y x
either_way f g h k None None same = refl
either_way f g h k (Some x) None same = refl
either_way f g h k None (Some y) same = refl
either_way f g h k (Some x) (Some y) same = ap Some (same x y)

both_ways : (h k : ℕ → ℕ → ℕ) (x y : Option ℕ) → ((v w : ℕ) → h v w ≡ k w v) → of_both h x y ≡ of_both k y x
both_ways h k None None same = refl
both_ways h k (Some x) None same = refl
both_ways h k None (Some y) same = refl
both_ways h k (Some x) (Some y) same = ap Some (same x y)

exchanged : (op : OpName) (a b : Object) → Commutes op → (x y : ℕ) → eval_cast op a b x y ≡ eval_cast op b a y x
exchanged op a b commutes x y = commutes (cast_of a.domain op.domain x) (cast_of b.domain op.domain y)

-- a union and an intersection commute where the operator does
pub union-commutes : (op : OpName) (a b : Object) → Commutes op → (i j : ℕ) → union op a b i j ≡ union op b a i j
union-commutes op a b commutes i j = either_way _ _ (eval_cast op a b) (eval_cast op b a) (a.content i j) (b.content i j) (exchanged op a b commutes)

pub intersection-commutes : (op : OpName) (a b : Object) → Commutes op → (i j : ℕ)
    → intersection op a b i j ≡ intersection op b a i j
intersection-commutes op a b commutes i j = both_ways (eval_cast op a b) (eval_cast op b a) (a.content i j) (b.content i j) (exchanged op a b commutes)

-- ---- the lower and the upper triangle

-- what isn't at most y is at least the number behind it
next_le : (x y : ℤ) → int_le (y +ℤ pos 1) x ≡ not (int_le x y)
next_le x y =
    let tests : (p q : Bool) → int_le (y +ℤ pos 1) x ≡ p → int_le x y ≡ q → p ≡ not q = λ p q. elim p as (λ p. int_le (y +ℤ pos 1) x ≡ p → int_le x y ≡ q → p ≡ not q) [
      | true ↦ elim q as (λ q. int_le (y +ℤ pos 1) x ≡ true → int_le x y ≡ q → true ≡ not q) [ true ↦ λ above low. absurd (omega (arith, ints)) | false ↦ λ above low. refl ]
      | false ↦ elim q as (λ q. int_le (y +ℤ pos 1) x ≡ false → int_le x y ≡ q → false ≡ not q) [ true ↦ λ above low. refl | false ↦ λ above low. absurd (omega (arith, ints)) ]
    ] in
    tests (int_le (y +ℤ pos 1) x) (int_le x y) refl refl

later : (i s : ℤ) → (i +ℤ s) +ℤ pos 1 ≡ i +ℤ (s +ℤ pos 1)
later i s = omega (arith, ints)

abbrev pub tril : IndexName
tril = record { kind = Tril; domain = Int64 }

abbrev pub triu : IndexName
triu = record { kind = Triu; domain = Int64 }

told : (t : Bool) → (cast_of Boolean Boolean (word_of Boolean (truth t)) == 1) ≡ t
told true = refl
told false = refl

passes_tril : (a i j : ℕ) (s : ℤ) → is_value_of Int64 s ≡ true
    → passes Tril Int64 a i j (word_of Int64 s) ≡ int_le (pos j) (pos i +ℤ s)
passes_tril a i j s is =
    ap (λ (z : ℤ). cast_of Boolean Boolean (word_of Boolean (truth (int_le (pos j) (pos i +ℤ z)))) == 1) (value_of-word_of Int64 s is) ∙ told (int_le (pos j) (pos i +ℤ s))

passes_triu : (a i j : ℕ) (s : ℤ) → is_value_of Int64 s ≡ true
    → passes Triu Int64 a i j (word_of Int64 s) ≡ int_le (pos i +ℤ s) (pos j)
passes_triu a i j s is =
    ap (λ (z : ℤ). cast_of Boolean Boolean (word_of Boolean (truth (int_le (pos i +ℤ z) (pos j)))) == 1) (value_of-word_of Int64 s is) ∙ told (int_le (pos i +ℤ s) (pos j))

kept_all : (test : ℕ → Bool) (t : Bool) (o : Option ℕ) → ((word : ℕ) → test word ≡ t)
    → option_and_then (λ word. cond (test word) (Some word) None) o ≡ cond t o None
kept_all test true None same = refl
kept_all test false None same = refl
kept_all test t (Some word) same = ap (λ b. cond b (Some word) None) (same word)

other_side : (t : Bool) (o : Option ℕ) → cond (not t) o None ≡ cond t None o
other_side true o = refl
other_side false o = refl

-- of an entry the lower triangle up to a diagonal has it, or the upper one from the next diagonal on, and never both
pub record ArePartedAt (s : ℤ) (a : Object) (i j : ℕ) : Type 0 where
  pub is_low : Bool
  pub lower : selected tril s a i j ≡ cond is_low (a.content i j) None
  pub upper : selected triu (s +ℤ pos 1) a i j ≡ cond is_low None (a.content i j)

pub triangles-part : (s : ℤ) (a : Object) → is_value_of Int64 s ≡ true → is_value_of Int64 (s +ℤ pos 1) ≡ true
    → (i j : ℕ) → ArePartedAt s a i j
triangles-part s a fits next_fits i j =
    let low = int_le (pos j) (pos i +ℤ s) in
    let above : int_le (pos i +ℤ (s +ℤ pos 1)) (pos j) ≡ not low = ap (λ (z : ℤ). int_le z (pos j)) (sym (later (pos i) s)) ∙ next_le (pos j) (pos i +ℤ s) in
    record {
      is_low = low;
      lower = kept_all _ low (a.content i j) (λ word. passes_tril (cast_of a.domain Int64 word) i j s fits);
      upper = kept_all _ (not low) (a.content i j) (λ word. passes_triu (cast_of a.domain Int64 word) i j (s +ℤ pos 1) next_fits ∙ above) ∙ other_side low (a.content i j);
    }

-- ---- sums

-- the sums of an object's rows, as a vector
abbrev pub sums_of_rows : MonoidName → Object → Object
sums_of_rows monoid o = record {
  domain = monoid.domain;
  shape = One (rows_of o.shape);
  content = row_sums monoid (cols_of o.shape) (in_domain monoid.domain o);
}

flat_single : (h : ℕ → Option ℕ) (f : ℕ → List ℕ) (xs : List ℕ) → ((x : ℕ) → f x ≡ cons_option (h x) [])
    → flat_map f xs ≡ filter_map h xs
flat_single h f [] same = refl
flat_single h f (x ∷ xs) same =
    ap (λ ws. ws ++ flat_map f xs) (same x) ∙ ap (λ ws. cons_option (h x) [] ++ ws) (flat_single h f xs same)
    ∙ elim (h x) as (λ o. cons_option o [] ++ filter_map h xs ≡ cons_option o (filter_map h xs)) [ None ↦ refl | Some y ↦ refl ]

sums_each : {A : Type 0} (f : A → List ℕ) (g : List ℕ → Option ℕ) (xs : List A)
    → filter_map (λ x. g (f x)) xs ≡ filter_map g (map f xs)
sums_each f g [] = refl
sums_each f g (x ∷ xs) = ap (cons_option (g (f x))) (sums_each f g xs)

concat_map : {A : Type 0} (f : A → List ℕ) (xs : List A) → concat (map f xs) ≡ flat_map f xs
concat_map f [] = refl
concat_map f (x ∷ xs) = ap (λ ws. f x ++ ws) (concat_map f xs)

rows_are : (d : Domain) (cols : ℕ) (a : Object) (is : List ℕ)
    → All (All (IsWordOf d)) (map (row_words cols (in_domain d a)) is)
rows_are d cols a [] = All-nil (All (IsWordOf d))
rows_are d cols a (i ∷ is) =
    All-cons (All (IsWordOf d)) (row_words cols (in_domain d a) i) (map (row_words cols (in_domain d a)) is) (row_words-domain d cols a i) (rows_are d cols a is)

-- the sum of all values is the sum of the sums of the rows
pub sum-of_rows : (monoid : MonoidName) (o : Object) → offers (combines_by monoid.kind) monoid.domain ≡ true
    → sum_in monoid (sums_of_rows monoid o) ≡ sum_in monoid o
unfolding count_from
sum-of_rows monoid o offered =
    let d = monoid.domain in
    let rows = rows_of o.shape in
    let cols = cols_of o.shape in
    let row = row_words cols (in_domain d o) in
    let sum = sum_of monoid.kind d in
    let parts = map row (below rows) in
    let single : (i : ℕ) → row_words 1 (in_domain d (sums_of_rows monoid o)) i ≡ cons_option (sum (row i)) [] =
    λ i. ap (λ o. cons_option o []) (own_word d (sum (row i)) (λ word is. summed-word monoid (row i) word offered (row_words-domain d cols o i) is)) in
    let words : all_words rows 1 (in_domain d (sums_of_rows monoid o)) ≡ filter_map sum parts =
    flat_single (λ i. sum (row i)) (row_words 1 (in_domain d (sums_of_rows monoid o))) (below rows) single ∙ sums_each row sum (below rows) in
    ap (λ ws. unwrap_or (sum ws) (identity_of monoid.kind d)) words
    ∙ ap (λ total. unwrap_or total (identity_of monoid.kind d)) (sum-parts monoid.kind d parts offered (rows_are d cols o (below rows)))
    ∙ ap (λ ws. unwrap_or (sum ws) (identity_of monoid.kind d)) (concat_map row (below rows))
