-- What is built of tuples lies inside the shape that they do, and is of words of the domain.
use Rattle.std.proofs.Common.{◌≡◌, ℕ, ◌==◌, ◌&&◌, ◌<◌, true, false, List, [], ◌∷◌, map, fold, Option, Some, None, refl, subst, inl, inr, arith}
use Rattle.std.specs.Prelude.{nat_lt}
use Rattle.std.specs.List.{All}
use Rattle.std.specs.Option.{option_map_or}
use Rattle.std.proofs.lemmas.Bool.{and_parts, cases_Bool}
use Rattle.std.proofs.lemmas.Bool.Decides.{nat_tests}
use Rattle.std.proofs.lemmas.List.Elements.{All-cons, All-head, All-nil, All-tail}
use Rattle.algebra.proofs.Casts.{IsWordOf-word_of}
use Rattle.algebra.proofs.Words.{IsWordOf-eval}
use Rattle.algebra.specs.declared.domain.Domain.{Domain}
use Rattle.algebra.specs.declared.operator_names.OpName.{OpName}
use Rattle.algebra.specs.Operators.{answer_domain, eval_of, offers}
use Rattle.algebra.specs.Value.{IsWordOf, same_domain}
use Rattle.model.specs.declared.shape.Shape.{Shape}
use Rattle.model.specs.declared.tuples.Tuple.{Tuple}
use Rattle.model.specs.Builds.{are_inside, built, entry_of, joined, joined_all, words_at}
use Rattle.model.specs.Fault.{accumulates}
use Rattle.model.specs.Object.{AreWordsOf, IsObject, IsWithin, Object, col_of, cols_of, is_inside, row_of, rows_of}
use Rattle.model.proofs.ObjectLaws.{inside-bounds, same_domain-true}

-- ---- inside

both_below : (i j row col m n : ℕ) → ((i == row) && (j == col)) ≡ true → row < m → col < n
    → (nat_lt i m && nat_lt j n) ≡ true
both_below i j row col m n is low_row low_col =
    let parts = and_parts (i == row) (j == col) is in
    let first : nat_lt i m ≡ true = grind (arith, nat_tests) in
    let second : nat_lt j n ≡ true = grind (arith, nat_tests) in
    rw (first, second) refl

-- tuples inside a shape list nothing outside it
unlisted : (domain : Domain) (shape : Shape) (tuples : List Tuple) (i j : ℕ) → are_inside shape tuples ≡ true
    → (nat_lt i (rows_of shape) && nat_lt j (cols_of shape)) ≡ false
    → words_at (map (entry_of domain) tuples) i j ≡ []
unlisted domain shape [] i j inside outside = refl
unlisted domain shape (t ∷ tuples) i j inside outside =
    let parts = and_parts (is_inside t.place shape) (are_inside shape tuples) inside in
    let bounds = inside-bounds t.place shape parts.0 in
    let here = (i == row_of t.place) && (j == col_of t.place) in
    elim (cases_Bool here) [
      | inl is ↦
          let low = both_below i j (row_of t.place) (col_of t.place) (rows_of shape) (cols_of shape) is bounds.0 bounds.1 in
          absurd (cc)
      | inr other ↦ rw other (unlisted domain shape tuples i j parts.1 outside)
    ]

pub built-within : (dup : Option OpName) (domain : Domain) (shape : Shape) (tuples : List Tuple)
    → are_inside shape tuples ≡ true
    → IsWithin (rows_of shape) (cols_of shape) (built dup domain tuples)
built-within dup domain shape tuples inside i j outside = rw (unlisted domain shape tuples i j inside outside) refl

-- ---- words

listed-words : (domain : Domain) (tuples : List Tuple) (i j : ℕ)
    → All (IsWordOf domain) (words_at (map (entry_of domain) tuples) i j)
listed-words domain [] i j = All-nil (IsWordOf domain)
listed-words domain (t ∷ tuples) i j =
    let here = (i == row_of t.place) && (j == col_of t.place) in
    elim (cases_Bool here) [
      | inl is ↦ rw is (All-cons (IsWordOf domain) _ _ (IsWordOf-word_of domain t.value) (listed-words domain tuples i j))
      | inr other ↦ rw other (listed-words domain tuples i j)
    ]

-- the operator, where there is one, gives words of the domain
abbrev JoinsIn : Domain → Option OpName → Type 0
JoinsIn domain None = Unit {0}
JoinsIn domain (Some op) = answer_domain op.kind op.domain ≡ domain

joined-word : (domain : Domain) (dup : Option OpName) (x y : ℕ) → JoinsIn domain dup → IsWordOf domain y
    → IsWordOf domain (joined dup x y)
joined-word domain None x y joins is = is
joined-word domain (Some op) x y joins is = subst (λ (d : Domain). IsWordOf d (eval_of op.kind op.domain x y)) joins (IsWordOf-eval op.kind op.domain x y)

fold-word : (domain : Domain) (dup : Option OpName) (x : ℕ) (xs : List ℕ) → JoinsIn domain dup → IsWordOf domain x
    → All (IsWordOf domain) xs → IsWordOf domain (fold (joined dup) x xs)
fold-word domain dup x [] joins is all = is
fold-word domain dup x (y ∷ ys) joins is all =
    fold-word domain dup (joined dup x y) ys joins (joined-word domain dup x y joins (All-head (IsWordOf domain) y ys all)) (All-tail (IsWordOf domain) y ys all)

joined_all-word : (domain : Domain) (dup : Option OpName) (words : List ℕ) (word : ℕ) → JoinsIn domain dup
    → All (IsWordOf domain) words → joined_all dup words ≡ Some word → IsWordOf domain word
joined_all-word domain dup [] word joins all is = absurd (cc)
joined_all-word domain dup (x ∷ xs) word joins all is =
    let same : fold (joined dup) x xs ≡ word = cc in
    rw same at (fold-word domain dup x xs joins (All-head (IsWordOf domain) x xs all) (All-tail (IsWordOf domain) x xs all))

dup_joins : (domain : Domain) (dup : Option OpName) → option_map_or (accumulates domain) dup true ≡ true
    → JoinsIn domain dup
dup_joins domain None h = tt
dup_joins domain (Some op) h =
    same_domain-true (answer_domain op.kind op.domain) domain
    (and_parts (offers op.kind op.domain && same_domain op.domain domain) (same_domain (answer_domain op.kind op.domain) domain) h).1

pub built-words : (dup : Option OpName) (domain : Domain) (tuples : List Tuple)
    → option_map_or (accumulates domain) dup true ≡ true → AreWordsOf domain (built dup domain tuples)
built-words dup domain tuples accumulates_in i j word is =
    joined_all-word domain dup (words_at (map (entry_of domain) tuples) i j) word (dup_joins domain dup accumulates_in) (listed-words domain tuples i j) is

pub built-is_object : (o : Object) (dup : Option OpName) (tuples : List Tuple)
    → option_map_or (accumulates o.domain) dup true ≡ true → are_inside o.shape tuples ≡ true
    → IsObject (record o { content = built dup o.domain tuples })
built-is_object o dup tuples accumulates_in inside = record {
  within = built-within dup o.domain o.shape tuples inside;
  words = built-words dup o.domain tuples accumulates_in;
}
