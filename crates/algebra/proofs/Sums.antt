-- The identity on the right, and sums of words by a monoid: neither the order of the words nor the parts
-- in which they are summed matter.
use Rattle.std.proofs.Common.{◌≡◌, ℕ, zero, List, [], ◌∷◌, ◌++◌, Some, true, refl, sym, ◌∙◌, ap, arith}
use Rattle.std.specs.List.{All, concat, filter_map, fold}
use Rattle.std.specs.List.Sorted.{IsPermutation}
use Rattle.std.specs.Option.{unwrap_or}
use Rattle.std.proofs.lemmas.List.Sorted.{All-permutation, length_permutation}
use Rattle.std.proofs.lemmas.List.Sums.{fold-append}
use Rattle.algebra.proofs.Folds.{CombinesWords, fold-permutation, fold-word, put_on_start, reduce-parts}
use Rattle.algebra.proofs.Monoids.{monoid-word, monoid-commutes, monoid-associates, monoid-identity, identity-word}
use Rattle.algebra.specs.Value.{IsWordOf}
use Rattle.algebra.specs.Monoids.{identity_of, sum_of}
use Rattle.algebra.specs.Operators.{eval_of, offers, combines_by}
use Rattle.algebra.specs.declared.domain.Domain.{Domain}
use Rattle.algebra.specs.declared.kinds.MonoidKind.{MonoidKind}

-- the identity on the right changes no word
pub monoid-identity_right : (kind : MonoidKind) (d : Domain) (a : ℕ)
    → offers (combines_by kind) d ≡ true → IsWordOf d a
    → eval_of (combines_by kind) d a (identity_of kind d) ≡ a
monoid-identity_right kind d a h p =
    monoid-commutes kind d a (identity_of kind d) h p (identity-word kind d h) ∙ monoid-identity kind d a h p

monoid-laws : (kind : MonoidKind) (d : Domain) → offers (combines_by kind) d ≡ true
    → CombinesWords (IsWordOf d) (eval_of (combines_by kind) d)
monoid-laws kind d h = record {
  word = monoid-word kind d;
  commutes = λ a b p q. monoid-commutes kind d a b h p q;
  associates = λ a b c p q r. monoid-associates kind d a b c h p q r;
}

-- a fold can begin at the identity
begins_at_identity : (kind : MonoidKind) (d : Domain) (word : ℕ) (words : List ℕ)
    → offers (combines_by kind) d ≡ true → All (IsWordOf d) (word ∷ words)
    → fold (eval_of (combines_by kind) d) (identity_of kind d)
    (word ∷ words) ≡ fold (eval_of (combines_by kind) d) word words
begins_at_identity kind d word words h all =
    ap (λ first. fold (eval_of (combines_by kind) d) first words) (monoid-identity kind d word h (all zero word (omega arith)))

-- a fold from the identity is the sum, or the identity where there is no word
pub sum-from_identity : (kind : MonoidKind) (d : Domain) (words : List ℕ)
    → offers (combines_by kind) d ≡ true → All (IsWordOf d) words
    → fold (eval_of (combines_by kind) d) (identity_of kind d) words ≡ unwrap_or (sum_of kind d words)
    (identity_of kind d)
sum-from_identity kind d [] h all = refl
sum-from_identity kind d (word ∷ words) h all = begins_at_identity kind d word words h all

-- the folds of two lists, each from the identity, combine to that of one list behind the other
pub fold-two : (kind : MonoidKind) (d : Domain) (xs ys : List ℕ)
    → offers (combines_by kind) d ≡ true → All (IsWordOf d) ys
    → eval_of (combines_by kind) d
    (fold (eval_of (combines_by kind) d) (identity_of kind d) xs)
    (fold (eval_of (combines_by kind) d) (identity_of kind d) ys)
    ≡ fold (eval_of (combines_by kind) d) (identity_of kind d) (xs ++ ys)
fold-two kind d xs ys h all =
    let f = eval_of (combines_by kind) d in
    let start = identity_of kind d in
    let laws = monoid-laws kind d h in
    let word = identity-word kind d h in
    let sum = fold-word (IsWordOf d) f laws xs start word in
    put_on_start (IsWordOf d) f laws ys (fold f start xs) start sum word all
    ∙ ap (λ first. fold f first ys) (monoid-identity_right kind d (fold f start xs) h sum)
    ∙ sym (fold-append f start xs ys)

-- a sum of words is a word
pub sum-word : (kind : MonoidKind) (d : Domain) (word : ℕ) (words : List ℕ) (sum : ℕ)
    → offers (combines_by kind) d ≡ true → IsWordOf d word → sum_of kind d (word ∷ words) ≡ Some sum → IsWordOf d sum
sum-word kind d word words sum h p e =
    let small = fold-word (IsWordOf d) (eval_of (combines_by kind) d) (monoid-laws kind d h) words word p in
    let same : fold (eval_of (combines_by kind) d) word words ≡ sum = cc in
    rw same at small

-- words in another order have the same sum
pub sum-permutation : (kind : MonoidKind) (d : Domain) (xs ys : List ℕ)
    → offers (combines_by kind) d ≡ true → IsPermutation xs ys → All (IsWordOf d) xs
    → sum_of kind d ys ≡ sum_of kind d xs
sum-permutation kind d [] [] h permutes all = refl
sum-permutation kind d [] (y ∷ ys) h permutes all = let none = length_permutation [] (y ∷ ys) permutes in absurd (omega arith)
sum-permutation kind d (x ∷ xs) [] h permutes all = let none = length_permutation (x ∷ xs) [] permutes in absurd (omega arith)
sum-permutation kind d (x ∷ xs) (y ∷ ys) h permutes all =
    let transposed = All-permutation (IsWordOf d) (x ∷ xs) (y ∷ ys) permutes all in
    let same = fold-permutation (IsWordOf d) (eval_of (combines_by kind) d) (monoid-laws kind d h) (x ∷ xs) (y ∷ ys) (identity_of kind d) permutes all (identity-word kind d h) in
    ap Some (sym (begins_at_identity kind d y ys h transposed) ∙ same ∙ begins_at_identity kind d x xs h all)

-- the sum of the sums of parts is the sum of the whole
pub sum-parts : (kind : MonoidKind) (d : Domain) (parts : List (List ℕ))
    → offers (combines_by kind) d ≡ true → All (All (IsWordOf d)) parts
    → sum_of kind d (filter_map (sum_of kind d) parts) ≡ sum_of kind d (concat parts)
sum-parts kind d parts h all = reduce-parts (IsWordOf d) (eval_of (combines_by kind) d) (monoid-laws kind d h) parts all
