-- Products, one term after the other, what they have outside the shape, and their words.
use Rattle.std.proofs.Common.{◌≡◌, ℕ, ◌∷◌, true, List, [], Option, Some, None, refl, ap}
use Rattle.std.specs.List.{cons_option, filter_map}
use Rattle.algebra.proofs.Sums.{sum-word}
use Rattle.algebra.proofs.Words.{IsWordOf-eval}
use Rattle.algebra.specs.declared.operator_names.SemiringName.{SemiringName}
use Rattle.algebra.specs.Operators.{combines_by, offers}
use Rattle.algebra.specs.Value.{IsWordOf}
use Rattle.model.specs.Entries.{below}
use Rattle.model.specs.Object.{AreWordsOf, Content}
use Rattle.model.specs.Product.{multiply_of, product, product_of, sum_domain, sum_of, terms}

-- ---- where there is no term

filter_map-none : {Y : Type 0} (h : ℕ → Option Y) (ks : List ℕ) → ((k : ℕ) → h k ≡ None) → filter_map h ks ≡ []
filter_map-none h [] none = refl
filter_map-none h (k ∷ ks) none = rw (none k) (filter_map-none h ks none)

pub product-none : (semiring : SemiringName) (n : ℕ) (a b : Content) (i j : ℕ)
    → ((k : ℕ) → product_of semiring (a i k) (b k j) ≡ None) → product semiring n a b i j ≡ None
unfolding product
product-none semiring n a b i j none = ap (sum_of semiring) (filter_map-none (λ k. product_of semiring (a i k) (b k j)) (below n) none)

pub times-none : (semiring : SemiringName) (a : Option ℕ) → product_of semiring a None ≡ None
times-none semiring None = refl
times-none semiring (Some x) = refl

-- nothing in the row of the first
pub product-no_row : (semiring : SemiringName) (n : ℕ) (a b : Content) (i j : ℕ) → ((k : ℕ) → a i k ≡ None)
    → product semiring n a b i j ≡ None
product-no_row semiring n a b i j none = product-none semiring n a b i j (λ k. rw (none k) refl)

-- nothing in the column of the second
pub product-no_col : (semiring : SemiringName) (n : ℕ) (a b : Content) (i j : ℕ) → ((k : ℕ) → b k j ≡ None)
    → product semiring n a b i j ≡ None
product-no_col semiring n a b i j none = product-none semiring n a b i j (λ k. rw (none k) (times-none semiring (a i k)))

-- ---- the sums are words

term_word : (semiring : SemiringName) (a b : Option ℕ) (t : ℕ) → product_of semiring a b ≡ Some t
    → IsWordOf (sum_domain semiring) t
term_word semiring None b t is = absurd (cc)
term_word semiring (Some x) None t is = absurd (cc)
term_word semiring (Some x) (Some y) t is =
    let same : multiply_of semiring x y ≡ t = cc in
    rw same at (IsWordOf-eval semiring.multiply semiring.domain x y)

sum_word : (semiring : SemiringName) (words : List ℕ) (sum : ℕ)
    → offers (combines_by semiring.add) (sum_domain semiring) ≡ true
    → ((word : ℕ) (words' : List ℕ) → words ≡ word ∷ words' → IsWordOf (sum_domain semiring) word)
    → sum_of semiring words ≡ Some sum → IsWordOf (sum_domain semiring) sum
sum_word semiring [] sum offered first is = absurd (cc)
sum_word semiring (word ∷ words) sum offered first is = sum-word semiring.add (sum_domain semiring) word words sum offered (first word words refl) is

first_term : (semiring : SemiringName) (a b : ℕ → Option ℕ) (ks : List ℕ) (word : ℕ) (words : List ℕ)
    → filter_map (λ k. product_of semiring (a k) (b k)) ks ≡ word ∷ words → IsWordOf (sum_domain semiring) word
first_term semiring a b [] word words is = absurd (cc)
first_term semiring a b (k ∷ ks) word words is =
    let found : (t : Option ℕ) → product_of semiring (a k) (b k) ≡ t → cons_option t (filter_map (λ k. product_of semiring (a k) (b k)) ks) ≡ word ∷ words → IsWordOf (sum_domain semiring) word =
    λ t. elim t as (λ t. product_of semiring (a k) (b k) ≡ t → cons_option t (filter_map (λ k. product_of semiring (a k) (b k)) ks) ≡ word ∷ words → IsWordOf (sum_domain semiring) word) [
      | None ↦ λ none rest. first_term semiring a b ks word words rest
      | Some x ↦ λ some rest. let same : x ≡ word = cc in term_word semiring (a k) (b k) word (rw same at some)
    ] in
    found (product_of semiring (a k) (b k)) refl is

-- a product's words are words of the domain of its sums
pub product-words : (semiring : SemiringName) (n : ℕ) (a b : Content)
    → offers (combines_by semiring.add) (sum_domain semiring) ≡ true
    → AreWordsOf (sum_domain semiring) (product semiring n a b)
unfolding product
product-words semiring n a b offered i j word is =
    sum_word semiring (terms semiring n a b i j) word offered (λ first others same. first_term semiring (λ k. a i k) (λ k. b k j) (below n) first others same) is
