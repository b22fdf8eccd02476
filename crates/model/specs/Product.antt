-- The product of two matrices over a semiring (GrB_mxm).
use Rattle.std.specs.Prelude.{ℕ, List, Option}
use Rattle.std.specs.Option.{option_map, option_and_then}
use Rattle.std.specs.List.{filter_map}
use Rattle.algebra.specs.declared.domain.Domain.{Domain}
use Rattle.algebra.specs.Monoids as monoids
use Rattle.algebra.specs.Operators.{eval_of, answer_domain, combines_by}
use Rattle.algebra.specs.declared.operator_names.SemiringName.{SemiringName}
use Rattle.model.specs.Entries.{below}
use Rattle.model.specs.Object.{Content}

-- the domain of a semiring's sums
abbrev pub sum_domain : SemiringName → Domain
sum_domain semiring = answer_domain semiring.multiply semiring.domain

-- a word plus a word, and a word times a word
abbrev pub add_of : SemiringName → ℕ → ℕ → ℕ
add_of semiring = eval_of (combines_by semiring.add) (sum_domain semiring)

abbrev pub multiply_of : SemiringName → ℕ → ℕ → ℕ
multiply_of semiring = eval_of semiring.multiply semiring.domain

-- the sum of words by the semiring's monoid, in order; there is none of no words
abbrev pub sum_of : SemiringName → List ℕ → Option ℕ
sum_of semiring words = monoids.sum_of semiring.add (sum_domain semiring) words

-- a times b, where both are there
abbrev pub product_of : SemiringName → Option ℕ → Option ℕ → Option ℕ
product_of semiring a b = option_and_then (λ x. option_map (multiply_of semiring x) b) a

-- what is summed at row i and column j: A(i, k) times B(k, j) for each k below n that has both, in rising k
abbrev pub terms : SemiringName → ℕ → Content → Content → ℕ → ℕ → List ℕ
terms semiring n a b i j = filter_map (λ k. product_of semiring (a i k) (b k j)) (below n)

-- the product of A with n columns and B with n rows: there is a value exactly where some k has both
unfoldable pub product : SemiringName → ℕ → Content → Content → Content
product semiring n a b i j = sum_of semiring (terms semiring n a b i j)
