-- Operators with exchanged operands, and products with exchanged factors.
use Rattle.std.proofs.Common.{◌≡◌, ◌∙◌, ℕ, ℤ, pos, ◌&&◌, not, Option, Some, None, refl, sym, ap, subst, arith}
use Rattle.std.specs.Prelude.{int_lt, ◌-◌, ◌^◌}
use Rattle.std.specs.Int.{int_max, int_min}
use Rattle.std.specs.List.{filter_map}
use Rattle.std.specs.Option.{IfSome}
use Rattle.std.proofs.Math.Bool.{and_comm}
use Rattle.std.proofs.Math.IntN.{*ℤ_comm, +ℤ_comm}
use Rattle.std.proofs.lemmas.Int.{clamps, ints}
use Rattle.std.proofs.lemmas.Nat as bits
use Rattle.algebra.specs.declared.domain.Domain.{Domain}
use Rattle.algebra.specs.declared.kinds.BinaryKind.{BinaryKind}
use Rattle.algebra.specs.declared.kinds.BinaryKind.TheVariants as binary
use Rattle.algebra.specs.declared.operator_names.SemiringName.{SemiringName}
use Rattle.algebra.specs.Monoids as monoids
use Rattle.algebra.specs.Operators.{answer_domain, combines_by, eval_of, formula, int_equal, offers, offers_semiring, truth}
use Rattle.algebra.specs.Value.{residue, value_of, word_of}
use Rattle.calls.specs.Turned.{flipped_kind, multiplying_by}
use Rattle.model.specs.Entries.{below}
use Rattle.model.specs.Object.{Content, transposed_content}
use Rattle.model.specs.Product.{product, product_of, sum_domain, sum_of, terms}

-- ---- operators

-- an operator gives what another gives for exchanged operands, and is there on the same domains
pub record TakesExchanged (kind flipped : BinaryKind) : Type 0 where
  pub formulas : (x y : ℤ) → formula flipped x y ≡ formula kind y x
  pub answer : (domain : Domain) → answer_domain flipped domain ≡ answer_domain kind domain
  pub offered : (domain : Domain) → offers flipped domain ≡ offers kind domain

commutes : (kind : BinaryKind) → ((x y : ℤ) → formula kind x y ≡ formula kind y x) → TakesExchanged kind kind
commutes kind same = record { formulas = same; answer = λ d. refl; offered = λ d. refl }

min_comm : (x y : ℤ) → int_min x y ≡ int_min y x
min_comm x y = omega (arith, ints, clamps)

max_comm : (x y : ℤ) → int_max x y ≡ int_max y x
max_comm x y = omega (arith, ints, clamps)

equal_comm : (x y : ℤ) → int_equal x y ≡ int_equal y x
equal_comm x y = and_comm (not (int_lt x y)) (not (int_lt y x))

partner : (kind : BinaryKind) → IfSome (flipped_kind kind) (TakesExchanged kind)
partner binary.First = record { formulas = λ x y. refl; answer = λ d. refl; offered = λ d. refl }
partner binary.Second = record { formulas = λ x y. refl; answer = λ d. refl; offered = λ d. refl }
partner binary.Gt = record { formulas = λ x y. refl; answer = λ d. refl; offered = λ d. refl }
partner binary.Lt = record { formulas = λ x y. refl; answer = λ d. refl; offered = λ d. refl }
partner binary.Ge = record { formulas = λ x y. refl; answer = λ d. refl; offered = λ d. refl }
partner binary.Le = record { formulas = λ x y. refl; answer = λ d. refl; offered = λ d. refl }
partner binary.Minus = tt
partner binary.Oneb = commutes binary.Oneb (λ x y. refl)
partner binary.Min = commutes binary.Min min_comm
partner binary.Max = commutes binary.Max max_comm
partner binary.Plus = commutes binary.Plus +ℤ_comm
partner binary.Times = commutes binary.Times *ℤ_comm
partner binary.Eq = commutes binary.Eq (λ x y. ap truth (equal_comm x y))
partner binary.Ne = commutes binary.Ne (λ x y. ap (λ b. truth (not b)) (equal_comm x y))
partner binary.Lor = commutes binary.Lor max_comm
partner binary.Land = commutes binary.Land min_comm
partner binary.Lxor = commutes binary.Lxor (λ x y. ap (λ b. truth (not b)) (equal_comm x y))
partner binary.Lxnor = commutes binary.Lxnor (λ x y. ap truth (equal_comm x y))
partner binary.Bor = commutes binary.Bor (λ x y. ap pos (bits.or_comm (residue x) (residue y)))
partner binary.Band = commutes binary.Band (λ x y. ap pos (bits.and_comm (residue x) (residue y)))
partner binary.Bxor = commutes binary.Bxor (λ x y. ap pos (bits.xor_comm (residue x) (residue y)))
partner binary.Bxnor = commutes binary.Bxnor (λ x y. ap (λ n. pos (2 ^ 64 - 1 - n)) (bits.xor_comm (residue x) (residue y)))

pub flipped-kind : (kind flipped : BinaryKind) → flipped_kind kind ≡ Some flipped → TakesExchanged kind flipped
flipped-kind kind flipped is = subst (λ o. IfSome o (TakesExchanged kind)) is (partner kind)

-- ..for all words
pub flipped-word : (kind flipped : BinaryKind) → flipped_kind kind ≡ Some flipped → (d : Domain) (x y : ℕ)
    → eval_of flipped d x y ≡ eval_of kind d y x
flipped-word kind flipped is d x y =
    let takes = flipped-kind kind flipped is in
    ap (λ answer. word_of answer (formula flipped (value_of d x) (value_of d y))) (takes.answer d)
    ∙ ap (word_of (answer_domain kind d)) (takes.formulas (value_of d x) (value_of d y))

-- ---- products

module _ (semiring : SemiringName) (kind : BinaryKind) (is : flipped_kind semiring.multiply ≡ Some kind) where
  abbrev flipped : SemiringName
  flipped = multiplying_by semiring kind

  -- the sums are of one domain
  pub flipped-domain : sum_domain flipped ≡ sum_domain semiring
  flipped-domain = (flipped-kind semiring.multiply kind is).answer semiring.domain

  -- it is there where the other is
  pub flipped-offered : offers_semiring flipped.add flipped.multiply flipped.domain
      ≡ offers_semiring semiring.add semiring.multiply semiring.domain
  flipped-offered = λ t. (flipped-kind semiring.multiply kind is).offered semiring.domain t && offers (combines_by semiring.add) (flipped-domain t)

  factors_exchanged : (a b : Option ℕ) → product_of semiring a b ≡ product_of flipped b a
  factors_exchanged None None = refl
  factors_exchanged None (Some y) = refl
  factors_exchanged (Some x) None = refl
  factors_exchanged (Some x) (Some y) = ap Some (sym (flipped-word semiring.multiply kind is semiring.domain y x))

  terms_exchanged : (n : ℕ) (a b : Content) (i j : ℕ)
      → terms semiring n a b i j ≡ terms flipped n (transposed_content b) (transposed_content a) j i
  terms_exchanged n a b i j = λ t. filter_map (λ k. factors_exchanged (a i k) (b k j) t) (below n)

  -- the product transposed is the product of the transposed factors in exchanged order
  pub product-flipped : (n : ℕ) (a b : Content) (i j : ℕ)
      → product semiring n a b i j ≡ product flipped n (transposed_content b) (transposed_content a) j i
  unfolding product
  product-flipped n a b i j =
      ap (sum_of semiring) (terms_exchanged n a b i j)
      ∙ ap (λ (d : Domain). monoids.sum_of semiring.add d (terms flipped n (transposed_content b) (transposed_content a) j i)) (sym flipped-domain)
