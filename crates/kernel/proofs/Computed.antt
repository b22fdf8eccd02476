-- What each kernel makes of the stores of lent objects is what an operation computes of these objects.
use Rattle.std.proofs.Common.{◌≡◌, ◌∙◌, ◌==◌, ℕ, true, cond, List, [], ◌∷◌, map, Option, None, refl, sym, ap, ℤ}
use Rattle.std.specs.List.{All}
use Rattle.std.proofs.lemmas.Bool.{and_parts, eqb-true}
use Rattle.algebra.specs.declared.binary.BinaryOp.{BinaryOp}
use Rattle.algebra.specs.declared.functions.FunctionName.{FunctionName}
use Rattle.algebra.specs.declared.index.IndexOp.{IndexOp}
use Rattle.algebra.specs.declared.monoid.Monoid.{Monoid}
use Rattle.algebra.specs.declared.operator_names.SemiringName.{SemiringName}
use Rattle.algebra.specs.Functions.{function_domain, takes}
use Rattle.algebra.specs.IndexOperators.{scalar_domain, takes_index}
use Rattle.algebra.specs.OperatorNames.{index_named, monoid_named, op_named}
use Rattle.algebra.specs.Monoids.{sum_of}
use Rattle.algebra.specs.Operators.{combines_by, eval_of, offers}
use Rattle.algebra.specs.Value.{IsWordOf, are_compatible, cast_of, word_of}
use Rattle.elementwise.specs.Alone.{alone_by}
use Rattle.elementwise.specs.Sums.{folded}
use Rattle.elementwise.specs.Tests.{passes_by}
use Rattle.kernel.specs.declared.input.Input.{Input}
use Rattle.kernel.specs.Accepts.{Accepts}
use Rattle.kernel.specs.Factors.{inner_of}
use Rattle.kernel.specs.Inputs.{object_of}
use Rattle.kernel.proofs.FactorLaws.{FitTogether, IsShaped, fit_together, inner-shaped}
use Rattle.model.specs.declared.call.Form.{Form}
use Rattle.model.specs.declared.call.Positions.TheVariants.{Union, Intersection}
use Rattle.model.specs.declared.call.TwoInputs.TheVariants.{Multiply}
use Rattle.model.specs.declared.shape.Signature.{Signature}
use Rattle.model.specs.ElementWise.{applied, kept_where, of_both, of_either, selected}
use Rattle.model.specs.Object.{cols_of, in_domain}
use Rattle.model.specs.Operations.{combined, computed_of_two, multiplied}
use Rattle.model.specs.Reductions.{row_sums, row_words}
use Rattle.model.specs.Table.{plan_of_two}
use Rattle.model.proofs.StoredLaws.{applied-stored, intersection-stored, multiplied-stored, row_words-all, row_words-stored, selected-stored, sum-stored, union-stored}
use Rattle.store.specs.Stored.{content_of}

-- ---- one input

module _ (a : Input) where
  pub applied-computed : (function : FunctionName) → takes function a.signature.domain ≡ true → (i j : ℕ)
      → applied function (content_of a.store.now) i j
      ≡ applied function (in_domain (function_domain function) (object_of a)) i j
  applied-computed function compatible i j = sym (applied-stored function (object_of a) compatible a.is_object.words i j)

  pub selected-computed : (op : IndexOp) (scalar : ℤ) → takes_index op.kind op.domain a.signature.domain ≡ true
      → (i j : ℕ)
      → kept_where (passes_by op (word_of (scalar_domain op.kind op.domain) scalar)) (content_of a.store.now) i j
      ≡ selected (index_named op) scalar (object_of a) i j
  selected-computed op scalar compatible i j =
      sym (selected-stored (index_named op) (word_of (scalar_domain op.kind op.domain) scalar) (object_of a) compatible a.is_object.words i j)

  module _ (monoid : Monoid) (compatible : are_compatible a.signature.domain monoid.op.domain ≡ true) where
    -- the sum of a row, of its words as they are stored
    row_sum : (words : List ℕ) → All (IsWordOf a.signature.domain) words
        → folded monoid words
        ≡ sum_of monoid.kind monoid.op.domain (map (cast_of a.signature.domain monoid.op.domain) words)
    row_sum [] all = refl
    row_sum (word ∷ words) all =
        let offered : offers (combines_by monoid.kind) monoid.op.domain ≡ true = rw (← monoid.combines) monoid.op.offered in
        sym (sum-stored monoid.kind a.signature.domain monoid.op.domain word words offered compatible all)

    pub sums-computed : (i j : ℕ)
        → cond (j == 0) (folded monoid (row_words a.store.now.cols (content_of a.store.now) i)) None
        ≡ row_sums (monoid_named monoid) (cols_of a.signature.shape) (in_domain monoid.op.domain (object_of a)) i j
    sums-computed i j =
        let cols = cols_of a.signature.shape in
        ap (λ (n : ℕ). cond (j == 0) (folded monoid (row_words n (content_of a.store.now) i)) None) a.cols
        ∙ ap (λ (sum : Option ℕ). cond (j == 0) sum None)
        (row_sum (row_words cols (content_of a.store.now) i) (row_words-all cols (object_of a) i a.is_object.words)
        ∙ ap (λ (words : List ℕ). sum_of monoid.kind monoid.op.domain words) (sym (row_words-stored monoid.op.domain cols (object_of a) i)))

-- ---- two inputs

shaped : (a : Input) → IsShaped a.store.now a.signature.shape
shaped a = record { rows = a.rows; cols = a.cols }

module _ (a b : Input) where
  module _ (op : BinaryOp) (first : are_compatible a.signature.domain op.domain ≡ true)
      (second : are_compatible b.signature.domain op.domain ≡ true) where
    pub union-computed : (i j : ℕ)
        → of_either (alone_by op) (alone_by op) (eval_of op.kind op.domain)
        (content_of a.store.now i j) (content_of b.store.now i j)
        ≡ combined Union (op_named op) (object_of a) (object_of b) i j
    union-computed i j =
        sym (union-stored (op_named op) (object_of a) (object_of b) first second a.is_object.words b.is_object.words i j)

    pub intersection-computed : (i j : ℕ)
        → of_both (eval_of op.kind op.domain) (content_of a.store.now i j) (content_of b.store.now i j)
        ≡ combined Intersection (op_named op) (object_of a) (object_of b) i j
    intersection-computed i j =
        sym (intersection-stored (op_named op) (object_of a) (object_of b) first second a.is_object.words b.is_object.words i j)

  module _ (form : Form) (semiring : SemiringName) (c : Signature)
      (accepts : Accepts (plan_of_two (Multiply form semiring) a.signature b.signature) c) where
    pub factors-fit : FitTogether form a.store.now b.store.now c.shape
    factors-fit =
        fit_together form a.store.now b.store.now a.signature.shape b.signature.shape c.shape (shaped a) (shaped b) accepts.kinds (eqb-true _ _ accepts.fits) accepts.shape

    pub product-computed : (i j : ℕ)
        → multiplied form semiring (inner_of form a.store.now) (content_of a.store.now) (content_of b.store.now) i j
        ≡ computed_of_two (Multiply form semiring) (object_of a) (object_of b) i j
    product-computed i j =
        let compatible = and_parts (are_compatible a.signature.domain semiring.domain) (are_compatible b.signature.domain semiring.domain) accepts.compatible in
        ap (λ (n : ℕ). multiplied form semiring n (content_of a.store.now) (content_of b.store.now) i j) (inner-shaped form a.store.now a.signature.shape (shaped a))
        ∙ sym (multiplied-stored form semiring _ (object_of a) (object_of b) compatible.0 compatible.1 a.is_object.words b.is_object.words i j)
