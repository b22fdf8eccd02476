-- A product that transposes a matrix says and leaves what it does with its factors in exchanged order.
use Rattle.std.specs.Prelude.{nat_le}
use Rattle.std.proofs.Common.{◌≡◌, ◌∙◌, ℕ, ◌==◌, ◌&&◌, not, Bool, true, false, if◌then◌else◌, Some, None, refl, sym, ap, subst, arith}
use Rattle.std.specs.Option.{option_map_or}
use Rattle.std.proofs.Math.Bool.{and_comm}
use Rattle.std.proofs.lemmas.Bool.{eqb-true}
use Rattle.std.proofs.lemmas.Bool.Decides.{nat_tests}
use Rattle.algebra.specs.declared.domain.Domain.{Domain}
use Rattle.algebra.specs.declared.kinds.BinaryKind.{BinaryKind}
use Rattle.algebra.specs.declared.operator_names.SemiringName.{SemiringName}
use Rattle.algebra.specs.Value.{are_compatible}
use Rattle.calls.specs.Turned.{flipped_form, flipped_kind, multiplying_by}
use Rattle.calls.specs.Straight.{straight_out}
use Rattle.calls.proofs.FlippedLaws.{flipped-domain, flipped-offered, product-flipped}
use Rattle.model.specs.declared.call.Desc.{Desc}
use Rattle.model.specs.declared.call.Form.{Form}
use Rattle.model.specs.declared.call.Form.TheVariants.{MatrixMatrix, MatrixVector, VectorMatrix}
use Rattle.model.specs.declared.call.Operation.TheVariants.{OfTwo}
use Rattle.model.specs.declared.call.Out.{Out}
use Rattle.model.specs.declared.call.Plan.{Plan}
use Rattle.model.specs.declared.call.TwoInputs.{TwoInputs}
use Rattle.model.specs.declared.call.TwoInputs.TheVariants.{Multiply}
use Rattle.model.specs.declared.limits.TheConstants.{MOST_FILLED}
use Rattle.model.specs.declared.shape.Shape.{Shape}
use Rattle.model.specs.declared.shape.Shape.TheVariants.{One, Two}
use Rattle.model.specs.declared.shape.Signature.{Signature}
use Rattle.model.specs.declared.status.Status.{Status}
use Rattle.model.specs.declared.status.Status.TheVariants as status
use Rattle.model.specs.Fault.{accumulates, first_of, operation_fault, plan_fails}
use Rattle.model.specs.Object.{Content, Object, cast_content, signature_of, transposed_content, transposed_object, transposed_signature}
use Rattle.model.specs.Operations.{computed_of_two, operation}
use Rattle.model.specs.Product.{product}
use Rattle.model.specs.Table.{offers_two, plan_of_two, transposed_if}
use Rattle.model.specs.WriteBack.{landed, masked, result_of}
use Rattle.model.proofs.WriteBackLaws.{accepted-kinds, accepted-shapes}

-- ---- the two forms

-- what a product is over whose inputs flags transpose
abbrev plan_transposed : Form → SemiringName → Bool → Bool → Signature → Signature → Plan
plan_transposed form semiring first second a b = plan_of_two (Multiply form semiring) (transposed_if transposed_signature first a) (transposed_if transposed_signature second b)

abbrev computed_transposed : Form → SemiringName → Bool → Bool → Object → Object → Content
computed_transposed form semiring first second a b = computed_of_two (Multiply form semiring) (transposed_if transposed_object first a) (transposed_if transposed_object second b)

-- its factors are a matrix and a vector that fit
pub record Fits (plan : Plan) : Type 0 where
  pub kinds : plan.kinds ≡ true
  pub fits : plan.fits ≡ true

abbrev object_of : Signature → Content → Object
object_of s c = record { domain = s.domain; shape = s.shape; content = c }

-- the product with the factors in exchanged order says the same, and gives the same values
pub record IsAlike (form other : Form) (semiring flipped : SemiringName) (first second : Bool) (a b : Signature) : Type 0 where
  pub plan : plan_of_two (Multiply other flipped) b a ≡ plan_transposed form semiring first second a b
  pub values : (c d : Content) (i j : ℕ) → computed_of_two (Multiply other flipped) (object_of b d) (object_of a c) i j
      ≡ computed_transposed form semiring first second (object_of a c) (object_of b d) i j

equal_comm : (m n : ℕ) → (m == n) ≡ (n == m)
equal_comm m n = grind (arith, nat_tests)

module _ (semiring : SemiringName) (kind : BinaryKind) (is : flipped_kind semiring.multiply ≡ Some kind) where
  abbrev flipped : SemiringName
  flipped = multiplying_by semiring kind

  compatible_comm : (a b : Domain)
      → (are_compatible b semiring.domain && are_compatible a semiring.domain)
      ≡ (are_compatible a semiring.domain && are_compatible b semiring.domain)
  compatible_comm a b = and_comm (are_compatible b semiring.domain) (are_compatible a semiring.domain)

  -- the flag of a vector has no effect
  module _ (m n k : ℕ) (from by : Domain) (same : m ≡ k) where
    transposed_first : IsAlike MatrixVector VectorMatrix semiring flipped true false
        (record { domain = from; shape = Two m n }) (record { domain = by; shape = One k })
    transposed_first = record {
      plan = λ t. record { kinds = true; compatible = compatible_comm from by t; fits = equal_comm k m t; inside = true; values = true; shape = One n; domain = flipped-domain semiring kind is t };
      values = λ c d i j.
          ap (λ (inner : ℕ). product flipped inner (transposed_content (cast_content by semiring.domain d)) (cast_content from semiring.domain c) j i) (sym same)
          ∙ sym (product-flipped semiring kind is m (cast_content from semiring.domain (transposed_content c)) (cast_content by semiring.domain d) i j);
    }

    transposed_second : IsAlike VectorMatrix MatrixVector semiring flipped false true
        (record { domain = by; shape = One k }) (record { domain = from; shape = Two n m })
    transposed_second = record {
      plan = λ t. record { kinds = true; compatible = compatible_comm by from t; fits = equal_comm m k t; inside = true; values = true; shape = One n; domain = flipped-domain semiring kind is t };
      values = λ c d i j.
          ap (λ (inner : ℕ). product flipped inner (cast_content from semiring.domain d) (cast_content by semiring.domain c) i j) same
          ∙ sym (product-flipped semiring kind is k (transposed_content (cast_content by semiring.domain c)) (cast_content from semiring.domain (transposed_content d)) j i);
    }

  matrix_vector : (s t : Shape) (from by : Domain) (second : Bool)
      → Fits (plan_transposed MatrixVector semiring true second
      (record { domain = from; shape = s }) (record { domain = by; shape = t }))
      → IsAlike MatrixVector VectorMatrix semiring flipped true second (record { domain = from; shape = s }) (record { domain = by; shape = t })
  matrix_vector (One n) t from by second fit = absurd (let h : false ≡ true = fit.kinds in cc)
  matrix_vector (Two m n) (Two k l) from by true fit = absurd (let h : false ≡ true = fit.kinds in cc)
  matrix_vector (Two m n) (Two k l) from by false fit = absurd (let h : false ≡ true = fit.kinds in cc)
  matrix_vector (Two m n) (One k) from by true fit = let same = transposed_first m n k from by (eqb-true m k fit.fits) in record { plan = same.plan; values = same.values }
  matrix_vector (Two m n) (One k) from by false fit = transposed_first m n k from by (eqb-true m k fit.fits)

  vector_matrix : (s t : Shape) (by from : Domain) (first : Bool)
      → Fits (plan_transposed VectorMatrix semiring first true
      (record { domain = by; shape = s }) (record { domain = from; shape = t }))
      → IsAlike VectorMatrix MatrixVector semiring flipped first true (record { domain = by; shape = s }) (record { domain = from; shape = t })
  vector_matrix (Two k l) t by from true fit = absurd (let h : false ≡ true = fit.kinds in cc)
  vector_matrix (Two k l) t by from false fit = absurd (let h : false ≡ true = fit.kinds in cc)
  vector_matrix (One k) (One n) by from true fit = absurd (let h : false ≡ true = fit.kinds in cc)
  vector_matrix (One k) (One n) by from false fit = absurd (let h : false ≡ true = fit.kinds in cc)
  vector_matrix (One k) (Two n m) by from true fit = let same = transposed_second m n k from by (sym (eqb-true k m fit.fits)) in record { plan = same.plan; values = same.values }
  vector_matrix (One k) (Two n m) by from false fit = transposed_second m n k from by (sym (eqb-true k m fit.fits))

  -- where the flag of the matrix says so
  by_first : (first second : Bool) (other : Form) (a b : Signature)
      → (if first then Some VectorMatrix else None) ≡ Some other
      → Fits (plan_transposed MatrixVector semiring first second a b)
      → IsAlike MatrixVector other semiring flipped first second a b
  by_first false second other a b which fit = absurd (cc)
  by_first true second other a b which fit =
      let same : VectorMatrix ≡ other = cc in
      subst (λ (o : Form). IsAlike MatrixVector o semiring flipped true second a b) same (matrix_vector a.shape b.shape a.domain b.domain second fit)

  by_second : (first second : Bool) (other : Form) (a b : Signature)
      → (if second then Some MatrixVector else None) ≡ Some other
      → Fits (plan_transposed VectorMatrix semiring first second a b)
      → IsAlike VectorMatrix other semiring flipped first second a b
  by_second first false other a b which fit = absurd (cc)
  by_second first true other a b which fit =
      let same : MatrixVector ≡ other = cc in
      subst (λ (o : Form). IsAlike VectorMatrix o semiring flipped first true a b) same (vector_matrix a.shape b.shape a.domain b.domain first fit)

  alike : (form other : Form) (desc : Desc) (a b : Signature) → flipped_form form desc ≡ Some other
      → Fits (plan_transposed form semiring desc.transpose_first desc.transpose_second a b)
      → IsAlike form other semiring flipped desc.transpose_first desc.transpose_second a b
  alike MatrixMatrix other desc a b which fit = absurd (cc)
  alike MatrixVector other desc a b which fit = by_first desc.transpose_first desc.transpose_second other a b which fit
  alike VectorMatrix other desc a b which fit = by_second desc.transpose_first desc.transpose_second other a b which fit

  -- it leaves the same
  pub result-alike : (out : Out Object) (form other : Form) (a b : Object) → flipped_form form out.desc ≡ Some other
      → Fits (plan_transposed form semiring out.desc.transpose_first out.desc.transpose_second
      (signature_of a) (signature_of b))
      → (i j : ℕ) → result_of (straight_out out)
      (OfTwo (Multiply other flipped) b a) i j ≡ result_of out (OfTwo (Multiply form semiring) a b) i j
  unfolding result_of operation
  result-alike out form other a b which fit i j =
      let same = alike form other out.desc (signature_of a) (signature_of b) which fit in
      λ t. masked out (landed out (λ p q. true) (cast_content (flipped-domain semiring kind is t) out.c.domain (λ p q. same.values a.content b.content p q t))) i j

-- ---- faults

-- the fault of an operation of two inputs, by whether its operators are there and by its plan
fails_by : Out Signature → Bool → Plan → Status → Bool
fails_by out offered plan status.NotImplemented = not (offered && nat_le 0 MOST_FILLED && option_map_or (accumulates out.c.domain) out.accum true)
fails_by out offered plan s = plan_fails out plan s

fault_by : (out : Out Signature) (computes : TwoInputs) (a b : Signature)
    → operation_fault out (OfTwo computes a b) ≡ first_of (fails_by out (offers_two computes)
    (plan_of_two computes (transposed_if transposed_signature out.desc.transpose_first a)
    (transposed_if transposed_signature out.desc.transpose_second b)))
unfolding operation_fault fails_by
fault_by out computes a b = refl

fault_straight : (out : Out Signature) (computes : TwoInputs) (a b : Signature)
    → operation_fault (straight_out out)
    (OfTwo computes a b) ≡ first_of (fails_by out (offers_two computes) (plan_of_two computes a b))
unfolding operation_fault fails_by
fault_straight out computes a b = refl

-- its factors fit, since it has no fault
pub accepted-fits : (out : Out Signature) (form : Form) (semiring : SemiringName) (a b : Signature)
    → operation_fault out (OfTwo (Multiply form semiring) a b) ≡ None
    → Fits (plan_transposed form semiring out.desc.transpose_first out.desc.transpose_second a b)
accepted-fits out form semiring a b accepted =
    let op = OfTwo (Multiply form semiring) a b in
    record { kinds = accepted-kinds out op accepted; fits = (accepted-shapes out op accepted).1 }

pub fault-alike : (semiring : SemiringName) (kind : BinaryKind) → flipped_kind semiring.multiply ≡ Some kind
    → (out : Out Signature) (form other : Form) (a b : Signature) → flipped_form form out.desc ≡ Some other
    → operation_fault out (OfTwo (Multiply form semiring) a b) ≡ None
    → operation_fault (straight_out out) (OfTwo (Multiply other (multiplying_by semiring kind)) b a) ≡ None
fault-alike semiring kind is out form other a b which accepted =
    let same = alike semiring kind is form other out.desc a b which (accepted-fits out form semiring a b accepted) in
    fault_straight out (Multiply other (multiplying_by semiring kind)) b a
    ∙ (λ t. first_of (fails_by out (flipped-offered semiring kind is t) (same.plan t)))
    ∙ sym (fault_by out (Multiply form semiring) a b) ∙ accepted
