-- What an operation says and leaves is the same once its inputs are transposed before.
use Rattle.std.proofs.Common.{◌≡◌, ◌∙◌, ℕ, Bool, true, false, Option, refl, ap}
use Rattle.std.specs.Option.{option_map_or}
use Rattle.algebra.specs.declared.functions.FunctionName.TheVariants as function
use Rattle.calls.specs.Straight.{IsStraight, straight_desc, straight_out}
use Rattle.model.specs.declared.call.Desc.{Desc}
use Rattle.model.specs.declared.call.OneInput.{OneInput}
use Rattle.model.specs.declared.call.OneInput.TheVariants.{Apply, Select, ReduceRows, Transpose, Extract, Assign}
use Rattle.model.specs.declared.call.Operation.{Operation}
use Rattle.model.specs.declared.call.Operation.TheVariants.{Fill, OfOne, OfTwo}
use Rattle.model.specs.declared.call.Out.{Out}
use Rattle.model.specs.declared.call.Region.{Region}
use Rattle.model.specs.declared.shape.Shape.{Shape}
use Rattle.model.specs.declared.shape.Signature.{Signature}
use Rattle.model.specs.Fault.{operation_fault}
use Rattle.model.specs.Object.{Object, cols_of, in_domain, rows_of, signature_of, transposed_object, transposed_signature}
use Rattle.model.specs.Operations.{computed, region_written}
use Rattle.model.specs.Regions.{cols_in, is_listed, rows_in}
use Rattle.model.specs.Table.{transposed, transposed_if, transposes_one}
use Rattle.model.specs.WriteBack.{landed, masked, result_of}
use Rattle.model.proofs.OldLaws.{region-transposed}

-- ---- no flags

transposes_none : (computes : OneInput) (desc : Desc) → IsStraight desc → transposes_one computes desc ≡ false
transposes_none (Apply (function.Unary op)) desc is = is.0
transposes_none (Apply (function.First op value)) desc is = is.1
transposes_none (Apply (function.Second op value)) desc is = is.0
transposes_none (Apply (function.Index op scalar)) desc is = is.0
transposes_none (Select op scalar) desc is = is.0
transposes_none (ReduceRows monoid) desc is = is.0
transposes_none Transpose desc is = is.0
transposes_none (Extract region) desc is = is.0
transposes_none (Assign region) desc is = is.0

pub transposed-none : {K : Type 0} (transpose : K → K) (desc : Desc) (op : Operation K) → IsStraight desc
    → transposed transpose desc op ≡ op
transposed-none transpose desc (Fill value region) is = refl
transposed-none transpose desc (OfOne computes a) is = ap (λ flag. OfOne computes (transposed_if transpose flag a)) (transposes_none computes desc is)
transposed-none transpose desc (OfTwo computes a b) is = rw (is.0, is.1) refl

abbrev straight : (desc : Desc) → IsStraight (straight_desc desc)
straight desc = (refl, refl)

-- ---- transposed before

abbrev is_in : Shape → Option Region → ℕ → ℕ → Bool
is_in shape region i j = option_map_or
    (λ region. is_listed (rows_of shape) (cols_of shape) (rows_in region) (cols_in region) i j) region true

-- its fault is the same
pub straight-fault : (out : Out Signature) (op : Operation Signature)
    → operation_fault (straight_out out) (transposed transposed_signature out.desc op) ≡ operation_fault out op
unfolding operation_fault
straight-fault out (Fill value region) = refl
straight-fault out (OfOne computes a) = rw (transposes_none computes (straight_desc out.desc) (straight out.desc)) refl
straight-fault out (OfTwo computes a b) = refl

-- what it leaves is the same
pub straight-result : (out : Out Object) (op : Operation Object) (i j : ℕ)
    → result_of (straight_out out) (transposed transposed_object out.desc op) i j ≡ result_of out op i j
unfolding result_of
straight-result out op i j =
    let c = signature_of out.c in
    let moved = transposed transposed_object out.desc op in
    let left : Option Region → Operation Object → Option ℕ = λ region p. masked out (landed out (λ p q. is_in c.shape region p q) (in_domain c.domain (computed c p))) i j in
    ap (left (region_written moved)) (transposed-none transposed_object (straight_desc out.desc) moved (straight out.desc))
    ∙ ap (λ (region : Option Region). left region moved) (region-transposed transposed_object out.desc op)
