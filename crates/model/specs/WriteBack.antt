-- Mask, accumulator and write-back (the last steps of every operation of the GraphBLAS C API), and what an operation
-- leaves in its output.
use Rattle.std.specs.Prelude.{ℕ, ◌||◌, ◌==◌, not, Bool, true, false, if◌then◌else◌, is_some, Option, Some, None}
use Rattle.std.specs.Option.{option_map_or}
use Rattle.algebra.specs.declared.domain.Domain.TheVariants as domains
use Rattle.algebra.specs.declared.operator_names.OpName.{OpName}
use Rattle.algebra.specs.Operators.{eval_of}
use Rattle.algebra.specs.Value.{cast_of}
use Rattle.model.specs.declared.call.Desc.{Desc}
use Rattle.model.specs.declared.call.Operation.{Operation}
use Rattle.model.specs.declared.call.Out.{Out}
use Rattle.model.specs.Object.{Content, Object, in_domain, signature_of, transposed_object}
use Rattle.model.specs.Operations.{computed, is_written_by, region_written}
use Rattle.model.specs.Table.{transposed}

-- ---- the mask set

-- whether a mask has a position: it stores it, and where its values count, one that is not 0 (GrB_STRUCTURE)
abbrev pub has_position : Desc → Object → ℕ → ℕ → Bool
has_position desc mask i j =
    option_map_or (λ word. desc.structure || (cast_of mask.domain domains.Bool word == 1)) (mask.content i j) false

-- the positions that are written: all without a mask, or those of the mask; or the others (GrB_COMP)
abbrev pub mask_set : Out Object → ℕ → ℕ → Bool
mask_set out i j =
    let is_in = option_map_or (λ mask. has_position out.desc mask i j) out.mask true in
    if out.desc.complement then not is_in else is_in

-- ---- accumulate and write back

-- an old value and a new one
abbrev pub accumulated : OpName → Option ℕ → Option ℕ → Option ℕ
accumulated op None new = new
accumulated op (Some old) None = Some old
accumulated op (Some old) (Some new) = Some (eval_of op.kind op.domain old new)

abbrev pub accumulated_by : Option OpName → Option ℕ → Option ℕ → Option ℕ
accumulated_by None old new = new
accumulated_by (Some op) old new = accumulated op old new

-- the output with values in its domain at some positions, and what was there at the others
abbrev pub landed : Out Object → (ℕ → ℕ → Bool) → Content → Content
landed out is_written values = λ i j.
    if is_written i j then accumulated_by out.accum (out.c.content i j) (values i j) else out.c.content i j

-- what is left at a position, by whether it is in the mask set: what is new there, and at the others what was there,
-- or nothing (GrB_REPLACE)
abbrev pub masked_at : Bool → Bool → Option ℕ → Option ℕ → Option ℕ
masked_at replace is_in old new = if is_in then new else if replace then None else old

abbrev pub masked : Out Object → Content → Content
masked out z = λ i j. masked_at out.desc.replace (mask_set out i j) (out.c.content i j) (z i j)

-- What an operation leaves in its output: what it computes, in the output's domain, put where it writes, and of that
-- what the mask lets through.
unfoldable pub result_of : Out Object → Operation Object → Content
result_of out inputs =
    let t = computed (signature_of out.c) (transposed transposed_object out.desc inputs) in
    masked out (landed out (is_written_by out.c.shape inputs) (in_domain out.c.domain t))

-- ---- what is read of the output

-- Whether what the output has before the call is read: where a mask or its complement keeps some of it, an accumulator
-- combines with it, or what is outside a region stays. (OldLaws.antt: else the result doesn't depend on it.)
abbrev pub reads_old : {K L : Type 0} → Out K → Operation L → Bool
reads_old out inputs = is_some out.mask || out.desc.complement || is_some out.accum || is_some (region_written inputs)
