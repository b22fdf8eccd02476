-- What a call leaves in its output (mask, accumulator and GrB_REPLACE of the GraphBLAS C API), position by position.
use Rattle.std.specs.Prelude.{ℕ, Bool, if◌then◌else◌, Option, None, Some}
use Rattle.algebra.specs.declared.operator_names.OpName.{OpName}
use Rattle.model.specs.Object.{Content}
use Rattle.model.specs.WriteBack.{accumulated, accumulated_by, masked_at}
use Rattle.masks.specs.declared.view.Mask.{Mask}
use Rattle.masks.specs.Masks.{lets_through}

-- what is left at a position, by whether the call may write it, what was there, and what was computed
abbrev pub written_at : Option OpName → Bool → Bool → Option ℕ → Option ℕ → Option ℕ
written_at accum replace is_in old t = masked_at replace is_in old (accumulated_by accum old t)

-- what is left of the output: what was computed stands in the mask set, and outside it what was there, or
-- nothing (GrB_REPLACE)
abbrev pub written_by : Mask → Option OpName → Bool → Content → Content → Content
written_by mask accum replace old t = λ i j. written_at accum replace (lets_through mask i j) (old i j) (t i j)

-- what a mask set has of a map
abbrev pub inside_of : Mask → Content → Content
inside_of mask t = λ i j. if lets_through mask i j then t i j else None

-- an old value and a new one where there is a new one, else nothing
abbrev pub accumulated_where : OpName → Option ℕ → Option ℕ → Option ℕ
accumulated_where op old None = None
accumulated_where op old (Some new) = accumulated op old (Some new)
