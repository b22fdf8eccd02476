-- Laws of masks and of what operations write under them.
use Rattle.std.proofs.Common.{◌≡◌, ℕ, Bool, true, false, not, cond, Option, Some, None, is_some, refl, ap, inl, inr}
use Rattle.std.specs.Option.{option_map_or}
use Rattle.std.proofs.lemmas.Bool.{cases_Bool}
use Rattle.algebra.specs.declared.functions.FunctionName.TheVariants as function
use Rattle.model.specs.declared.call.Desc.{Desc}
use Rattle.model.specs.declared.call.OneInput.{OneInput}
use Rattle.model.specs.declared.call.OneInput.TheVariants.{Apply, Select, ReduceRows, Transpose, Extract, Assign}
use Rattle.model.specs.declared.call.Operation.{Operation}
use Rattle.model.specs.declared.call.Operation.TheVariants.{Fill, OfOne, OfTwo}
use Rattle.model.specs.declared.call.Out.{Out}
use Rattle.model.specs.Object.{Content, Object, in_domain, signature_of, transposed_object}
use Rattle.model.specs.Operations.{computed, is_written_by}
use Rattle.model.specs.Table.{transposed, transposed_if, transposes_one}
use Rattle.model.specs.WriteBack.{has_position, mask_set, masked, result_of}

-- an output whose mask is complemented, or no longer is
abbrev pub on_other_side : Out Object → Out Object
on_other_side out = record out { desc = record out.desc { complement = not out.desc.complement } }

-- an output that keeps what the mask set leaves out, or loses it
abbrev pub replacing : Bool → Out Object → Out Object
replacing replace out = record out { desc = record out.desc { replace = replace } }

-- an output with other entries
abbrev pub holding : Content → Out Object → Out Object
holding content out = record out { c = record out.c { content = content } }

other_side : (complement has : Bool) → cond (not complement) (not has) has ≡ not (cond complement (not has) has)
other_side true true = refl
other_side true false = refl
other_side false has = refl

-- The complement of a mask lets exactly the other positions be written.
pub complement_is_others : (out : Out Object) (i j : ℕ) → mask_set (on_other_side out) i j ≡ not (mask_set out i j)
complement_is_others out i j =
    other_side out.desc.complement (option_map_or (λ mask. has_position out.desc mask i j) out.mask true)

-- Without a mask all positions are written, and none with the complement.
pub no_mask_is_all : (out : Out Object) (i j : ℕ) → out.mask ≡ None → mask_set out i j ≡ not out.desc.complement
no_mask_is_all out i j none = elim (cases_Bool out.desc.complement) [
  | inl others ↦ rw (none, others) refl
  | inr these ↦ rw (none, these) refl
]

stored_is_there : (word : Option ℕ) (passes : ℕ → Bool) → option_map_or (λ w. true) word false ≡ is_some word
stored_is_there None passes = refl
stored_is_there (Some w) passes = refl

-- By its structure a mask has the positions that it stores, whatever their values.
pub structure_is_stored : (desc : Desc) (mask : Object) (i j : ℕ) → desc.structure ≡ true
    → has_position desc mask i j ≡ is_some (mask.content i j)
structure_is_stored desc mask i j structural = rw structural (stored_is_there (mask.content i j) (λ w. true))

-- Outside the mask set an operation leaves what was there, or, where it replaces, nothing.
pub outside_keeps : (out : Out Object) (inputs : Operation Object) (i j : ℕ) → mask_set out i j ≡ false
    → result_of out inputs i j ≡ (cond out.desc.replace None (out.c.content i j))
unfolding result_of
outside_keeps out inputs i j outside = rw outside refl

one_alike : (computes : OneInput) (desc : Desc) (replace : Bool) → transposes_one computes (record desc { replace = replace }) ≡ transposes_one computes desc
one_alike (Apply (function.Unary op)) desc replace = refl
one_alike (Apply (function.First op value)) desc replace = refl
one_alike (Apply (function.Second op value)) desc replace = refl
one_alike (Apply (function.Index op scalar)) desc replace = refl
one_alike (Select op scalar) desc replace = refl
one_alike (ReduceRows monoid) desc replace = refl
one_alike Transpose desc replace = refl
one_alike (Extract region) desc replace = refl
one_alike (Assign region) desc replace = refl

-- whether an output is cleared says nothing of inputs
inputs_alike : {K : Type 0} (turn : K → K) (desc : Desc) (replace : Bool) (op : Operation K)
    → transposed turn (record desc { replace = replace }) op ≡ transposed turn desc op
inputs_alike turn desc replace (Fill value region) = refl
inputs_alike turn desc replace (OfOne computes a) =
    ap (λ flag. OfOne computes (transposed_if turn flag a)) (one_alike computes desc replace)
inputs_alike turn desc replace (OfTwo computes a b) = refl

-- Inside it an operation leaves the same, whether it replaces or not.
pub inside_alike : (out : Out Object) (inputs : Operation Object) (replace : Bool) (i j : ℕ) → mask_set out i j ≡ true
    → result_of (replacing replace out) inputs i j ≡ result_of out inputs i j
unfolding result_of
inside_alike out inputs replace i j inside =
    rw (inside, inputs_alike transposed_object out.desc replace inputs) refl

-- Without a mask that leaves something out, GrB_REPLACE changes nothing.
pub replace_without_mask : (out : Out Object) (inputs : Operation Object) (replace : Bool) (i j : ℕ) → out.mask ≡ None
    → out.desc.complement ≡ false → result_of (replacing replace out) inputs i j ≡ result_of out inputs i j
replace_without_mask out inputs replace i j none these =
    inside_alike out inputs replace i j (rw (none, these) refl)

kept_twice : (inside replace written : Bool) (new old : Option ℕ)
    → (let once = cond inside (cond written new old) (cond replace None old) in
    cond inside (cond written new once) (cond replace None once)) ≡ cond inside (cond written new old) (cond replace None old)
kept_twice true replace true new old = refl
kept_twice true replace false new old = refl
kept_twice false true written new old = refl
kept_twice false false written new old = refl

-- To write the same twice, without an accumulator, is to write it once.
pub written_twice : (out : Out Object) (inputs : Operation Object) (i j : ℕ) → out.accum ≡ None
    → result_of (holding (result_of out inputs) out) inputs i j ≡ result_of out inputs i j
unfolding result_of
written_twice out inputs i j none =
    let c = signature_of out.c in
    let values = in_domain c.domain (computed c (transposed transposed_object out.desc inputs)) in
    rw none
    (kept_twice (mask_set out i j) out.desc.replace (is_written_by c.shape inputs i j) (values i j) (out.c.content i j))

-- What would land outside the mask set doesn't count.
pub masked_inside : (out : Out Object) (z : Content) (i j : ℕ)
    → masked out (λ i j. cond (mask_set out i j) (z i j) None) i j ≡ masked out z i j
masked_inside out z i j = elim (cases_Bool (mask_set out i j)) [
  | inl inside ↦ rw inside refl
  | inr outside ↦ rw outside refl
]
