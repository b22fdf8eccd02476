-- Calls whose objects are named another way, and calls on what their names stand for.
use Rattle.std.specs.Prelude.{List, [], ◌∷◌, Option, Some, None}
use Rattle.std.specs.Option.{option_and_then, option_map}
use Rattle.model.specs.declared.call.Call.{Call}
use Rattle.model.specs.declared.call.Call.TheVariants.{Create, Dup, On, Operate}
use Rattle.model.specs.declared.call.Operation.{Operation}
use Rattle.model.specs.declared.call.Operation.TheVariants.{Fill, OfOne, OfTwo}
use Rattle.model.specs.declared.call.Out.{Out}

-- an output with another object and another mask
abbrev pub out_over : {K L : Type 0} → Out K → L → Option L → Out L
out_over out c mask = record { c = c; mask = mask; accum = out.accum; desc = out.desc }

abbrev pub renamed_out : {K L : Type 0} → (K → L) → Out K → Out L
renamed_out f out = out_over out (f out.c) (option_map f out.mask)

abbrev pub renamed_operation : {K L : Type 0} → (K → L) → Operation K → Operation L
renamed_operation f (Fill value region) = Fill value region
renamed_operation f (OfOne computes a) = OfOne computes (f a)
renamed_operation f (OfTwo computes a b) = OfTwo computes (f a) (f b)

-- f leads from each object's name to another, and g from each new name
abbrev pub renamed : {K L M N : Type 0} → (K → L) → (M → N) → Call K M → Call L N
renamed f g (Create name domain shape) = Create (g name) domain shape
renamed f g (Dup name object) = Dup (g name) (f object)
renamed f g (On object act) = On (f object) act
renamed f g (Operate out operation) = Operate (renamed_out f out) (renamed_operation f operation)

abbrev pub inputs_of : {K : Type 0} → Operation K → List K
inputs_of (Fill value region) = []
inputs_of (OfOne computes a) = a ∷ []
inputs_of (OfTwo computes a b) = a ∷ b ∷ []

-- ---- names that stand for something, each of them, or none is said to

-- a mask needn't be there, but where one is named it stands for something
abbrev pub found_mask : {X : Type 0} → Option (Option X) → Option (Option X)
found_mask None = Some None
found_mask (Some mask) = option_map Some mask

abbrev pub found_out : {X : Type 0} → Out (Option X) → Option (Out X)
found_out out = option_and_then (λ c. option_map (out_over out c) (found_mask out.mask)) out.c

abbrev pub found_operation : {X : Type 0} → Operation (Option X) → Option (Operation X)
found_operation (Fill value region) = Some (Fill value region)
found_operation (OfOne computes a) = option_map (OfOne computes) a
found_operation (OfTwo computes a b) = option_and_then (λ a. option_map (OfTwo computes a) b) a

abbrev pub found : {X N : Type 0} → Call (Option X) N → Option (Call X N)
found (Create name domain shape) = Some (Create name domain shape)
found (Dup name object) = option_map (Dup name) object
found (On object act) = option_map (λ o. On o act) object
found (Operate out operation) =
    option_and_then (λ out. option_map (Operate out) (found_operation operation)) (found_out out)
