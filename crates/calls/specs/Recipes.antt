-- What accepted operations and recipes mean of the maps that take their roles.
use Rattle.std.specs.Prelude.{◌≡◌, Option, Some}
use Rattle.std.specs.Arc.{arc_value}
use Rattle.std.specs.Option.{option_map, option_map_or}
use Rattle.calls.specs.declared.recipe.Accepted.{Accepted}
use Rattle.calls.specs.declared.recipe.Recipe.{Recipe}
use Rattle.calls.specs.declared.recipe.Recipe.TheVariants.{New, Given, Patch, Resized, Transposed, Computed}
use Rattle.calls.specs.declared.role.Role.{Role}
use Rattle.calls.specs.declared.role.Role.TheVariants.{Old, Mask, First, Second}
use Rattle.calls.specs.declared.role.Roles.{Roles}
use Rattle.calls.specs.Roles.{no_roles, role_of, roles_of}
use Rattle.calls.specs.Stores.{object_with}
use Rattle.model.specs.declared.call.Operation.{Operation}
use Rattle.model.specs.declared.call.Operation.TheVariants.{Fill, OfOne, OfTwo}
use Rattle.model.specs.declared.call.Out.{Out}
use Rattle.model.specs.declared.shape.Signature.{Signature}
use Rattle.model.specs.Object.{Content, Object, cols_of, no_content, rows_of, transposed_content, transposed_signature}
use Rattle.model.specs.Regions.{cut_to}
use Rattle.model.specs.Renamed.{found_operation, found_out, out_over, renamed_operation, renamed_out}
use Rattle.model.specs.WriteBack.{result_of}
use Rattle.patch.specs.Edits.{edited}
use Rattle.store.specs.Stored.{content_of}

-- an output and an operation on the objects whose maps take the roles
abbrev pub out_with : Out Signature → (Role → Content) → Out Object
out_with out maps =
    out_over out (object_with out.c (maps Old)) (option_map (λ mask. object_with mask (maps Mask)) out.mask)

abbrev pub operation_with : Operation Signature → (Role → Content) → Operation Object
operation_with (Fill value region) maps = Fill value region
operation_with (OfOne computes a) maps = OfOne computes (object_with a (maps First))
operation_with (OfTwo computes a b) maps = OfTwo computes (object_with a (maps First)) (object_with b (maps Second))

-- what an operation leaves of the maps that take its roles
abbrev pub meaning : Out Signature → Operation Signature → (Role → Content) → Content
meaning out operation maps = result_of (out_with out maps) (operation_with operation maps)

-- what is known of the objects that take an operation's roles
abbrev pub known_by_role : Out Signature → Operation Signature → Role → Option Signature
known_by_role out operation = role_of (roles_of out operation)

-- ---- recipes

-- what is known of what a recipe makes
abbrev pub known_of : Recipe → Signature
known_of (New of) = of.value
known_of (Given given) = given.value.of
known_of (Patch patch) = patch.value.of
known_of (Resized resize) = record resize.value.of { shape = resize.value.shape }
known_of (Transposed turn) = transposed_signature turn.value.of
known_of (Computed computation) = computation.accepted.value.out.c

-- what is known of its inputs, by their roles: those that its meaning reads
abbrev pub inputs_of : Recipe → Roles Signature
inputs_of (New of) = no_roles
inputs_of (Given given) = no_roles
inputs_of (Patch patch) = record no_roles { old = Some patch.value.of }
inputs_of (Resized resize) = record no_roles { old = Some resize.value.of }
inputs_of (Transposed turn) = record no_roles { first = Some turn.value.of }
inputs_of (Computed computation) = roles_of computation.accepted.value.out computation.accepted.value.operation

abbrev pub known_by : Recipe → Role → Option Signature
known_by recipe = role_of (inputs_of recipe)

-- a recipe computes an operation into such an output
abbrev pub ComputesInto : Out Signature → Recipe → Type 0
ComputesInto out (Computed computation) = computation.accepted.value.out ≡ out
ComputesInto out recipe = ⊥

-- what a recipe makes of the maps that take its roles
abbrev pub meaning_of : Recipe → (Role → Content) → Content
meaning_of (New of) maps = no_content
meaning_of (Given given) maps = content_of (arc_value given.value.store)
meaning_of (Patch patch) maps = edited patch.value.edits.items (maps Old)
meaning_of (Resized resize) maps =
    cut_to (rows_of resize.value.shape) (cols_of resize.value.shape) (maps Old)
meaning_of (Transposed turn) maps = transposed_content (maps First)
meaning_of (Computed computation) maps =
    meaning computation.accepted.value.out computation.accepted.value.operation maps

-- ---- accepted operations

-- the maps of the objects that take an operation's roles; no object, no map
abbrev pub maps_of : {K : Type 0} → (K → Object) → Out K → Operation K → Role → Content
maps_of object out operation role =
    option_map_or (λ k. (object k).content) (role_of (roles_of out operation) role) no_content

-- an accepted operation is that on objects of which this is known
pub record IsAcceptedOf {K : Type 0} (known : K → Option Signature) (out : Out K) (operation : Operation K)
    (accepted : Accepted) : Type 0 where
  pub out_is : found_out (renamed_out known out) ≡ Some accepted.out
  pub operation_is : found_operation (renamed_operation known operation) ≡ Some accepted.operation
