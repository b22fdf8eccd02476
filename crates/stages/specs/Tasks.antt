-- Tasks, each on the objects that earlier ones make.
use Rattle.std.specs.Prelude.{ℕ, ◌++◌, ◌∷◌, List, [], Option, slice_get, slice_index_or}
use Rattle.std.specs.Option.{option_and_then, option_map, option_map_or}
use Rattle.algebra.specs.declared.domain.Domain.TheVariants.{Bool}
use Rattle.calls.specs.declared.recipe.Recipe.{Recipe}
use Rattle.calls.specs.declared.role.Role.{Role}
use Rattle.calls.specs.declared.role.Roles.{Roles}
use Rattle.calls.specs.Recipes.{known_of, meaning_of}
use Rattle.calls.specs.Roles.{role_of}
use Rattle.calls.specs.Stores.{object_with}
use Rattle.model.specs.declared.shape.Shape.TheVariants.{One}
use Rattle.model.specs.declared.shape.Signature.{Signature}
use Rattle.model.specs.Object.{Content, Object, empty_object, no_content}

-- a recipe, and the slots whose objects take its roles
pub record Task : Type 0 where
  pub recipe : Recipe
  pub inputs : Roles ℕ

abbrev pub object_in : List Object → ℕ → Object
object_in os k = slice_index_or os k (empty_object Bool (One 0))

-- the maps of the objects that take the roles; no object, no map
abbrev pub maps_of : List Object → Roles ℕ → Role → Content
maps_of os inputs role = option_map_or (λ i. (object_in os i).content) (role_of inputs role) no_content

-- what a task makes of objects
unfoldable pub made_of : List Object → Task → Object
made_of os t = object_with (known_of t.recipe) (meaning_of t.recipe (maps_of os t.inputs))

abbrev pub objects_after : List Object → List Task → List Object
objects_after os [] = os
objects_after os (t ∷ ts) = objects_after (os ++ made_of os t ∷ []) ts

-- what tasks make, each of the objects that the tasks before it make
unfoldable pub objects : List Task → List Object
objects ts = objects_after [] ts

-- the object of a slot: what its recipe makes of its inputs' objects
unfoldable pub object_at : List Task → ℕ → Object
object_at ts k = object_in (objects ts) k

-- what is known of the object of a slot
abbrev pub known_at : List Task → ℕ → Option Signature
known_at ts k = option_map (λ t. known_of t.recipe) (slice_get ts k)

-- what is known of what takes a role
abbrev pub known_in : List Task → Roles ℕ → Role → Option Signature
known_in ts inputs role = option_and_then (known_at ts) (role_of inputs role)
