-- What entries of a log tell.
use Rattle.std.specs.Prelude.{ℕ, ◌+◌, Option, Some, None}
use Rattle.std.specs.Option.{option_map_or}
use Rattle.calls.specs.declared.recipe.Recipe.{Recipe}
use Rattle.calls.specs.declared.role.Role.{Role}
use Rattle.calls.specs.declared.role.Roles.{Roles}
use Rattle.calls.specs.Recipes.{known_of, meaning_of}
use Rattle.calls.specs.Roles.{role_of}
use Rattle.calls.specs.Stores.{object_with}
use Rattle.history.specs.declared.made.Made.{Made}
use Rattle.history.specs.Histories.{made_from, object_in}
use Rattle.model.specs.Object.{Content, no_content}

-- a number that is greater than that of each input
abbrev pub depth_at : Option (ℕ × Made) → ℕ
depth_at None = 0
depth_at (Some v) = v.0 + 1

abbrev pub depth : Roles (ℕ × Made) → ℕ
depth inputs = depth_at inputs.old + depth_at inputs.mask + depth_at inputs.first + depth_at inputs.second

-- the maps of the objects that were made; no object, no map
abbrev pub maps_told : Roles (ℕ × Made) → Role → Content
maps_told inputs role = option_map_or (λ v. (object_in v.1).content) (role_of inputs role) no_content

-- what a recipe makes of them
abbrev pub told : Recipe → Roles (ℕ × Made) → ℕ × Made
told recipe inputs =
    (depth inputs + 1, made_from (object_with (known_of recipe) (meaning_of recipe (maps_told inputs))))
