-- Slots that take the roles of recipes.
use Rattle.std.specs.Prelude.{ℕ, ◌≡◌, false, List, Option, Some, None, slice_get}
use Rattle.calls.specs.declared.recipe.Recipe.{Recipe}
use Rattle.calls.specs.declared.role.Role.{Role}
use Rattle.calls.specs.declared.role.Roles.{Roles}
use Rattle.calls.specs.Recipes.{known_by}
use Rattle.calls.specs.Roles.{role_of}
use Rattle.model.specs.declared.shape.Signature.{Signature}
use Rattle.board.specs.Looks.{is_seen_gone, seen_at}
use Rattle.stages.specs.Tasks.{Task, known_at}
use Rattle.stages.specs.declared.stage.Stage.{Stage}

-- a role that is read has a slot with such an object, which isn't gone, and no other role has one
abbrev pub IsThere : List Task → List Stage → Option Signature → Option ℕ → Type 0
IsThere ts stages (Some known) (Some i) =
    (known_at ts i ≡ Some known) × (is_seen_gone (seen_at (slice_get stages i)) ≡ false)
IsThere ts stages (Some known) None = ⊥
IsThere ts stages None (Some i) = ⊥
IsThere ts stages None None = Unit {0}

-- each role of a recipe
abbrev pub AreThere : List Task → List Stage → Recipe → Roles ℕ → Type 0
AreThere ts stages recipe inputs = (role : Role) → IsThere ts stages (known_by recipe role) (role_of inputs role)
