-- How far a slot has come, and what it has then.
use Rattle.std.specs.Prelude.{◌==◌, ◌||◌, ℕ, Bool, true, false, if◌then◌else◌, Option, Some, None}
use Rattle.std.specs.Arc.{arc_value}
use Rattle.calls.specs.declared.recipe.Recipe.{Recipe}
use Rattle.calls.specs.declared.role.Roles.{Roles}
use Rattle.store.specs.Stored.{Stored}
use Rattle.stages.specs.Progress.{Progress}
use Rattle.stages.specs.Progress as progress
use Rattle.stages.specs.declared.stage.Stage.{Stage}
use Rattle.stages.specs.declared.stage.Stage.TheVariants.{Untaken, Running, Joining, Done, Gone, Moved, Failed}

abbrev pub progress_of : Stage → Progress
progress_of (Untaken recipe) = progress.Untaken
progress_of Running = progress.Running
progress_of Joining = progress.Joining
progress_of (Done store) = progress.Made
progress_of Gone = progress.Made
progress_of Moved = progress.Moved
progress_of Failed = progress.Failed

abbrev pub recipe_in : Stage → Option Recipe
recipe_in (Untaken recipe) = Some recipe
recipe_in Running = None
recipe_in Joining = None
recipe_in (Done store) = None
recipe_in Gone = None
recipe_in Moved = None
recipe_in Failed = None

abbrev pub stored_in : Stage → Option Stored
stored_in (Done store) = Some (arc_value store)
stored_in (Untaken recipe) = None
stored_in Running = None
stored_in Joining = None
stored_in Gone = None
stored_in Moved = None
stored_in Failed = None

abbrev pub is_gone : Stage → Bool
is_gone Gone = true
is_gone (Untaken recipe) = false
is_gone Running = false
is_gone Joining = false
is_gone (Done store) = false
is_gone Moved = false
is_gone Failed = false

abbrev pub has_store : Option Stage → Bool
has_store (Some (Done store)) = true
has_store (Some (Untaken recipe)) = false
has_store (Some Running) = false
has_store (Some Joining) = false
has_store (Some Gone) = false
has_store (Some Moved) = false
has_store (Some Failed) = false
has_store None = false

-- a stage where there are so many uses of the slot
abbrev pub released : ℕ → Stage → Stage
released uses (Done store) = if uses == 0 then Gone else Done store
released uses (Untaken recipe) = Untaken recipe
released uses Running = Running
released uses Joining = Joining
released uses Gone = Gone
released uses Moved = Moved
released uses Failed = Failed

-- ..of a slot that was looked at
abbrev pub released_if : Bool → ℕ → Stage → Stage
released_if looked uses stage = if looked then released uses stage else stage

-- whether a slot takes a role
abbrev pub is_at : Option ℕ → ℕ → Bool
is_at None k = false
is_at (Some i) k = i == k

abbrev pub is_among : Roles ℕ → ℕ → Bool
is_among inputs k = is_at inputs.old k || is_at inputs.mask k || is_at inputs.first k || is_at inputs.second k
