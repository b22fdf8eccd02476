-- What is true of each board: of its tasks and how far they have come, and of what it keeps beside them so as not to
-- look at each slot again.
use Rattle.std.specs.Prelude.{ℕ, ◌≡◌, ◌≤◌, ◌<◌, ◌+◌, true, List, length, map, Some, slice_get, slice_index}
use Rattle.std.specs.Option.{option_map}
use Rattle.calls.specs.declared.recipe.Recipe.{Recipe}
use Rattle.calls.specs.declared.role.Role.{Role}
use Rattle.calls.specs.Recipes.{known_by}
use Rattle.model.specs.Object.{IsObject}
use Rattle.runner.specs.Tickets.{IsStoreFor}
use Rattle.store.specs.Stored.{Stored}
use Rattle.stages.specs.Flows.{Flows, IsWaked}
use Rattle.stages.specs.Progress.{Progress, is_begun}
use Rattle.stages.specs.Stages.{has_store, is_gone, progress_of, recipe_in, stored_in}
use Rattle.stages.specs.Tasks.{Task, known_in, object_at}
use Rattle.stages.specs.Views.{offered, reads_in}
use Rattle.stages.specs.declared.stage.Stage.{Stage}

-- what takes the roles of tasks is what their recipes read
abbrev pub AreFit : List Task → Type 0
AreFit ts = (k : ℕ) (t : Task) → slice_get ts k ≡ Some t → (role : Role)
    → known_in ts t.inputs role ≡ known_by t.recipe role

-- the reads left of each slot are counted
pub record IsCounted (ts : List Task) (ps : List Progress) (holds reads : List ℕ) : Type 0 where
  pub holds_sized : length holds ≡ length ts
  pub reads_sized : length reads ≡ length ts
  pub counted : (k : ℕ) → slice_index reads k ≡ reads_in ts ps k

-- what a slot has at its stage, where there are so many uses of it
pub record IsKeptAt (ts : List Task) (k uses : ℕ) (st : Stage) : Type 0 where
  -- the recipe is the task's
  pub recipe : (r : Recipe) → recipe_in st ≡ Some r → option_map (λ t. t.recipe) (slice_get ts k) ≡ Some r
  -- the store is the object's
  pub right : (s : Stored) → stored_in st ≡ Some s → IsStoreFor (object_at ts k) s
  -- it is there exactly as long as somebody needs it
  pub used : has_store (Some st) ≡ true → 0 < uses
  pub gone : is_gone st ≡ true → uses ≡ 0
  pub object : is_begun (progress_of st) ≡ true → IsObject (object_at ts k)

abbrev pub IsKept : List Task → List Stage → List ℕ → List ℕ → Type 0
IsKept ts stages holds reads = (k : ℕ) (st : Stage) → slice_get stages k ≡ Some st
    → IsKeptAt ts k (slice_index holds k + slice_index reads k) st

pub record IsSound (ts : List Task) (stages : List Stage) (holds reads : List ℕ) (readers : List (List ℕ))
    (ready : List ℕ) (room : ℕ) : Type 0 where
  pub flows : Flows ts (map progress_of stages)
  pub fits : AreFit ts
  pub counted : IsCounted ts (map progress_of stages) holds reads
  pub kept : IsKept ts stages holds reads
  pub waked : IsWaked ts (map progress_of stages) readers
  pub offers : ready ≡ offered ts (map progress_of stages)
  pub roomy : length ts ≤ room
