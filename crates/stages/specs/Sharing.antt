-- The stores of slots, for a piece.
use Rattle.std.specs.Prelude.{ℕ, ◌==◌, ◌&&◌, List, if◌then◌else◌, Option, Some, None, slice_get, slice_index, slice_set}
use Rattle.std.specs.Option.{option_and_then}
use Rattle.store.specs.Stored.{Stored}
use Rattle.stages.specs.Stages.{stored_in}
use Rattle.stages.specs.declared.stage.Stage.{Stage}
use Rattle.stages.specs.declared.stage.Stage.TheVariants as stage

-- the store of what takes a role
abbrev pub stored_at : List Stage → Option ℕ → Option Stored
stored_at stages None = None
stored_at stages (Some i) = option_and_then stored_in (slice_get stages i)

-- the stages once an old content was claimed
abbrev pub stages_after : List Stage → List ℕ → List ℕ → Option ℕ → List Stage
stages_after stages holds reads None = stages
stages_after stages holds reads (Some i) =
    if (slice_index holds i == 0) && (slice_index reads i == 1) then slice_set stages i stage.Moved else stages
