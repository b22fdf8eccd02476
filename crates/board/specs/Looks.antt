-- What is to be seen of slots.
use Rattle.std.specs.Prelude.{Bool, true, false, Option, Some, None}
use Rattle.std.specs.Arc.{arc_value}
use Rattle.store.specs.Stored.{Stored}
use Rattle.stages.specs.Views.{State, IsWaiting, IsReady, IsRunning, IsJoining, IsDone, HasFailed, IsGone}
use Rattle.board.specs.declared.look.Look.{Look}
use Rattle.board.specs.declared.look.Look.TheVariants.{Unfinished, Done, Failed, Gone}
use Rattle.stages.specs.declared.stage.Stage.{Stage}
use Rattle.stages.specs.declared.stage.Stage.TheVariants as stage

pub data Seen : Type 0 where
  SeenUnfinished : Seen
  SeenDone : Seen
  SeenFailed : Seen
  SeenGone : Seen

abbrev pub seen_of : State → Seen
seen_of IsWaiting = SeenUnfinished
seen_of IsReady = SeenUnfinished
seen_of IsRunning = SeenUnfinished
seen_of IsJoining = SeenUnfinished
seen_of IsDone = SeenDone
seen_of HasFailed = SeenFailed
seen_of IsGone = SeenGone

abbrev pub seen_in : Look → Seen
seen_in Unfinished = SeenUnfinished
seen_in (Done store) = SeenDone
seen_in Failed = SeenFailed
seen_in Gone = SeenGone

abbrev pub store_in : Look → Option Stored
store_in (Done store) = Some (arc_value store.now)
store_in Unfinished = None
store_in Failed = None
store_in Gone = None

-- ..at a stage
abbrev pub seen_at : Option Stage → Seen
seen_at (Some (stage.Untaken recipe)) = SeenUnfinished
seen_at (Some stage.Running) = SeenUnfinished
seen_at (Some stage.Joining) = SeenUnfinished
seen_at (Some (stage.Done store)) = SeenDone
seen_at (Some stage.Gone) = SeenGone
seen_at (Some stage.Moved) = SeenGone
seen_at (Some stage.Failed) = SeenFailed
seen_at None = SeenGone

abbrev pub is_seen_gone : Seen → Bool
is_seen_gone SeenGone = true
is_seen_gone SeenUnfinished = false
is_seen_gone SeenDone = false
is_seen_gone SeenFailed = false
