-- A board as it is seen: its slots in order, what never changes of them apart from what does; and what follows.
use Rattle.std.specs.Prelude.{ℕ, ◌+◌, ◌==◌, ◌&&◌, Bool, false, if◌then◌else◌, List, [], ◌∷◌, length, Option, Some}
use Rattle.std.specs.Prelude.{None, slice_get, slice_index}
use Rattle.std.specs.Option.{option_map_or}
use Rattle.stages.specs.Numbers.{numbers}
use Rattle.stages.specs.Places.{each, places_of}
use Rattle.stages.specs.Progress.{Progress, Untaken, Running, Joining, Made, Moved, Failed, is_made, is_unfinished}
use Rattle.stages.specs.Progress.{is_untaken}
use Rattle.stages.specs.Tasks.{Task}

pub record View (N : Type 0) : Type 0 where
  pub tasks : List Task
  pub notes : List N
  pub progress : List Progress
  pub holds : List ℕ

-- the states of a slot
pub data State : Type 0 where
  IsWaiting : State
  IsReady : State
  IsRunning : State
  IsJoining : State
  IsDone : State
  HasFailed : State
  IsGone : State

-- ---- what follows

-- how many input places of unfinished slots name a slot
abbrev pub reads_in : List Task → List Progress → ℕ → ℕ
reads_in [] ps k = 0
reads_in (t ∷ ts) [] k = 0
reads_in (t ∷ ts) (p ∷ ps) k = (if is_unfinished p then places_of t.inputs k else 0) + reads_in ts ps k

-- whether each input of a slot was made
abbrev pub is_fed : List Task → List Progress → ℕ → Bool
is_fed ts ps k = option_map_or (λ t. each (λ i. is_made (slice_get ps i)) t.inputs) (slice_get ts k) false

-- whether a slot can be taken
abbrev pub is_ready : List Task → List Progress → ℕ → Bool
is_ready ts ps k = is_untaken (slice_get ps k) && is_fed ts ps k

-- the slots that can be taken, rising
unfoldable pub offered : List Task → List Progress → List ℕ
offered ts ps = numbers (is_ready ts ps) (length ts)

-- the holds of a slot and the reads left of it
abbrev pub uses_of : List Task → List Progress → List ℕ → ℕ → ℕ
uses_of ts ps hs k = slice_index hs k + reads_in ts ps k

abbrev pub state_with : Option Progress → Bool → ℕ → State
state_with (Some Untaken) fed uses = if fed then IsReady else IsWaiting
state_with (Some Running) fed uses = IsRunning
state_with (Some Joining) fed uses = IsJoining
state_with (Some Made) fed uses = if uses == 0 then IsGone else IsDone
state_with (Some Moved) fed uses = IsGone
state_with (Some Failed) fed uses = HasFailed
state_with None fed uses = IsGone

-- the state of a slot; where no slot has the number, it is gone
abbrev pub state_of : {N : Type 0} → View N → ℕ → State
state_of v k =
    state_with (slice_get v.progress k) (is_fed v.tasks v.progress k) (uses_of v.tasks v.progress v.holds k)
