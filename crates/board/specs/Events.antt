-- What events do to a board, as it is seen.
use Rattle.std.specs.Prelude.{◌||◌, ℕ, ◌≡◌, ◌++◌, ◌∷◌, ◌==◌, ◌&&◌, not, true, false, List, [], length, nat_lt}
use Rattle.std.specs.Prelude.{Result, Ok, Err, if◌then◌else◌, Bool, Option, Some, None, slice_get, slice_index}
use Rattle.std.specs.Prelude.{slice_set}
use Rattle.std.specs.Option.{option_and_then, option_map_or}
use Rattle.std.specs.Global.{Box}
use Rattle.calls.specs.declared.recipe.Given.{Given as There}
use Rattle.calls.specs.declared.recipe.Recipe.{Recipe}
use Rattle.calls.specs.declared.recipe.Recipe.TheVariants as recipe
use Rattle.calls.specs.declared.role.Role.{Role}
use Rattle.calls.specs.declared.role.Roles.{Roles}
use Rattle.calls.specs.Recipes.{known_by}
use Rattle.calls.specs.Roles.{no_roles, role_of}
use Rattle.kernel.specs.declared.block.Block.{Block}
use Rattle.model.specs.declared.shape.Signature.{Signature}
use Rattle.board.specs.Falls.{fallen}
use Rattle.board.specs.Pieces.{fits_slot}
use Rattle.stages.specs.Places.{each}
use Rattle.stages.specs.Progress.{Progress, Untaken, Running, Made, Moved, Failed, is_failed, is_joining, is_running}
use Rattle.stages.specs.Progress.{is_unfinished}
use Rattle.stages.specs.Tasks.{Task, known_at}
use Rattle.board.specs.declared.look.Refusal.{Refusal}
use Rattle.board.specs.declared.look.Refusal.TheVariants.{Stranger, Twice}
use Rattle.stages.specs.Views.{is_ready, State, IsWaiting, IsReady, IsRunning, IsJoining, IsDone, HasFailed, IsGone}
use Rattle.stages.specs.Views.{View, reads_in, state_of}

abbrev pub is_gone : State → Bool
is_gone IsGone = true
is_gone IsWaiting = false
is_gone IsReady = false
is_gone IsRunning = false
is_gone IsJoining = false
is_gone IsDone = false
is_gone HasFailed = false

abbrev pub with_holds : {N : Type 0} → View N → ℕ → ℕ → View N
with_holds v k holds = record v { holds = slice_set v.holds k holds }

-- ---- issue

-- a role that the recipe reads has a slot whose object is what it reads, with a store that is there or to come
abbrev pub IsTaken : {N : Type 0} → View N → Option Signature → Option ℕ → Type 0
IsTaken v (Some known) (Some i) = (known_at v.tasks i ≡ Some known) × (is_gone (state_of v i) ≡ false)
IsTaken v (Some known) None = ⊥
IsTaken v None (Some i) = ⊥
IsTaken v None None = Unit {0}

abbrev pub Accepts : {N : Type 0} → View N → Recipe → Roles ℕ → Type 0
Accepts v recipe inputs = (role : Role) → IsTaken v (known_by recipe role) (role_of inputs role)

-- a new slot has failed where an input has
abbrev pub first_progress : List Progress → Roles ℕ → Progress
first_progress ps inputs = if each (λ i. not (is_failed (slice_get ps i))) inputs then Untaken else Failed

-- the next slot has the task and one hold
abbrev pub issued : {N : Type 0} → View N → N → Recipe → Roles ℕ → View N
issued v note recipe inputs = record {
  tasks = v.tasks ++ record { recipe = recipe; inputs = inputs } ∷ [];
  notes = v.notes ++ note ∷ [];
  progress = v.progress ++ first_progress v.progress inputs ∷ [];
  holds = v.holds ++ 1 ∷ [];
}

-- ---- take

-- an old content that a task reads, and nobody else needs
abbrev pub sole_in : List Task → List Progress → List ℕ → Option ℕ → Option ℕ
sole_in ts ps holds None = None
sole_in ts ps holds (Some i) = if (slice_index holds i == 0) && (reads_in ts ps i == 1) then Some i else None

-- the slot whose store goes into the piece
abbrev pub moved_by : {N : Type 0} → View N → ℕ → Option ℕ
moved_by v k = option_and_then (λ t. sole_in v.tasks v.progress v.holds t.inputs.old) (slice_get v.tasks k)

abbrev pub with_progress : {N : Type 0} → View N → ℕ → Progress → View N
with_progress v k p = record v { progress = slice_set v.progress k p }

abbrev pub with_moved : List Progress → Option ℕ → List Progress
with_moved ps None = ps
with_moved ps (Some i) = slice_set ps i Moved

abbrev pub taken : {N : Type 0} → View N → ℕ → View N
taken v k = record v { progress = with_moved (slice_set v.progress k Running) (moved_by v k) }

-- ---- fail

-- it can be taken, or somebody works on it
abbrev pub may_fail : {N : Type 0} → View N → ℕ → Bool
may_fail v k = is_ready v.tasks v.progress k
    || (is_running (slice_get v.progress k) || is_joining (slice_get v.progress k))

-- it has failed, and so has each unfinished slot that rests on it
abbrev pub failed : {N : Type 0} → View N → ℕ → View N
failed v k = record v { progress = fallen v.tasks (slice_set v.progress k Failed) }

-- ---- a store that is there

-- the next slot has one hold and is made at once: its task is a store that is there
abbrev pub placed : {N : Type 0} → View N → N → Box There → View N
placed v note given = with_progress (issued v note (recipe.Given given) no_roles) (length v.tasks) Made

-- ---- what nobody can ask for

-- it is to come, nobody holds it, and no slot that is to come reads it
abbrev pub is_unasked : {N : Type 0} → View N → ℕ → Bool
is_unasked v k = option_map_or is_unfinished (slice_get v.progress k) false
    && (not (nat_lt 0 (slice_index v.holds k)) && not (nat_lt 0 (reads_in v.tasks v.progress k)))

-- ---- hold and let_go

-- it isn't gone, and one hold more can be counted
abbrev pub may_hold : {N : Type 0} → View N → ℕ → Bool
may_hold v k = not (is_gone (state_of v k)) && nat_lt (slice_index v.holds k) 18446744073709551615

-- it isn't gone, and has a hold left
abbrev pub may_let_go : {N : Type 0} → View N → ℕ → Bool
may_let_go v k = not (is_gone (state_of v k)) && nat_lt 0 (slice_index v.holds k)

-- ---- give

-- what a block that is given for a piece of a slot is answered, whose task is one piece
abbrev pub given_to : {N : Type 0} → View N → ℕ → ℕ → Block → Result Block Refusal
given_to v k piece block = if (piece == 0) && is_joining (slice_get v.progress k) then Err Twice
    else (if (piece == 0) && (is_running (slice_get v.progress k) && fits_slot v.tasks k block) then Ok block
    else Err Stranger)

abbrev pub empty_view : {N : Type 0} → View N
empty_view = record { tasks = []; notes = []; progress = []; holds = [] }
