-- Tasks that are cut into pieces, and what events do to them.
use Rattle.std.specs.Prelude.{ℕ, ◌≡◌, ◌≤◌, ◌<◌, ◌+◌, ◌%◌, ◌==◌, ◌||◌, ◌⊎◌, Bool, true, false, List, [], ◌∷◌, length}
use Rattle.std.specs.Prelude.{Result, Ok, Err, if◌then◌else◌, Option, Some, None, nat_lt, slice_get, slice_index}
use Rattle.std.specs.Arc.{arc_value}
use Rattle.std.specs.List.{All}
use Rattle.std.specs.Option.{option_and_then, option_map_or}
use Rattle.calls.specs.declared.recipe.Recipe.{Recipe}
use Rattle.calls.specs.declared.recipe.Recipe.TheVariants as recipe
use Rattle.calls.specs.Recipes.{known_of}
use Rattle.calls.specs.declared.role.Role.{Role}
use Rattle.kernel.specs.Covers.{Covers}
use Rattle.kernel.specs.declared.block.Block.{Block}
use Rattle.model.specs.Object.{rows_of}
use Rattle.pieces.specs.Parts.{Parts, after_give, cut_at, end_of, given_to, start_of}
use Rattle.pieces.specs.declared.part.Part.TheVariants.{Given as WasGiven}
use Rattle.pieces.specs.declared.pieces.Refused.{Refused}
use Rattle.pieces.specs.declared.pieces.Refused.TheVariants as refused
use Rattle.board.specs.Events.{given_to as given_whole, taken, with_progress}
use Rattle.stages.specs.Numbers.{numbers}
use Rattle.board.specs.Pieces.{AreFor, IsBlockFor, is_whole, recipe_of, rows_for}
use Rattle.stages.specs.Progress.{Progress, Joining, Running}
use Rattle.board.specs.Stores.{stored_for}
use Rattle.stages.specs.Tasks.{Task, object_at}
use Rattle.stages.specs.Views.{View, is_ready, offered}
use Rattle.board.specs.declared.cut.Cut.{Cut}
use Rattle.board.specs.declared.cut.Cut.TheVariants as cut
use Rattle.board.specs.declared.cut.CutTask.{CutTask}
use Rattle.board.specs.declared.look.Refusal.{Refusal}
use Rattle.board.specs.declared.look.Refusal.TheVariants.{Stranger, Twice}
use Rattle.board.specs.declared.piece.Blocks.{Blocks}
use Rattle.board.specs.declared.piece.Blocks.TheVariants.{One, Several}
use Rattle.board.specs.declared.piece.Given.{Given}
use Rattle.board.specs.declared.piece.Given.TheVariants.{Last, More}
use Rattle.board.specs.declared.piece.Piece.{Piece}
use Rattle.board.specs.declared.picking.Picked.{Picked}
use Rattle.board.specs.declared.picking.Picked.TheVariants.{Open, Ready}

-- how far a task has come that was cut
pub data Cutting : Type 0 where
  -- its pieces are taken and given
  Parted : Parts → Cutting
  -- all of so many were given
  Joined : ℕ → Cutting

abbrev pub cutting_of : Cut → Cutting
cutting_of (cut.Underway task) = Parted task.value.pieces
cutting_of (cut.Joined count) = Joined count

-- what there is of a slot whose task was cut
abbrev pub at_slot : {A : Type 0} → List (Option A) → ℕ → Option A
at_slot cs k = option_and_then (λ c. c) (slice_get cs k)

abbrev pub has_more : Cutting → Bool
has_more (Parted p) = nat_lt p.taken (length p.ends)
has_more (Joined count) = false

-- a piece of the slot's task wasn't taken
abbrev pub is_open : List (Option Cutting) → ℕ → Bool
is_open cs k = option_map_or has_more (at_slot cs k) false

-- one slot's task has come so far, and each other's as far as before
abbrev pub IsPut : List (Option Cutting) → ℕ → Option Cutting → List (Option Cutting) → Type 0
IsPut cs k c ds = (j : ℕ) → at_slot ds j ≡ (if j == k then c else at_slot cs j)

-- each task has come as far as before
abbrev pub AreSame : List (Option Cutting) → List (Option Cutting) → Type 0
AreSame cs ds = (j : ℕ) → at_slot ds j ≡ at_slot cs j

-- ---- take

-- the slots that can be taken: those that are ready, and those of which a piece wasn't taken
unfoldable pub offered_on : {N : Type 0} → View N → List (Option Cutting) → List ℕ
offered_on v cs = numbers (λ k. is_ready v.tasks v.progress k || is_open cs k) (length v.tasks)

-- the slot that is taken
abbrev pub picked_on : {N : Type 0} → View N → List (Option Cutting) → ℕ → ℕ
picked_on v cs pick = slice_index (offered_on v cs) (pick % length (offered_on v cs))

-- where it stands: among those that are ready, or among those of which a piece wasn't taken
abbrev pub IsFound : {N : Type 0} → View N → List (Option Cutting) → ℕ → Picked → Type 0
IsFound v cs pick (Ready at) = slice_get (offered v.tasks v.progress) at ≡ Some (picked_on v cs pick)
IsFound v cs pick (Open k) = (k ≡ picked_on v cs pick) × (is_open cs k ≡ true)

-- the next piece of a task that is cut
pub record IsNext (p : Parts) (piece : Piece) : Type 0 where
  pub number : piece.piece ≡ p.taken
  pub start : piece.rows.start ≡ start_of p.ends p.taken
  pub end : piece.rows.end ≡ end_of p.ends p.taken

-- one piece more of it was taken
abbrev pub one_taken : Parts → Parts
one_taken p = record p { taken = p.taken + 1 }

-- edits are never cut
abbrev pub may_cut : Recipe → Bool
may_cut (recipe.Patch patch) = false
may_cut other = true

-- a task that can be taken goes out whole
abbrev pub GoesWhole : List (Option Cutting) → Piece → List (Option Cutting) → Type 0
GoesWhole cs piece ds = (piece.piece ≡ 0) × (is_whole piece ≡ true) × AreSame cs ds

-- ..or it is cut, and its first piece goes out
abbrev pub GoesCut : List (Option Cutting) → List ℕ → Piece → List (Option Cutting) → Type 0
GoesCut cs cuts piece ds = let p = cut_at (rows_for piece) cuts in
    (may_cut (recipe_of piece.recipe) ≡ true) × (1 < length p.ends) × IsNext p piece
    × IsPut cs piece.number (Some (Parted (one_taken p))) ds

-- what goes out of a task that nobody took
abbrev pub GoesOut : List (Option Cutting) → List ℕ → Piece → List (Option Cutting) → Type 0
GoesOut cs cuts piece ds = GoesWhole cs piece ds ⊎ GoesCut cs cuts piece ds

-- the next piece of a task goes out that was cut before
abbrev pub GoesOn : List (Option Cutting) → Piece → List (Option Cutting) → Option Cutting → Type 0
GoesOn cs piece ds (Some (Parted p)) = IsNext p piece × IsPut cs piece.number (Some (Parted (one_taken p))) ds
GoesOn cs piece ds other = ⊥

-- what a board shows once a piece was taken
abbrev pub IsTakenBy : {N : Type 0} → Bool → View N → List (Option Cutting) → List ℕ → Piece → View N
    → List (Option Cutting) → Type 0
IsTakenBy true v cs cuts piece w ds = (w ≡ v) × GoesOn cs piece ds (at_slot cs piece.number)
IsTakenBy false v cs cuts piece w ds = (w ≡ taken v piece.number) × GoesOut cs cuts piece ds

abbrev pub IsTakenFrom : {N : Type 0} → View N → List (Option Cutting) → List ℕ → Piece → View N
    → List (Option Cutting) → Type 0
IsTakenFrom v cs cuts piece w ds = IsTakenBy (is_open cs piece.number) v cs cuts piece w ds

-- ---- give

abbrev pub refusal_of : Refused → Refusal
refusal_of refused.Stranger = Stranger
refusal_of refused.Twice = Twice

-- what a block that is given for a piece is answered: all blocks of the task, once it is the last
abbrev pub told_parts : Result (Option (List Block)) Refused → Result (Option (List Block)) Refusal
told_parts (Ok told) = Ok told
told_parts (Err why) = Err (refusal_of why)

-- ..of a task that is cut
abbrev pub told_cut : Cutting → ℕ → Block → Result (Option (List Block)) Refusal
told_cut (Parted p) piece block = told_parts (given_to p piece block)
told_cut (Joined count) piece block = if nat_lt piece count then Err Twice else Err Stranger

-- ..of one that isn't
abbrev pub told_whole : Result Block Refusal → Result (Option (List Block)) Refusal
told_whole (Ok block) = Ok (Some (block ∷ []))
told_whole (Err why) = Err why

abbrev pub told_by : {N : Type 0} → View N → Option Cutting → ℕ → ℕ → Block
    → Result (Option (List Block)) Refusal
told_by v None k piece block = told_whole (given_whole v k piece block)
told_by v (Some c) k piece block = told_cut c piece block

abbrev pub told_on : {N : Type 0} → View N → List (Option Cutting) → ℕ → ℕ → Block
    → Result (Option (List Block)) Refusal
told_on v cs k piece block = told_by v (at_slot cs k) k piece block

-- the blocks that are told
abbrev pub blocks_of : Blocks → List Block
blocks_of (One block) = block ∷ []
blocks_of (Several blocks) = blocks.items

abbrev pub told_blocks : Given → Option (List Block)
told_blocks More = None
told_blocks (Last blocks) = Some (blocks_of blocks)

-- how far a task that is cut has come, once a block was accepted
abbrev pub after_cut : Cutting → ℕ → Block → Option (List Block) → Cutting
after_cut (Parted p) piece block None = Parted (after_give p piece block)
after_cut (Parted p) piece block (Some blocks) = Joined (length p.ends)
after_cut (Joined count) piece block told = Joined count

-- what the board shows then
abbrev pub left_view : {N : Type 0} → View N → ℕ → Option (List Block) → View N
left_view v k None = v
left_view v k (Some blocks) = with_progress v k Joining

abbrev pub IsLeftBy : {N : Type 0} → View N → List (Option Cutting) → ℕ → ℕ → Block → Option Cutting
    → Option (List Block) → View N → List (Option Cutting) → Type 0
IsLeftBy v cs k piece block None told w ds = (w ≡ left_view v k told) × AreSame cs ds
IsLeftBy v cs k piece block (Some c) told w ds =
    (w ≡ left_view v k told) × IsPut cs k (Some (after_cut c piece block told)) ds

-- the blocks of a slot's task follow one another, and each has what the task makes in its rows
abbrev pub AreBlocksFor : List Task → ℕ → Given → Type 0
AreBlocksFor ts k (Last (Several blocks)) =
    Covers 0 (rows_of (object_at ts k).shape) blocks.items × All (IsBlockFor ts k) blocks.items
AreBlocksFor ts k given = Unit {0}

-- blocks are to come of a slot's task that is cut
abbrev pub is_parted : Option Cutting → Bool
is_parted (Some (Parted p)) = true
is_parted (Some (Joined count)) = false
is_parted None = false

-- ---- what is true of tasks that are cut

-- what the pieces of a slot's task share is what it needs, they are of its rows, and each block that was given has what
-- it makes there
pub record IsShared (ts : List Task) (k : ℕ) (task : CutTask) : Type 0 where
  pub needs : AreFor ts k (arc_value task.recipe) task.inputs
  pub rows : task.pieces.rows ≡ rows_of (known_of (arc_value task.recipe)).shape
  pub right : (j : ℕ) (block : Block) → slice_get task.pieces.parts j ≡ Some (WasGiven block)
      → IsBlockFor ts k block

abbrev pub IsCutFor : List Task → Option Progress → ℕ → Cut → Type 0
IsCutFor ts p k (cut.Underway task) = (p ≡ Some Running) × IsShared ts k task.value
IsCutFor ts p k (cut.Joined count) = p ≡ Some Joining

-- ---- the tasks themselves

abbrev pub task_of_cut : Cut → Option CutTask
task_of_cut (cut.Underway task) = Some task.value
task_of_cut (cut.Joined count) = None

-- the task of a slot of which pieces are taken and given
abbrev pub task_at : List (Option Cut) → ℕ → Option CutTask
task_at cuts k = option_and_then task_of_cut (at_slot cuts k)

-- one piece more was taken of it
abbrev pub one_more : CutTask → CutTask
one_more task = record task { pieces = one_taken task.pieces }

-- the next piece of the task of a slot
pub record IsOf (number : ℕ) (task : CutTask) (piece : Piece) : Type 0 where
  pub number_is : piece.number ≡ number
  pub next : IsNext task.pieces piece
  pub recipe_is : recipe_of piece.recipe ≡ arc_value task.recipe
  pub inputs_are : (role : Role) → stored_for piece.inputs role ≡ stored_for task.inputs role
  pub rises : piece.rows.start < piece.rows.end
  pub inside : piece.rows.end ≤ task.pieces.rows

-- what is there of a task has the recipe and the stores that it had
abbrev pub KeepsTask : Option CutTask → Option CutTask → Type 0
KeepsTask (Some was) (Some is) = (is.recipe ≡ was.recipe) × (is.inputs ≡ was.inputs)
KeepsTask was None = Unit {0}
KeepsTask None (Some is) = ⊥

-- something holds of several blocks
abbrev pub IfSeveral : Given → (List Block → Type 0) → Type 0
IfSeveral (Last (Several blocks)) P = P blocks.items
IfSeveral given P = Unit {0}

-- ---- what is true of a board

pub record AreCuts (ts : List Task) (ps : List Progress) (cuts : List (Option Cut)) : Type 0 where
  pub sized : length cuts ≤ length ts
  pub each_is : (k : ℕ) (c : Cut) → at_slot cuts k ≡ Some c → IsCutFor ts (slice_get ps k) k c
