-- What becomes of a board.
use Rattle.std.specs.Option.{option_map}
use Rattle.std.specs.Prelude.{ℕ, ◌+◌, Bool, true, List, length, Option, Some, None, Result, Ok, Err}
use Rattle.std.specs.Prelude.{if◌then◌else◌, nat_lt, slice_get, slice_index}
use Rattle.board.specs.Cuts.{Cutting, after_cut, at_slot, left_view, told_by}
use Rattle.board.specs.Events.{with_holds, with_progress}
use Rattle.stages.specs.Progress.{Made, is_joining}
use Rattle.stages.specs.Views.{View}
use Rattle.board.specs.declared.look.Refusal.{Refusal}
use Rattle.desk.specs.Desks.{is_on, told}
use Rattle.desk.specs.Ends.{felled, felled_cut, handed_in}
use Rattle.desk.specs.declared.ticket.Ticket.{Ticket}
use Rattle.history.specs.Histories.{Told}
use Rattle.kernel.specs.declared.block.Block.{Block}
use Rattle.tasks.specs.declared.work.Outcome.{Outcome}
use Rattle.tasks.specs.declared.work.Outcome.TheVariants.{Joined, Made as WasMade, Part, Refused}

-- of a task that was cut there are several blocks in the end
abbrev pub are_kept : Option (List Block) → Bool
are_kept None = true
are_kept (Some blocks) = nat_lt 1 (length blocks)

-- how far a task has come once a block was accepted
abbrev pub given_cut : Option Cutting → ℕ → Block → Option (List Block) → Option Cutting
given_cut c piece block told = option_map (λ d. after_cut d piece block told) c

-- what the board shows by what a block is answered: a task fails of which it is refused, or that isn't cut
abbrev pub given_view : {N : Type 0} → View N → ℕ → Result (Option (List Block)) Refusal → View N
given_view v k (Ok told) = if are_kept told then left_view v k told else felled (left_view v k told) k
given_view v k (Err why) = felled v k

-- ..how far the task has come
abbrev pub cut_by : {N : Type 0} → View N → Option Cutting → ℕ → ℕ → Block
    → Result (Option (List Block)) Refusal → Option Cutting
cut_by v c k piece block (Ok told) = if are_kept told then given_cut c piece block told
    else felled_cut (left_view v k told) (given_cut c piece block told) k
cut_by v c k piece block (Err why) = felled_cut v c k

-- ..and which blocks are to be joined
abbrev pub left_by : Result (Option (List Block)) Refusal → Option (List Block)
left_by (Ok told) = if are_kept told then told else None
left_by (Err why) = None

-- what the board shows once this came of a piece of a slot's task, which has come so far
abbrev pub ended : {N : Type 0} → View N → Option Cutting → ℕ → ℕ → Outcome → View N
ended v c k piece (WasMade store) = handed_in v c k
ended v c k piece (Joined store) = if is_joining (slice_get v.progress k) then with_progress v k Made else v
ended v c k piece (Part block) = given_view v k (told_by v c k piece block)
ended v c k piece Refused = felled v k

-- how far the task has come then
abbrev pub cut_after : {N : Type 0} → View N → Option Cutting → ℕ → ℕ → Outcome → Option Cutting
cut_after v c k piece (WasMade store) = c
cut_after v c k piece (Joined store) = if is_joining (slice_get v.progress k) then None else c
cut_after v c k piece (Part block) = cut_by v c k piece block (told_by v c k piece block)
cut_after v c k piece Refused = felled_cut v c k

-- the blocks that are to be joined then
abbrev pub left_after : {N : Type 0} → View N → Option Cutting → ℕ → ℕ → Outcome → Option (List Block)
left_after v c k piece (Part block) = left_by (told_by v c k piece block)
left_after v c k piece outcome = None

-- work on a slot's task was done, if the slot is on the board: what the board shows then
abbrev pub finished_on : ℕ → View Told → List (Option Cutting) → Ticket Told → ℕ → Outcome → View Told
finished_on epoch v cs ticket piece outcome =
    if is_on told epoch v ticket then ended v (at_slot cs ticket.slot) ticket.slot piece outcome else v

-- ..how far the task has come
abbrev pub cut_on : ℕ → View Told → List (Option Cutting) → Ticket Told → ℕ → Outcome → Option Cutting
cut_on epoch v cs ticket piece outcome = if is_on told epoch v ticket
    then cut_after v (at_slot cs ticket.slot) ticket.slot piece outcome else at_slot cs ticket.slot

-- ..and the blocks that are to be joined
abbrev pub left_on : ℕ → View Told → List (Option Cutting) → Ticket Told → ℕ → Outcome
    → Option (List Block)
left_on epoch v cs ticket piece outcome =
    if is_on told epoch v ticket then left_after v (at_slot cs ticket.slot) ticket.slot piece outcome else None

-- one hold more of a ticket's slot, if it is on the board
abbrev pub held_on : ℕ → View Told → Ticket Told → View Told
held_on epoch v ticket =
    if is_on told epoch v ticket then with_holds v ticket.slot (slice_index v.holds ticket.slot + 1) else v
