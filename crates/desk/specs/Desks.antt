-- Tickets, and the slots that they are of.
use Rattle.std.specs.Prelude.{ℕ, ◌≡◌, ◌==◌, ◌&&◌, Bool, false, List, Option, Some, None, slice_get}
use Rattle.std.specs.Option.{option_map_or}
use Rattle.stages.specs.Tasks.{Task, object_at}
use Rattle.stages.specs.Views.{View}
use Rattle.desk.specs.declared.ticket.Ticket.{Ticket}
use Rattle.history.specs.Histories.{Told, object_of}
use Rattle.model.specs.Object.{Object}

-- what contracts see of a note is what it tells
abbrev pub told : Told → Told
told note = note

-- the object that a ticket stands for, by what its note tells
abbrev pub object_in : {N : Type 0} → (N → Told) → Ticket N → Object
object_in told ticket = object_of (told ticket.note)

-- each note on a board tells the object of its slot
abbrev pub AreTold : {N : Type 0} → (N → Told) → View N → Type 0
AreTold told v = (k : ℕ) (note : _) → slice_get v.notes k ≡ Some note → object_at v.tasks k ≡ object_of (told note)

-- a slot is that of a ticket; none, of none
abbrev pub IsPlaceOf : {N : Type 0} → (N → Told) → List Task → Option ℕ → Option (Ticket N) → Type 0
IsPlaceOf told ts (Some slot) (Some ticket) = object_at ts slot ≡ object_in told ticket
IsPlaceOf told ts None None = Unit {0}
IsPlaceOf told ts place ticket = ⊥

-- a ticket's slot is on a board: it was given in the board's epoch, and the slot's note is of its place
abbrev pub is_on : {N : Type 0} → (N → Told) → ℕ → View N → Ticket N → Bool
is_on told epoch v ticket = (ticket.epoch == epoch)
    && option_map_or (λ note. (told note).place == (told ticket.note).place) (slice_get v.notes ticket.slot) false
