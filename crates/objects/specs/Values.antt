-- What is there of objects' values, and the edits that wait on them.
use Rattle.std.specs.Prelude.{◌≡◌, ℕ, Bool, true, false, List, [], ◌∷◌, MatchOption, Option, Some, None}
use Rattle.std.specs.Arc.{arc_value}
use Rattle.calls.specs.Stores.{IsStoreOf}
use Rattle.model.specs.declared.shape.Signature.{Signature}
use Rattle.model.specs.Marks.{Mark, Unmarked, Told}
use Rattle.model.specs.Marks as mark
use Rattle.model.specs.Object.{Content, IsObject, Object, no_content, signature_of}
use Rattle.objects.specs.declared.value.Value.{Value}
use Rattle.objects.specs.declared.value.Value.TheVariants.{New, Here, Both, Open, Failed}
use Rattle.patch.specs.declared.edits.Edit.{Edit}
use Rattle.patch.specs.Edits.{edited}
use Rattle.store.specs.Stored.{Stored, content_of}

-- the map of a value once edits of it are done, where tickets stand for objects; a failed one has none, by agreement
abbrev pub map_with : {T : Type 0} → (T → Object) → List Edit → Value T → Content
map_with object_of edits New = edited edits no_content
map_with object_of edits (Here store) = edited edits (content_of (arc_value store))
map_with object_of edits (Both store ticket) = edited edits (content_of (arc_value store))
map_with object_of edits (Open ticket) = edited edits (object_of ticket).content
map_with object_of edits Failed = no_content

abbrev pub mark_by : List Edit → Mark
mark_by [] = Unmarked
mark_by (e ∷ es) = mark.Open

-- whether a value is there once edits of it are done
abbrev pub mark_with : {T : Type 0} → List Edit → Value T → Mark
mark_with edits New = mark_by edits
mark_with edits (Here store) = mark_by edits
mark_with edits (Both store ticket) = mark_by edits
mark_with edits (Open ticket) = mark.Open
mark_with edits Failed = Told

-- what there is of it
abbrev pub stored_in : {T : Type 0} → Value T → Option Stored
stored_in New = None
stored_in (Here store) = Some (arc_value store)
stored_in (Both store ticket) = Some (arc_value store)
stored_in (Open ticket) = None
stored_in Failed = None

abbrev pub ticket_in : {T : Type 0} → Value T → Option T
ticket_in New = None
ticket_in (Here store) = None
ticket_in (Both store ticket) = Some ticket
ticket_in (Open ticket) = Some ticket
ticket_in Failed = None

-- a ticket stands for an object of which this is known, whose store may be there
abbrev pub IsTicketOf : {T : Type 0} → (T → Object) → Signature → Option Stored → T → Type 0
IsTicketOf object_of of stored ticket = IsObject (object_of ticket) × (signature_of (object_of ticket) ≡ of)
    × MatchOption stored (Unit {0}) (λ s. (i j : ℕ) → (object_of ticket).content i j ≡ content_of s i j)

-- a store and a ticket are those of one object of which this is known
abbrev pub IsValueOf : {T : Type 0} → (T → Object) → Signature → Value T → Type 0
IsValueOf object_of of value = MatchOption (stored_in value) (Unit {0}) (IsStoreOf of)
    × MatchOption (ticket_in value) (Unit {0}) (IsTicketOf object_of of (stored_in value))

-- a ticket stands for a value on which no edits wait
abbrev pub is_ready_with : {T : Type 0} → List Edit → Value T → Bool
is_ready_with [] (Both store ticket) = true
is_ready_with [] (Open ticket) = true
is_ready_with edits value = false

-- its store is there, and no edits wait
abbrev pub is_finished_with : {T : Type 0} → List Edit → Value T → Bool
is_finished_with [] (Here store) = true
is_finished_with [] (Both store ticket) = true
is_finished_with edits value = false

-- there is more to it than that it has no entries
abbrev pub IsMade : {T : Type 0} → Value T → Type 0
IsMade New = ⊥
IsMade value = Unit {0}

-- a value that didn't fail has a ticket
abbrev pub HasTicket : {T : Type 0} → Value T → Type 0
HasTicket New = ⊥
HasTicket (Both store ticket) = Unit {0}
HasTicket (Open ticket) = Unit {0}
HasTicket Failed = Unit {0}
HasTicket (Here store) = ⊥
