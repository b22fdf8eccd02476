-- Objects as they are kept.
use Rattle.std.specs.Prelude.{◌≡◌, Bool, false, true, Result, Ok, Err}
use Rattle.calls.specs.Stores.{object_with}
use Rattle.model.specs.Marks.{Mark, MayBecome, Unmarked, Told, is_told, is_unmarked}
use Rattle.model.specs.Object.{Object, no_content}
use Rattle.objects.specs.declared.kept.Kept.{Kept}
use Rattle.objects.specs.declared.kept.Refusal.{Refusal}
use Rattle.objects.specs.declared.kept.Refusal.TheVariants as refusal
use Rattle.objects.specs.Values.{is_finished_with, is_ready_with, map_with, mark_with}
use Rattle.runner.specs.declared.runner.Runner.{Ghosts}

-- the object that is kept
abbrev pub object_in : {R T : Type 0} {g : Ghosts R T} → Kept R T g → Object
object_in {g = g} o = object_with o.of (map_with g.object_of o.edits.items o.value)

abbrev pub mark_in : {R T : Type 0} {g : Ghosts R T} → Kept R T g → Mark
mark_in o = mark_with o.edits.items o.value

-- a ticket stands for it
abbrev pub is_ready : {R T : Type 0} {g : Ghosts R T} → Kept R T g → Bool
is_ready o = is_ready_with o.edits.items o.value

-- its store is there
abbrev pub is_finished : {R T : Type 0} {g : Ghosts R T} → Kept R T g → Bool
is_finished o = is_finished_with o.edits.items o.value

-- how the finishing of an object ends: its value is there; or memory was refused, and it is as it was; or it failed
abbrev pub Finishes : {R T : Type 0} {g : Ghosts R T} → Kept R T g → Kept R T g → Result (Unit {0}) Refusal → Type 0
Finishes before after (Ok done) =
    (is_told (mark_in before) ≡ false) × (object_in after ≡ object_in before) × (mark_in after ≡ Unmarked)
    × (is_finished after ≡ true)
Finishes before after (Err refusal.NoMemory) =
    (object_in after ≡ object_in before) × MayBecome (mark_in before) (mark_in after)
Finishes before after (Err refusal.Failed) = (is_unmarked (mark_in before) ≡ false)
    × (object_in after ≡ record (object_in before) { content = no_content }) × (mark_in after ≡ Told)
