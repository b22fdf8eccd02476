-- Objects by their numbers.
use Rattle.std.specs.Prelude.{◌==◌, ◌≡◌, Bool, false, Result, Ok, Err}
use Rattle.std.specs.BTreeMap.{btree_map_len, get}
use Rattle.std.specs.Option.{option_map, option_map_or}
use Rattle.std.specs.Ordering.{nat_cmp}
use Rattle.calls.specs.declared.obj.Obj.{Obj}
use Rattle.model.specs.Marks.{Mark, Settles, State, Unmarked, failed, is_unmarked, told, with_mark}
use Rattle.model.specs.Object.{Object}
use Rattle.model.specs.Run.{with_object}
use Rattle.objects.specs.declared.kept.Refusal.{Refusal}
use Rattle.objects.specs.declared.kept.Refusal.TheVariants as refusal
use Rattle.objects.specs.declared.table.Table.{Table}
use Rattle.objects.specs.Kept.{is_finished, is_ready, mark_in, object_in}
use Rattle.runner.specs.declared.runner.Runner.{Ghosts}

-- the objects that are kept, and their marks
abbrev pub state_in : {R T : Type 0} {g : Ghosts R T} → Table R T g → State Obj
state_in table = record {
  environment = record {
    find_object = λ o. option_map object_in (get nat_cmp table.by_number o.0);
    count = btree_map_len table.by_number;
  };
  marks = λ o. option_map_or mark_in (get nat_cmp table.by_number o.0) Unmarked;
}

-- a ticket stands for an object
abbrev pub is_ready_at : {R T : Type 0} {g : Ghosts R T} → Table R T g → Obj → Bool
is_ready_at table o = option_map_or is_ready (get nat_cmp table.by_number o.0) false

-- its store is there
abbrev pub is_finished_at : {R T : Type 0} {g : Ghosts R T} → Table R T g → Obj → Bool
is_finished_at table o = option_map_or is_finished (get nat_cmp table.by_number o.0) false

-- whether two numbers are one object's
abbrev pub same_object : Obj → Obj → Bool
same_object a b = a.0 == b.0

-- one object, which is there, is another, with such a mark
abbrev pub with_kept : State Obj → Obj → Object → Mark → State Obj
with_kept s o object mark =
    with_mark same_object s (with_object same_object s.environment o object s.environment.count) o mark

-- how the finishing of an object's value ends
abbrev pub Reads : State Obj → Obj → State Obj → Result (Unit {0}) Refusal → Type 0
Reads before o after (Ok done) =
    (told before o ≡ false) × (after ≡ with_mark same_object before before.environment o Unmarked)
Reads before o after (Err refusal.NoMemory) = Settles before after
Reads before o after (Err refusal.Failed) =
    (is_unmarked (before.marks o) ≡ false) × (after ≡ failed same_object before before.environment o)
