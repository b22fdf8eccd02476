-- Objects whose work may be put off and may fail for want of memory (GrB_NONBLOCKING), and what calls make of them. A
-- failure is told by the first call that asks for the value of the object (GrB_INVALID_OBJECT).
use Rattle.std.specs.Prelude.{◌≡◌, ◌⊎◌, ◌&&◌, ◌||◌, not, Bool, true, false, if◌then◌else◌, Option, Some, None}
use Rattle.std.specs.List.{list_all}
use Rattle.std.specs.Option.{option_map_or}
use Rattle.model.specs.declared.call.Act.{Act}
use Rattle.model.specs.declared.call.Act.TheVariants.{Resize, Build, Set, Remove, Get, Nvals, Print, Reduce, Wait}
use Rattle.model.specs.declared.call.Call.{Call}
use Rattle.model.specs.declared.call.Call.TheVariants.{Create, Dup, On, Operate}
use Rattle.model.specs.declared.call.Operation.{Operation}
use Rattle.model.specs.declared.call.Out.{Out}
use Rattle.model.specs.Object.{no_content}
use Rattle.model.specs.Renamed.{inputs_of}
use Rattle.model.specs.Run.{Environment, effect, no_objects, with_content}
use Rattle.model.specs.WriteBack.{reads_old}

-- ---- marks

-- whether the value of an object is there, may fail still for want of memory, or failed, as a call said
pub data Mark : Type 0 where
  Unmarked : Mark
  Open : Mark
  Told : Mark

abbrev pub is_told : Mark → Bool
is_told Told = true
is_told _ = false

abbrev pub is_unmarked : Mark → Bool
is_unmarked Unmarked = true
is_unmarked _ = false

-- the objects by their names, of whatever kind these are, and a mark of each. One that was told has no entries, by
-- agreement, since nobody looks at them.
pub record State (K : Type 0) : Type 0 where
  pub environment : Environment K
  pub marks : K → Mark

abbrev pub first_state : {K : Type 0} → State K
first_state = record { environment = no_objects; marks = λ name. Unmarked }

abbrev pub told : {K : Type 0} → State K → K → Bool
told s name = is_told (s.marks name)

-- other objects, and a mark of one; `same` tells whether two names are the same
abbrev pub with_mark : {K : Type 0} → (K → K → Bool) → State K → Environment K → K → Mark → State K
with_mark same s env name mark =
    record { environment = env; marks = λ other. if same name other then mark else s.marks other }

-- the object failed, and a call says so
abbrev pub failed : {K : Type 0} → (K → K → Bool) → State K → Environment K → K → State K
failed same s env name = with_mark same s (with_content same env name no_content) name Told

-- at any time the values of objects may come to be there
abbrev pub MayBecome : Mark → Mark → Type 0
MayBecome before after = (after ≡ before) ⊎ ((before ≡ Open) × (after ≡ Unmarked))

pub record Settles {K : Type 0} (before after : State K) : Type 0 where
  pub environment : after.environment ≡ before.environment
  pub marks : (name : K) → MayBecome (before.marks name) (after.marks name)

-- ---- what calls read

-- whether an act asks for the value of its object at once; a build asks whether it has entries
abbrev pub asks_value : Act → Bool
asks_value (Build dup tuples) = true
asks_value (Get place) = true
asks_value Nvals = true
asks_value Print = true
asks_value (Reduce monoid) = true
asks_value (Wait mode) = true
asks_value _ = false

-- the object for whose value a call asks
abbrev pub asked_by : {K N : Type 0} → Call K N → Option K
asked_by (On object act) = if asks_value act then Some object else None
asked_by _ = None

-- whether an operation reads an object that was told
abbrev pub reads_told : {K : Type 0} → State K → Out K → Operation K → Bool
reads_told s out operation = (reads_old out operation && told s out.c) || option_map_or (told s) out.mask false
    || not (list_all (λ a. not (told s a)) (inputs_of operation))

-- ---- what accepted calls leave

-- ..that are put off: where they read an object that was told, the object that they make or change failed too
abbrev pub put_off : {K : Type 0} → (K → K → Bool) → State K → Environment K → K → Bool → State K
put_off same s env name reads = if reads then failed same s env name else with_mark same s env name Open

-- ..on one object
abbrev pub acted : {K : Type 0} → (K → K → Bool) → State K → Environment K → K → Act → State K
acted same s env object (Resize shape) = put_off same s env object (told s object)
acted same s env object (Set place value) = put_off same s env object (told s object)
acted same s env object (Remove place) = put_off same s env object (told s object)
acted same s env object act = with_mark same s env object Unmarked

abbrev pub left_with : {K : Type 0} → (K → K → Bool) → State K → Environment K → Call K K → State K
left_with same s env (Create name domain shape) = with_mark same s env name Unmarked
left_with same s env (Dup name object) = put_off same s env name (told s object)
left_with same s env (On object act) = acted same s env object act
left_with same s env (Operate out operation) = put_off same s env out.c (reads_told s out operation)

abbrev pub left_by : {K : Type 0} → (K → K → Bool) → State K → Call K K → State K
left_by same s call = left_with same s (effect same s.environment call) call

-- a call that is refused by a value has looked at it
abbrev pub looked_at : {K : Type 0} → (K → K → Bool) → State K → Call K K → State K
looked_at same s call = option_map_or (λ object. with_mark same s s.environment object Unmarked) (asked_by call) s

-- ---- what a call tells of values

-- it asks for that of no object that was told
abbrev pub IsUntold : {K : Type 0} → State K → Option K → Type 0
IsUntold s object = option_map_or (told s) object false ≡ false

-- it is told that the object for whose value it asks failed
abbrev pub HasFailed : {K : Type 0} → (K → K → Bool) → State K → Option K → State K → Type 0
HasFailed same before None after = ⊥
HasFailed same before (Some object) after =
    (is_unmarked (before.marks object) ≡ false) × (after ≡ failed same before before.environment object)
