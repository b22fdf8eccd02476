-- What calls that are put off make of their objects.
use Rattle.std.specs.Prelude.{◌≡◌, ◌||◌, Bool, false, true, if◌then◌else◌, [], is_some, Option}
use Rattle.std.specs.Option.{IfSome, option_map_or}
use Rattle.calls.specs.declared.obj.Obj.{Obj}
use Rattle.calls.specs.declared.role.Role.{Role}
use Rattle.calls.specs.declared.role.Roles.{Roles}
use Rattle.calls.specs.Roles.{role_of}
use Rattle.calls.specs.Stores.{object_with}
use Rattle.model.specs.Marks.{Open, State, Told, told}
use Rattle.model.specs.Object.{Content, Object, no_content, signature_of}
use Rattle.model.specs.Run.{Environment, object_at}
use Rattle.objects.specs.declared.table.Table.{Table}
use Rattle.objects.specs.declared.value.Value.{Value}
use Rattle.objects.specs.Tables.{is_ready_at}
use Rattle.objects.specs.Values.{IsValueOf, map_with, mark_with}
use Rattle.runner.specs.declared.runner.Runner.{Ghosts}

-- an object without entries, where what it is made of failed
abbrev pub unless_told : Bool → Object → Object
unless_told is_told o = if is_told then record o { content = no_content } else o

-- the value is that of an object which is made later, or failed where what it is made of failed
pub record IsPutOff {T : Type 0} (object_of : T → Object) (is_told : Bool) (o : Object) (value : Value T) : Type 0 where
  pub is_value : IsValueOf object_of (signature_of o) value
  pub object : object_with (signature_of o) (map_with object_of [] value) ≡ unless_told is_told o
  pub mark : mark_with [] value ≡ (if is_told then Told else Open)

-- the object of a role is there, if one has it
abbrev pub AreThere : Environment Obj → Option Obj → Type 0
AreThere env object = IfSome object (λ object. is_some (env.find_object object) ≡ true)

-- one of the objects that have roles was told to have failed
abbrev pub is_role_told : State Obj → Option Obj → Bool
is_role_told s object = option_map_or (told s) object false

abbrev pub any_told : State Obj → Roles Obj → Bool
any_told s objects = is_role_told s objects.old || is_role_told s objects.mask || is_role_told s objects.first
    || is_role_told s objects.second

-- the maps of the objects that have roles
abbrev pub maps_at : Environment Obj → Roles Obj → Role → Content
maps_at env objects role =
    option_map_or (λ object. (object_at env object).content) (role_of objects role) no_content

-- a ticket stands for the object of a role, if one has it
abbrev pub AreReadyAt : {R T : Type 0} {g : Ghosts R T} → Table R T g → Option Obj → Type 0
AreReadyAt table object = IfSome object (λ object. is_ready_at table object ≡ true)
