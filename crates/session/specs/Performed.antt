-- How calls on a session end, and what they answer and leave.
use Rattle.std.specs.Prelude.{ℕ, ◌+◌, ◌-◌, ◌^◌, ◌==◌, ◌≡◌, ◌⊎◌, if◌then◌else◌, length, None, Option}
use Rattle.std.specs.Prelude.{Bool, Some, Result, Ok, Err}
use Rattle.std.specs.Option.{option_map}
use Rattle.algebra.specs.Value.{value_of}
use Rattle.calls.specs.Checks.{known_call}
use Rattle.calls.specs.declared.obj.Obj.{Obj}
use Rattle.model.specs.declared.call.Act.{Act}
use Rattle.model.specs.declared.call.Act.TheVariants.{Free, Clear, Resize, Build, Set, Remove, Get, Nvals, Print}
use Rattle.model.specs.declared.call.Act.TheVariants.{Reduce, Wait}
use Rattle.model.specs.declared.call.Call.{Call}
use Rattle.model.specs.declared.call.Call.TheVariants.{Create, Dup, On, Operate}
use Rattle.model.specs.declared.limits.TheConstants.{MOST_OBJECTS}
use Rattle.model.specs.declared.status.Status.{Status}
use Rattle.model.specs.Entries.{entries_of}
use Rattle.model.specs.Fault.{fault_by_values}
use Rattle.model.specs.Marks.{Settles, State, Unmarked, with_mark}
use Rattle.model.specs.declared.shape.Signature.{Signature}
use Rattle.model.specs.Object.{Object, signature_of, col_of, cols_of, row_of, rows_of}
use Rattle.model.specs.Reductions.{sum_in}
use Rattle.model.specs.Renamed.{renamed}
use Rattle.model.specs.Run.{Environment, object_at, with_object}
pub use Rattle.objects.specs.Tables.{same_object}
use Rattle.objects.specs.Tables.{is_finished_at, is_ready_at, state_in}
use Rattle.runner.specs.declared.runner.Runner.{Ghosts}
use Rattle.session.specs.Deferred.{AreReadyAt}
use Rattle.session.specs.Ends.{Ends, IsRefused, Setting, fault_before}
use Rattle.session.specs.declared.reply.Reply.{Reply}
use Rattle.session.specs.declared.reply.Reply.TheVariants.{Done, Made, Value, Count}
use Rattle.session.specs.declared.sessions.Session.{Session}

-- the objects by number, and the mark of each
abbrev pub state_of : {R T : Type 0} {g : Ghosts R T} → Session R T g → State Obj
state_of session = state_in session.table

abbrev pub environment_of : {R T : Type 0} {g : Ghosts R T} → Session R T g → Environment Obj
environment_of session = (state_of session).environment

-- what is known of the objects without their values
abbrev pub known_in : {R T : Type 0} {g : Ghosts R T} → Session R T g → Obj → Option Signature
known_in session object = option_map signature_of ((environment_of session).find_object object)

-- how many objects were ever made
abbrev pub made_in : {R T : Type 0} {g : Ghosts R T} → Session R T g → ℕ
made_in session = session.next

-- the number of objects by which a session refuses one more: once no number is left, as if there were the most
abbrev pub count_in : {R T : Type 0} {g : Ghosts R T} → Session R T g → ℕ
count_in session = if session.next == 2 ^ 64 - 1 then MOST_OBJECTS else (environment_of session).count

-- a call on the objects that are there
abbrev pub seen_in : {R T : Type 0} {g : Ghosts R T} → Session R T g → Call Obj Obj → Call (Option Object) Bool
seen_in session call = known_call (environment_of session).find_object call

-- the fault of a call that comes before any that tells of an object's value, and the one that depends on values
abbrev pub early_in : {R T : Type 0} {g : Ghosts R T} → Session R T g → Call Obj Obj → Option Status
early_in session call = fault_before (count_in session) (seen_in session call)

abbrev pub late_in : {R T : Type 0} {g : Ghosts R T} → Session R T g → Call Obj Obj → Option Status
late_in session call = fault_by_values (seen_in session call)

-- the object that a session makes next
abbrev pub next_object : {R T : Type 0} {g : Ghosts R T} → Session R T g → Obj
next_object session = record { 0 = session.next }

-- the call, in which the object that is made has the session's next number
abbrev pub numbered : {R T N : Type 0} {g : Ghosts R T} → Session R T g → Call Obj N → Call Obj Obj
numbered session call = renamed (λ object. object) (λ name. next_object session) call

-- what an act on an object answers
abbrev pub AnswersOn : Object → Act → Reply → Type 0
AnswersOn o (Get place) (Value value) =
    (word : ℕ) × (o.content (row_of place) (col_of place) ≡ Some word) × (value ≡ value_of o.domain word)
AnswersOn o Nvals (Count n) = n ≡ length (entries_of (rows_of o.shape) (cols_of o.shape) o.content)
AnswersOn o (Reduce monoid) (Value value) = value ≡ value_of monoid.domain (sum_in monoid o)
AnswersOn o Free Done = Unit {0}
AnswersOn o Clear Done = Unit {0}
AnswersOn o (Resize shape) Done = Unit {0}
AnswersOn o (Build dup tuples) Done = Unit {0}
AnswersOn o (Set place value) Done = Unit {0}
AnswersOn o (Remove place) Done = Unit {0}
AnswersOn o Print Done = Unit {0}
AnswersOn o (Wait mode) Done = Unit {0}
AnswersOn o act reply = ⊥

-- what a call answers
abbrev pub Answers : Environment Obj → Call Obj Obj → Reply → Type 0
Answers env (Create name domain shape) (Made object) = object ≡ name
Answers env (Dup name object) (Made made) = made ≡ name
Answers env (On object act) reply = AnswersOn (object_at env object) act reply
Answers env (Operate out operation) Done = Unit {0}
Answers env call reply = ⊥

-- ---- how a call ends

-- a call on a session, and what it finds and leaves
abbrev pub setting : {R T : Type 0} {g : Ghosts R T} → Session R T g → Session R T g → Call Obj Obj → Setting Obj
setting old new call = record {
  same = same_object;
  count = count_in old;
  call = call;
  seen = seen_in old call;
  before = state_of old;
  after = state_of new;
}

-- how many objects were ever made after a call: one more where it made one
abbrev pub made_after : {R T X : Type 0} {g : Ghosts R T} → Session R T g → Result X Status → Call Obj Obj → ℕ
made_after old (Err s) call = made_in old
made_after old (Ok x) (Create name domain shape) = made_in old + 1
made_after old (Ok x) (Dup name object) = made_in old + 1
made_after old (Ok x) call = made_in old

-- the call was performed: how it ended and what it left
pub record IsPerformed {R T X : Type 0} {g : Ghosts R T} (old new : Session R T g) (call : Call Obj Obj)
    (result : Result X Status) : Type 0 where
  pub ends : Ends (setting old new call) result
  pub made : made_in new ≡ made_after old result call

-- the value of an object is there
abbrev pub is_finished_in : {R T : Type 0} {g : Ghosts R T} → Session R T g → Obj → Bool
is_finished_in session object = is_finished_at session.table object

-- a ticket stands for an object
abbrev pub is_ready_in : {R T : Type 0} {g : Ghosts R T} → Session R T g → Obj → Bool
is_ready_in session object = is_ready_at session.table object

-- ..for the object of a role, if one has it
abbrev pub AreReady : {R T : Type 0} {g : Ghosts R T} → Session R T g → Option Obj → Type 0
AreReady session object = AreReadyAt session.table object

-- ---- objects that are made with a value

-- an object was made under the next number, or a fault of its creation or want of memory kept it from being made
abbrev pub MadeIn : {R T X : Type 0} {g : Ghosts R T} → Session R T g → Session R T g → Object → Result X Status
    → Type 0
MadeIn old new o (Ok x) = (early_in old (Create (next_object old) o.domain o.shape) ≡ None)
    × Settles (with_mark same_object (state_of old) (with_object same_object (environment_of old) (next_object old) o
    ((environment_of old).count + 1)) (next_object old) Unmarked) (state_of new)
MadeIn old new o (Err s) =
    ((early_in old (Create (next_object old) o.domain o.shape) ≡ Some s) × (state_of new ≡ state_of old))
    ⊎ IsRefused (state_of old) (state_of new) s

pub record IsMade {R T X : Type 0} {g : Ghosts R T} (old new : Session R T g) (o : Object)
    (result : Result X Status) : Type 0 where
  pub ends : MadeIn old new o result
  pub made : made_in new ≡ made_after {X = X} old result (Create (next_object old) o.domain o.shape)
