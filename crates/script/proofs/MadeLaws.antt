-- Objects that a session made, under their names.
use Rattle.std.proofs.Common.{◌≡◌, ◌∙◌, ◌+◌, ◌≤◌, true, false, cond, Option, Some, None, is_some, Result, Ok, Err, refl, sym, subst, ap, inl, inr}
use Rattle.std.specs.Prelude.{◌<◌, ◌-◌, ◌^◌, IsErrAnd, OnErr, OnOk}
use Rattle.std.specs.Option.{option_and_then}
use Rattle.std.specs.Str.{bytes_eq}
use Rattle.algebra.specs.declared.domain.Domain.{Domain}
use Rattle.calls.specs.declared.obj.Obj.{Obj}
use Rattle.model.specs.declared.call.Call.{Call}
use Rattle.model.specs.declared.call.Call.TheVariants.{Create, Dup}
use Rattle.model.specs.declared.shape.Shape.{Shape}
use Rattle.model.specs.declared.status.Status.{Status}
use Rattle.model.specs.declared.status.Status.TheVariants as status
use Rattle.model.specs.Fault.{fault_by_values}
use Rattle.model.specs.Grammar.{Name}
use Rattle.model.specs.Marks.{Mark, Open, Settles, State, Told, Unmarked, asked_by, left_by, told, with_mark}
use Rattle.model.specs.Object.{Object, empty_object}
use Rattle.model.specs.Run.{Environment, effect, object_at, seen, with_object}
use Rattle.runner.specs.declared.runner.Runner.{Ghosts}
use Rattle.script.proofs.CreateLaws.{created-distinct, created-there, free_name, gone_again}
use Rattle.script.proofs.NameLaws.{AreDistinct, count-left, own_number}
use Rattle.script.proofs.StateLaws.{settles-along}
use Rattle.script.specs.Freed.{IsFreed}
use Rattle.script.specs.declared.environment.Environment.{Environment as Objects}
use Rattle.script.specs.Named.{state_in, state_through, through}
use Rattle.script.specs.Replied.{IsNamed, named_setting}
use Rattle.session.specs.Deferred.{unless_told}
use Rattle.session.specs.declared.sessions.Session.{Session}
use Rattle.session.specs.Ends.{Ends, fault_before}
use Rattle.session.specs.Performed.{early_in, environment_of, late_in, made_in, next_object, same_object, setting, state_of}
use Rattle.session.proofs.StateLaws.{put_off-put}

-- an object was made under a number, with a mark
abbrev pub IsMadeIn : State Obj → Obj → Object → Mark → State Obj → Type 0
IsMadeIn s o object mark made =
    Settles (with_mark same_object s (with_object same_object s.environment o object (s.environment.count + 1)) o mark) made

-- a creation makes one, and so does a copy
pub made-created : (s made : State Obj) (o : Obj) (domain : Domain) (shape : Shape)
    → Settles (left_by same_object s (Create o domain shape)) made → IsMadeIn s o (empty_object domain shape) Unmarked made
unfolding effect
made-created s made o domain shape is = is

pub made-copied : (s made : State Obj) (o q : Obj) → Settles (left_by same_object s (Dup o q)) made
    → IsMadeIn s o (unless_told (told s q) (object_at s.environment q)) (cond (told s q) Told Open) made
unfolding effect
made-copied s made o q is =
    subst (λ (l : State Obj). Settles l made) (sym (put_off-put s o (object_at s.environment q) (s.environment.count + 1) (told s q))) is

-- it is there
pub made-there : (s made : State Obj) (o : Obj) (object : Object) (mark : Mark) → IsMadeIn s o object mark made
    → is_some (made.environment.find_object o) ≡ true
made-there s made o object mark is =
    ap (λ (env : Environment Obj). is_some (env.find_object o)) is.environment ∙ rw (own_number o.0) refl

-- the names of objects, once one was put under a name or it went again
pub names-after : {T E : Type 0} (r : Result T E) (number new : Name → Option Obj) (s made after : State Obj)
    (key : Name) (o : Obj) (object : Object) (mark : Mark) → IsMadeIn s o object mark made
    → s.environment.find_object o ≡ None → s.marks o ≡ Unmarked → AreDistinct number
    → ((n : Name) (q : Obj) → number n ≡ Some q → is_some (s.environment.find_object q) ≡ true)
    → OnOk r ((n : Name) → new n ≡ cond (bytes_eq key n) (Some o) (number n)) → OnOk r (after ≡ made)
    → OnErr r ((n : Name) → new n ≡ number n) → OnErr r (IsFreed made o after)
    → AreDistinct new × ((n : Name) (q : Obj) → new n ≡ Some q → is_some (after.environment.find_object q) ≡ true)
names-after (Ok x) number new s made after key o object mark is unused unmarked distinct there adds same kept gone = (
  created-distinct number new s.environment key o adds there unused distinct,
  λ n q stands. ap (λ (s : State Obj). is_some (s.environment.find_object q)) same
      ∙ created-there number new s.environment made.environment key o object adds there is.environment n q stands,
)
names-after (Err e) number new s made after key o object mark is unused unmarked distinct there adds same kept gone =
    let settled = gone_again s made after o object mark unused unmarked is gone in (
      λ a b q is_a is_b. distinct a b q (sym (kept a) ∙ is_a) (sym (kept b) ∙ is_b),
      λ n q stands. ap (λ (env : Environment Obj). is_some (env.find_object q)) settled.environment ∙ there n q (sym (kept n) ∙ stands),
    )

-- memory was refused to the name, and the object went again
pub refused-name : (number new : Name → Option Obj) (s made after : State Obj) (o : Obj) (object : Object) (mark : Mark)
    → IsMadeIn s o object mark made → s.environment.find_object o ≡ None → s.marks o ≡ Unmarked
    → ((n : Name) → new n ≡ number n) → IsFreed made o after
    → Settles (state_through number s) (state_through new after)
refused-name number new s made after o object mark is unused unmarked kept gone =
    subst (λ (now : Name → Option Obj). Settles (state_through number s) (state_through now after)) (λ t n. sym (kept n) t)
    (settles-along number s after (gone_again s made after o object mark unused unmarked is gone))

-- ---- calls that make an object

-- under a free name they have the faults of the session's call
pub create-same : {R T : Type 0} {g : Ghosts R T} (number : Name → Option Obj) (session : Session R T g) (name : Name) (domain : Domain) (shape : Shape)
    → made_in session < 2 ^ 64 - 1 → is_some (number name) ≡ false
    → fault_before (environment_of session).count (seen (through number (environment_of session)) (Create name domain shape))
    ≡ early_in session (Create (next_object session) domain shape)
create-same number session name domain shape small free = λ t.
    fault_before (sym (count-left session small) t) (Create (free_name (environment_of session) (number name) free t) domain shape)

pub dup-same : {R T : Type 0} {g : Ghosts R T} (number : Name → Option Obj) (session : Session R T g) (name from : Name) (q : Obj)
    → made_in session < 2 ^ 64 - 1 → is_some (number name) ≡ false → number from ≡ Some q
    → fault_before (environment_of session).count (seen (through number (environment_of session)) (Dup name from))
    ≡ early_in session (Dup (next_object session) q)
dup-same number session name from q small free is = λ t.
    fault_before (sym (count-left session small) t)
    (Dup (free_name (environment_of session) (number name) free t) (option_and_then (environment_of session).find_object (is t)))

module _ {R T : Type 0} {g : Ghosts R T} (number : Name → Option Obj) (old made : Session R T g) (by_number : Call Obj Obj)
    (call : Call Name Name) (late : late_in old by_number ≡ None) (asks : asked_by by_number ≡ None)
    (same : fault_before (environment_of old).count (seen (through number (environment_of old)) call) ≡ early_in old by_number) where
  -- where the session makes none, all objects stay
  pub unmade-kept : (s : Status) → Ends {X = Unit {0}} (setting old made by_number) (Err s)
      → environment_of made ≡ environment_of old
  unmade-kept s (inl (inl (early, kept))) = ap (λ (s : State Obj). s.environment) kept
  unmade-kept s (inl (inr (early, fault, untold, kept))) = let contra : None ≡ Some s = sym late ∙ fault in absurd (cc)
  unmade-kept s (inr (inl (is, early, failed))) = absurd (rw asks at failed)
  unmade-kept s (inr (inr (is, settles))) = settles.environment

  -- ..and the call on names ends as the session's
  pub unmade-ends : (s : Status) → Ends {X = Unit {0}} (setting old made by_number) (Err s)
      → Ends {X = Unit {0}} (named_setting (state_through number (state_of old)) call (state_through number (state_of made))) (Err s)
  unmade-ends s (inl (inl (early, kept))) = inl (inl (same ∙ early, ap (state_through number) kept))
  unmade-ends s (inl (inr (early, fault, untold, kept))) = let contra : None ≡ Some s = sym late ∙ fault in absurd (cc)
  unmade-ends s (inr (inl (is, early, failed))) = absurd (rw asks at failed)
  unmade-ends s (inr (inr (is, settles))) = inr (inr (is, settles-along number (state_of old) (state_of made) settles))

  -- where it makes one, the call is accepted under the new name too
  pub made-ends : {X : Type 0} (new : Name → Option Obj) (x : X) → asked_by call ≡ None
      → fault_by_values (seen (through number (environment_of old)) call) ≡ None
      → state_through new (left_by same_object (state_of old) by_number) ≡ left_by bytes_eq (state_through number (state_of old)) call
      → Ends (setting old made by_number) (Ok x)
      → Ends {X = Unit {0}} (named_setting (state_through number (state_of old)) call (state_through new (state_of made))) (Ok tt)
  made-ends new x asks_none late_none left ends = record {
    early = same ∙ ends.early;
    late = late_none;
    untold = rw asks_none refl;
    left = subst (λ (l : State Name). Settles l (state_through new (state_of made))) left
        (settles-along new (left_by same_object (state_of old) by_number) (state_of made) ends.left);
  }

-- memory was refused
pub refused-named : {R T X : Type 0} {g : Ghosts R T} (old new : Objects R T g) (call : Call Name Name) (r : Result X Status)
    → IsErrAnd r (λ s. s ≡ status.OutOfMemory) → Settles (state_in old) (state_in new)
    → made_in new.session ≤ made_in old.session + 1 → IsNamed old new call r
refused-named old new call (Ok x) is settles made = absurd (is)
refused-named old new call (Err s) is settles made = record { ends = inr (inr (is, settles)); made = made }
