-- Prints of objects by their numbers, and by their names.
use Rattle.std.proofs.Common.{◌≡◌, ◌∙◌, ◌<◌, ◌-◌, ◌^◌, ◌++◌, ℕ, List, Option, Some, None, Result, Ok, Err, arith, ap, inl, inr, refl, sym}
use Rattle.std.specs.Prelude.{OnOk}
use Rattle.std.specs.List.{flat_map}
use Rattle.std.specs.Option.{ok_or, option_map, unwrap_or}
use Rattle.std.proofs.lemmas.Bool.{eqb-true}
use Rattle.calls.specs.declared.obj.Obj.{Obj}
use Rattle.model.specs.declared.call.Act.TheVariants.{Print}
use Rattle.model.specs.declared.call.Call.{Call}
use Rattle.model.specs.declared.call.Call.TheVariants.{On}
use Rattle.model.specs.declared.status.Status.{Status}
use Rattle.model.specs.declared.status.Status.TheVariants as status
use Rattle.model.specs.Fault.{early_fault}
use Rattle.model.specs.Grammar.{Name}
use Rattle.model.specs.Marks.{IsUntold, Settles, State, left_by}
use Rattle.model.specs.Object.{Object}
use Rattle.model.specs.Run.{data_lines_of, effect, no_object, object_at, on_objects}
use Rattle.model.specs.Text.{canonical_lines, ended}
use Rattle.model.proofs.SettlesLaws.{settles-marked, settles-then}
use Rattle.session.specs.Performed.{same_object}
use Rattle.runner.specs.declared.runner.Runner.{Ghosts}
use Rattle.script.proofs.NameLaws.{AreDistinct, fault-missing, same_number}
use Rattle.script.proofs.ReplyLaws.{ended_named, made_after-most}
use Rattle.script.specs.declared.environment.Environment.{Environment as Objects}
use Rattle.script.specs.Named.{environment_in, number_in}
use Rattle.script.specs.Replied.{IsAnswered}
use Rattle.session.specs.declared.sessions.Session.{Session}
use Rattle.session.specs.Performed.{IsPerformed, early_in, environment_of, made_in, state_of}

-- ---- by number

-- what is told of an object is its own
pub told : {X : Type 0} (what : Object → X) (found : Option Object) (x : X)
    → Ok x ≡ ok_or (option_map what found) status.UninitializedObject → what (unwrap_or found no_object) ≡ x
told what None x is = absurd (cc)
told what (Some o) x is = cc

missing_fault : {R T : Type 0} {g : Ghosts R T} (session : Session R T g) (object : Obj) (found : Option Object)
    → (environment_of session).find_object object ≡ found → found ≡ None
    → early_in session (On object Print) ≡ Some status.UninitializedObject
unfolding early_fault
missing_fault session object found is none = rw (is, none) refl

absent : {X : Type 0} (what : Object → X) (found : Option Object) (s : Status)
    → Err s ≡ ok_or (option_map what found) status.UninitializedObject
    → (found ≡ None) × (s ≡ status.UninitializedObject)
absent what None s is = (refl, cc)
absent what (Some o) s is = absurd (cc)

-- a print of an object of which nothing is told is refused
pub untold : {R T X Y : Type 0} {g : Ghosts R T} (what : Object → X) (session : Session R T g) (object : Obj) (s : Status)
    → Err s ≡ ok_or (option_map what ((environment_of session).find_object object)) status.UninitializedObject
    → IsPerformed {X = Y} session session (On object Print) (Err s)
untold what session object s is =
    let gone = absent what ((environment_of session).find_object object) s is in
    record {
      ends = inl (inl (missing_fault session object _ refl gone.0 ∙ ap Some (sym gone.1), refl));
      made = refl;
    }

-- the value that was asked for is there
value_there : (s after : State Obj) (object : Obj) → IsUntold s (Some object)
    → Settles (left_by same_object s (On object Print)) after → Settles s after
unfolding effect
value_there s after object untold settles =
    settles-then s _ after (settles-marked same_object s object (λ q same. same_number object q (eqb-true object.0 q.0 same)) untold) settles

-- memory may be refused to a print, once the value is there
pub refused_print : {R T X Y : Type 0} {g : Ghosts R T} (session new : Session R T g) (object : Obj) (r : Result Y Status) (x : Y) → r ≡ Ok x
    → IsPerformed session new (On object Print) r
    → IsPerformed {X = X} session new (On object Print) (Err status.OutOfMemory)
refused_print session new object (Ok y) x is done = record {
  ends = inr (inr (refl, value_there (state_of session) (state_of new) object done.ends.untold done.ends.left));
  made = done.made;
}
refused_print session new object (Err s) x is done = absurd (cc)

-- ..whatever it answers
pub printed_again : {R T X Y : Type 0} {g : Ghosts R T} (session new : Session R T g) (object : Obj) (x : X) (r : Result Y Status) (y : Y) → r ≡ Ok y
    → IsPerformed session new (On object Print) r → IsPerformed session new (On object Print) (Ok x)
printed_again session new object x (Ok z) y is done = record { ends = done.ends; made = done.made }
printed_again session new object x (Err s) y is done = absurd (cc)

-- ---- by name

pub unnamed_print : {R T X : Type 0} {g : Ghosts R T} (names : Objects R T g) (name : Name) (text : List ℕ) → number_in names name ≡ None
    → IsAnswered {X = X} names names (On name Print) text text (Err status.UninitializedObject)
unnamed_print names name text none = record {
  ends = inl (inl (fault-missing (number_in names) (environment_of names.session) (On name Print) refl (rw none refl), refl));
  lines = tt;
  made = omega arith;
}

pub printed : {R T : Type 0} {g : Ghosts R T} (old new : Objects R T g) (name : Name) (object : Obj) (before after : List ℕ)
    (result : Result (Unit {0}) Status) → made_in old.session < 2 ^ 64 - 1 → AreDistinct (number_in old)
    → number_in old name ≡ Some object
    → new.numbers ≡ old.numbers → IsPerformed old.session new.session (On object Print) result
    → OnOk result (after ≡ before ++ flat_map ended (canonical_lines (object_at (environment_of old.session) object)))
    → IsAnswered old new (On name Print) before after result
unfolding data_lines_of
printed old new name object before after result small distinct is same done lines =
    let call : Call Obj Name = On object Print in
    let e = ap (λ (found : Option Obj). let call : Call (Option Obj) Name = On found Print in call) (sym is) in
    record {
      ends = ended_named old new (On name Print) call result small refl distinct same e done;
      lines = its_lines result lines;
      made = rw done.made (made_after-most old.session result (On object Print));
    }
  where
    its_lines : (result : Result (Unit {0}) Status)
        → OnOk result (after ≡ before ++ flat_map ended (canonical_lines (object_at (environment_of old.session) object)))
        → OnOk result (after ≡ before ++ flat_map ended (data_lines_of {N = Name} (on_objects (environment_in old) (On name Print))))
    its_lines (Ok x) lines = lines ∙ rw is refl
    its_lines (Err s) lines = tt
