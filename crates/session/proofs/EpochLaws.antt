-- Calls before which values came to be there, where they could.
use Rattle.std.proofs.Common.{◌≡◌, ◌∙◌, ◌||◌, ◌&&◌, ℕ, ◌==◌, ◌^◌, ◌-◌, ◌+◌, Bool, true, false, cond, not, Option, Some, None, Result, Ok, Err, refl, sym, subst, ap, inl, inr}
use Rattle.std.specs.Prelude.{IsErrAnd}
use Rattle.std.specs.Option.{option_map_or}
use Rattle.std.proofs.lemmas.Bool.{cases_Bool}
use Rattle.calls.specs.Checks.{known_call}
use Rattle.calls.specs.declared.obj.Obj.{Obj}
use Rattle.model.specs.declared.call.Act.{Act}
use Rattle.model.specs.declared.call.Act.TheVariants.{Free, Clear, Resize, Build, Set, Remove, Get, Nvals, Print, Reduce, Wait}
use Rattle.model.specs.declared.call.Call.{Call}
use Rattle.model.specs.declared.call.Call.TheVariants.{Create, Dup, On, Operate}
use Rattle.model.specs.declared.call.Operation.{Operation}
use Rattle.model.specs.declared.call.Operation.TheVariants.{Fill, OfOne, OfTwo}
use Rattle.model.specs.declared.call.Out.{Out}
use Rattle.model.specs.declared.limits.TheConstants.{MOST_OBJECTS}
use Rattle.model.specs.declared.status.Status.{Status}
use Rattle.model.specs.declared.status.Status.TheVariants as status
use Rattle.model.specs.Fault.{fault_by_values}
use Rattle.model.specs.Marks.{Mark, Open, Settles, State, Told, Unmarked, acted, asked_by, is_told, left_by, left_with, put_off, reads_told, told, with_mark}
use Rattle.model.specs.Object.{no_content}
use Rattle.model.specs.Run.{Environment, effect, with_content}
use Rattle.model.specs.WriteBack.{reads_old}
use Rattle.model.proofs.SettlesLaws.{settles-then}
use Rattle.runner.specs.declared.runner.Runner.{Ghosts}
use Rattle.session.specs.declared.sessions.Session.{Session}
use Rattle.session.specs.Ends.{Ends, fault_before}
use Rattle.session.specs.Performed.{IsPerformed, early_in, late_in, made_after, made_in, same_object, setting, state_of}

-- ---- states

module _ {K : Type 0} (same : K → K → Bool) (s t : State K) (settles : Settles s t) where
  -- nothing is told
  pub told-settled : (name : K) → told t name ≡ told s name
  told-settled name = elim (settles.marks name) [
    | inl still ↦ ap is_told still
    | inr there ↦ rw (there.0, there.1) refl
  ]

  marked-settled : (env : Environment K) (name : K) (mark : Mark) → Settles (with_mark same s env name mark) (with_mark same t env name mark)
  marked-settled env name mark = record {
    environment = refl;
    marks = λ q. elim (cases_Bool (same name q)) [
      | inl here ↦ rw here (inl refl)
      | inr apart ↦ rw apart (settles.marks q)
    ];
  }

  off-settled : (env : Environment K) (name : K) (reads now : Bool) → now ≡ reads
      → Settles (put_off same s env name reads) (put_off same t env name now)
  off-settled env name true now is = rw is (marked-settled (with_content same env name no_content) name Told)
  off-settled env name false now is = rw is (marked-settled env name Open)

  mask-settled : (mask : Option K) → option_map_or (told t) mask false ≡ option_map_or (told s) mask false
  mask-settled None = refl
  mask-settled (Some mask) = told-settled mask

  reads-settled : (out : Out K) (operation : Operation K) → reads_told t out operation ≡ reads_told s out operation
  reads-settled out (Fill value region) =
      let fill : Operation K = Fill value region in
      λ k. (reads_old out fill && told-settled out.c k) || mask-settled out.mask k || false
  reads-settled out (OfOne computes a) = λ k. (reads_old out (OfOne computes a) && told-settled out.c k) || mask-settled out.mask k || not (not (told-settled a k) && true)
  reads-settled out (OfTwo computes a b) = λ k. (reads_old out (OfTwo computes a b) && told-settled out.c k) || mask-settled out.mask k || not (not (told-settled a k) && (not (told-settled b k) && true))

  acted-settled : (env : Environment K) (object : K) (act : Act) → Settles (acted same s env object act) (acted same t env object act)
  acted-settled env object (Resize shape) = off-settled env object (told s object) (told t object) (told-settled object)
  acted-settled env object (Set place value) = off-settled env object (told s object) (told t object) (told-settled object)
  acted-settled env object (Remove place) = off-settled env object (told s object) (told t object) (told-settled object)
  acted-settled env object Free = marked-settled env object Unmarked
  acted-settled env object Clear = marked-settled env object Unmarked
  acted-settled env object (Build dup tuples) = marked-settled env object Unmarked
  acted-settled env object (Get place) = marked-settled env object Unmarked
  acted-settled env object Nvals = marked-settled env object Unmarked
  acted-settled env object Print = marked-settled env object Unmarked
  acted-settled env object (Reduce monoid) = marked-settled env object Unmarked
  acted-settled env object (Wait mode) = marked-settled env object Unmarked

  with-settled : (env : Environment K) (call : Call K K) → Settles (left_with same s env call) (left_with same t env call)
  with-settled env (Create name domain shape) = marked-settled env name Unmarked
  with-settled env (Dup name object) = off-settled env name (told s object) (told t object) (told-settled object)
  with-settled env (On object act) = acted-settled env object act
  with-settled env (Operate out operation) = off-settled env out.c (reads_told s out operation) (reads_told t out operation) (reads-settled out operation)

  -- what a call leaves of them
  pub left-settled : (call : Call K K) → Settles (left_by same s call) (left_by same t call)
  left-settled call =
      subst (λ (env : Environment K). Settles (left_by same s call) (left_with same t (effect same env call) call)) (sym settles.environment)
      (with-settled (effect same s.environment call) call)

-- ---- sessions

module _ {R T : Type 0} {g : Ghosts R T} (old mid : Session R T g) (settles : Settles (state_of old) (state_of mid))
    (made : made_in mid ≡ made_in old) where
  -- a call has the faults that it had
  pub early-settled : (call : Call Obj Obj) → early_in mid call ≡ early_in old call
  early-settled call = λ t.
      fault_before (cond (made t == 2 ^ 64 - 1) MOST_OBJECTS (settles.environment t).count) (known_call (settles.environment t).find_object call)

  made-settled : {X : Type 0} (r : Result X Status) (call : Call Obj Obj) → made_after mid r call ≡ made_after old r call
  made-settled (Err s) call = made
  made-settled (Ok x) (Create name domain shape) = ap (λ (n : ℕ). n + 1) made
  made-settled (Ok x) (Dup name object) = ap (λ (n : ℕ). n + 1) made
  made-settled (Ok x) (On object act) = made
  made-settled (Ok x) (Operate out operation) = made

  -- a call that asks for no value and has no fault ends as if it had begun before
  ends-settled : {X : Type 0} (new : Session R T g) (call : Call Obj Obj) (r : Result X Status) → asked_by call ≡ None
      → early_in old call ≡ None → late_in old call ≡ None → Ends (setting mid new call) r → Ends (setting old new call) r
  ends-settled new call (Ok x) asks early late ends = record {
    early = early;
    late = late;
    untold = rw asks refl;
    left = settles-then _ _ (state_of new) (left-settled same_object (state_of old) (state_of mid) settles call) ends.left;
  }
  ends-settled new call (Err s) asks early late (inl (inl (fault, kept))) =
      let contra : None ≡ Some s = sym early ∙ sym (early-settled call) ∙ fault in absurd (cc)
  ends-settled new call (Err s) asks early late (inl (inr (none, fault, untold, kept))) =
      let same : late_in mid call ≡ late_in old call = λ t. fault_by_values (known_call (settles.environment t).find_object call) in
      let contra : None ≡ Some s = sym late ∙ sym same ∙ fault in absurd (cc)
  ends-settled new call (Err s) asks early late (inr (inl (is, none, failed))) = absurd (rw asks at failed)
  ends-settled new call (Err s) asks early late (inr (inr (is, more))) =
      inr (inr (is, settles-then (state_of old) (state_of mid) (state_of new) settles more))

  pub performed-settled : {X : Type 0} (new : Session R T g) (call : Call Obj Obj) (r : Result X Status) → asked_by call ≡ None
      → early_in old call ≡ None → late_in old call ≡ None → IsPerformed mid new call r → IsPerformed old new call r
  performed-settled new call r asks early late done = record {
    ends = ends-settled new call r asks early late done.ends;
    made = done.made ∙ made-settled r call;
  }

  -- ..and one may be refused memory
  pub refused-settled : {X : Type 0} (call : Call Obj Obj) (r : Result X Status) → IsErrAnd r (λ s. s ≡ status.OutOfMemory)
      → IsPerformed old mid call r
  refused-settled call (Ok x) is = absurd (is)
  refused-settled call (Err s) is = record { ends = inr (inr (is, settles)); made = made }

-- what is changed no more settles as well
pub settles-on : {K : Type 0} (s t u : State K) → Settles s t → u ≡ t → Settles s u
settles-on s t u settles same = subst (Settles s) (sym same) settles
