-- Matrices of files that are made under a name.
use Rattle.std.proofs.Common.{◌≡◌, ◌∙◌, ◌⊎◌, ℕ, ◌<◌, ◌^◌, ◌+◌, ◌-◌, Bool, true, false, cond, List, Option, Some, None, is_some, Result, Ok, Err, refl, sym, subst, ap, inl, inr, nat_le}
use Rattle.std.specs.Option.{option_and_then, option_map}
use Rattle.std.specs.Result.{is_err}
use Rattle.std.specs.Str.{bytes_eq}
use Rattle.std.proofs.lemmas.Bool.{cases_Bool}
use Rattle.algebra.specs.declared.domain.Domain.{Domain}
use Rattle.calls.specs.declared.obj.Obj.{Obj}
use Rattle.model.specs.declared.call.Call.TheVariants.{Create}
use Rattle.model.specs.declared.limits.TheConstants.{MOST_OBJECTS}
use Rattle.model.specs.declared.market.MmFault.{MmFault}
use Rattle.model.specs.declared.shape.Shape.TheVariants.{Two}
use Rattle.model.specs.declared.status.Status.{Status}
use Rattle.model.specs.declared.status.Status.TheVariants as status
use Rattle.model.specs.Fault.{early_fault, is_dimension}
use Rattle.model.specs.Grammar.{Name, Reading, Silent, Malformed, Called, Loads}
use Rattle.model.specs.Loads.{Sources, load_fault, with_file}
use Rattle.model.specs.MatrixMarket.{File, Matrix, matrix_in, object_read}
use Rattle.model.specs.Marks.{Settles, State, Unmarked, with_mark}
use Rattle.model.specs.Object.{Object}
use Rattle.model.specs.Run.{Environment, loaded, with_object}
use Rattle.model.specs.Runs.{IsAnswered}
use Rattle.model.proofs.MarketLaws.{matrix_in-dimensions}
use Rattle.model.proofs.SettlesLaws.{settles-self}
use Rattle.session.specs.Performed.{same_object}
use Rattle.runner.specs.declared.runner.Runner.{Ghosts}
use Rattle.script.proofs.CreateLaws.{free_name, marked-made, there_through}
use Rattle.script.proofs.NameLaws.{AreDistinct, count-left}
use Rattle.script.proofs.StateLaws.{settles-along}
use Rattle.script.specs.Named.{state_through, through}
use Rattle.script.specs.Replied.{EndsAsLoad}
use Rattle.session.specs.declared.sessions.Session.{Session}
use Rattle.session.specs.Ends.{fault_before}
use Rattle.session.specs.Performed.{MadeIn, early_in, environment_of, made_in, next_object, state_of}

-- a line has an answer whatever its file holds
pub answered_with : (sources : Sources) (reading : Reading (List ℕ)) → IsAnswered reading
    → IsAnswered (with_file sources reading)
answered_with sources Silent h = h
answered_with sources Malformed h = h
answered_with sources (Called call) h = h
answered_with sources (Loads name domain file) h = tt

-- ---- faults

taken_name : (count : ℕ) (taken : Bool) (file : File) → taken ≡ true
    → load_fault count taken file ≡ Some status.NameTaken
unfolding load_fault
taken_name count taken file h = rw h refl

pub load-taken : (number : Name → Option Obj) (senv : Environment Obj) (name : Name) (file : File)
    → ((n : Name) (o : Obj) → number n ≡ Some o → is_some (senv.find_object o) ≡ true) → is_some (number name) ≡ true
    → load_fault senv.count (is_some (option_and_then senv.find_object (number name))) file ≡ Some status.NameTaken
load-taken number senv name file there taken =
    taken_name senv.count (is_some (option_and_then senv.find_object (number name))) file (there_through number senv (number name) (there name) taken)

no_file : (count : ℕ) (taken : Bool) (file : File) → taken ≡ false → file ≡ None
    → load_fault count taken file ≡ Some status.NoFile
unfolding load_fault
no_file count taken file free none = rw (free, none) refl

pub load-missing : (number : Name → Option Obj) (senv : Environment Obj) (name : Name) (file : File)
    → is_some (number name) ≡ false → file ≡ None
    → load_fault senv.count (is_some (option_and_then senv.find_object (number name))) file ≡ Some status.NoFile
load-missing number senv name file free none =
    no_file senv.count (is_some (option_and_then senv.find_object (number name))) file (free_name senv (number name) free) none

bad_file : (count : ℕ) (taken : Bool) (read : File) (matrix : Result Matrix MmFault) → taken ≡ false
    → read ≡ Some matrix → is_err matrix ≡ true → load_fault count taken read ≡ Some status.BadFile
unfolding load_fault
bad_file count taken read matrix free is bad = rw (free, is, bad) refl

pub load-bad : (number : Name → Option Obj) (senv : Environment Obj) (name : Name) (domain : Domain)
    (held : Option (List ℕ)) (bytes : List ℕ) → is_some (number name) ≡ false
    → held ≡ Some bytes → is_err (matrix_in domain bytes) ≡ true
    → load_fault senv.count (is_some (option_and_then senv.find_object (number name)))
    (option_map (matrix_in domain) held) ≡ Some status.BadFile
load-bad number senv name domain held bytes free is bad =
    bad_file senv.count (is_some (option_and_then senv.find_object (number name))) (option_map (matrix_in domain) held) (matrix_in domain bytes) (free_name senv (number name) free) (ap (option_map (matrix_in domain)) is) bad

-- a matrix that was read has the faults of a new one of its shape
room : (count : ℕ) (taken : Bool) (domain : Domain) (m : Matrix) (read : File) → taken ≡ false → read ≡ Some (Ok m)
    → is_dimension m.rows ≡ true → is_dimension m.cols ≡ true
    → load_fault count taken read ≡ fault_before count (Create false domain (Two m.rows m.cols))
unfolding load_fault early_fault
room count taken domain m read free is rows cols = elim (cases_Bool (nat_le MOST_OBJECTS count)) [
  | inl most ↦ rw (free, is, most) refl
  | inr fewer ↦ rw (free, is, fewer, rows, cols) refl
]

pub load-read : {R T : Type 0} {g : Ghosts R T} (number : Name → Option Obj) (session : Session R T g) (name : Name) (domain : Domain)
    (held : Option (List ℕ)) (bytes : List ℕ) (m : Matrix) → made_in session < 2 ^ 64 - 1
    → is_some (number name) ≡ false → held ≡ Some bytes → matrix_in domain bytes ≡ Ok m
    → load_fault (environment_of session).count (is_some (option_and_then (environment_of session).find_object (number name))) (option_map (matrix_in domain) held)
    ≡ early_in session (Create (next_object session) domain (Two m.rows m.cols))
load-read number session name domain held bytes m small free is read =
    let senv = environment_of session in
    let dimensions = matrix_in-dimensions domain bytes m read in
    room senv.count (is_some (option_and_then senv.find_object (number name))) domain m (option_map (matrix_in domain) held) (free_name senv (number name) free) (ap (option_map (matrix_in domain)) is ∙ ap Some read) dimensions.0 dimensions.1
    ∙ ap (λ (n : ℕ). fault_before n (Create false domain (Two m.rows m.cols))) (sym (count-left session small))

-- ---- what is left

pub left-loaded : (number new : Name → Option Obj) (s : State Obj) (name : Name) (o : Obj)
    (domain : Domain) (held : Option (List ℕ)) (bytes : List ℕ) (m : Matrix)
    → ((q : Name) → new q ≡ cond (bytes_eq name q) (Some o) (number q))
    → ((n : Name) (q : Obj) → number n ≡ Some q → is_some (s.environment.find_object q) ≡ true) → s.environment.find_object o ≡ None
    → AreDistinct number → held ≡ Some bytes → matrix_in domain bytes ≡ Ok m
    → state_through new (with_mark same_object s (with_object same_object s.environment o (object_read domain m) (s.environment.count + 1)) o Unmarked)
    ≡ with_mark bytes_eq (state_through number s) (loaded bytes_eq (through number s.environment) name domain (option_map (matrix_in domain) held)) name Unmarked
unfolding loaded
left-loaded number new s name o domain held bytes m adds there unused distinct is read =
    marked-made number new s name o adds there unused distinct (object_read domain m) (s.environment.count + 1)
    ∙ rw (is, read) refl

-- ---- how it ends

-- before the session is asked
pub ends-by : {X : Type 0} (before : State Name) (name : Name) (domain : Domain) (file : File) (r : Result X Status) (s : Status)
    → r ≡ Err s → (s ≡ status.OutOfMemory) ⊎ (load_fault before.environment.count (is_some (before.environment.find_object name)) file ≡ Some s)
    → EndsAsLoad before name domain file before r
ends-by {X = X} before name domain file r s is why = rw is (by_why why)
  where
    by_why : (s ≡ status.OutOfMemory) ⊎ (load_fault before.environment.count (is_some (before.environment.find_object name)) file ≡ Some s)
        → EndsAsLoad {X = X} before name domain file before (Err s)
    by_why (inl memory) = inr (memory, settles-self before)
    by_why (inr fault) = inl (fault, refl)

module _ {R T : Type 0} {g : Ghosts R T} (number : Name → Option Obj) (old made : Session R T g) (name : Name) (domain : Domain)
    (file : File) (o : Object) where
  -- where the session makes no object, all stay
  pub unloaded-kept : (s : Status) → MadeIn {X = Unit {0}} old made o (Err s) → environment_of made ≡ environment_of old
  unloaded-kept s (inl (early, kept)) = ap (λ (s : State Obj). s.environment) kept
  unloaded-kept s (inr (is, settles)) = settles.environment

  pub unloaded-ends : (s : Status)
      → load_fault (environment_of old).count (is_some (option_and_then (environment_of old).find_object (number name))) file
      ≡ early_in old (Create (next_object old) o.domain o.shape)
      → MadeIn {X = Unit {0}} old made o (Err s)
      → EndsAsLoad {X = Unit {0}} (state_through number (state_of old)) name domain file (state_through number (state_of made)) (Err s)
  unloaded-ends s same (inl (early, kept)) = inl (same ∙ early, ap (state_through number) kept)
  unloaded-ends s same (inr (is, settles)) = inr (is, settles-along number (state_of old) (state_of made) settles)

  pub loaded-ends : {X : Type 0} (new : Name → Option Obj) (x : X)
      → load_fault (environment_of old).count (is_some (option_and_then (environment_of old).find_object (number name))) file
      ≡ early_in old (Create (next_object old) o.domain o.shape)
      → state_through new (with_mark same_object (state_of old) (with_object same_object (environment_of old) (next_object old) o ((environment_of old).count + 1)) (next_object old) Unmarked)
      ≡ with_mark bytes_eq (state_through number (state_of old)) (loaded bytes_eq (through number (environment_of old)) name domain file) name Unmarked
      → MadeIn old made o (Ok x)
      → EndsAsLoad {X = Unit {0}} (state_through number (state_of old)) name domain file (state_through new (state_of made)) (Ok tt)
  loaded-ends new x same left ends = (
    same ∙ ends.0,
    subst (λ (l : State Name). Settles l (state_through new (state_of made))) left
        (settles-along new (with_mark same_object (state_of old) (with_object same_object (environment_of old) (next_object old) o ((environment_of old).count + 1)) (next_object old) Unmarked) (state_of made) ends.1),
  )
