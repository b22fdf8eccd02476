-- Calls on names, and on the numbers that the names stand for.
use Rattle.std.proofs.Common.{◌≡◌, ◌∙◌, ℕ, ◌<◌, ◌-◌, ◌^◌, ◌==◌, Bool, true, false, cond, Option, Some, None, is_some, refl, sym, ap, arith}
use Rattle.std.specs.Option.{option_and_then, option_map, option_map_or, unwrap_or}
use Rattle.std.specs.Str.{bytes_eq}
use Rattle.std.proofs.lemmas.Bool.{eqb-true, false_from_ne_true, true≢false}
use Rattle.std.proofs.lemmas.Bool.Decides.{nat_tests}
use Rattle.std.proofs.lemmas.Slice.Eq.{bytes_eq-Decides}
use Rattle.calls.specs.declared.obj.Obj.{Obj}
use Rattle.model.specs.declared.call.Call.{Call}
use Rattle.model.specs.declared.call.Act.TheVariants.{Free, Clear, Resize, Build, Set, Remove, Get, Nvals, Print, Reduce, Wait}
use Rattle.model.specs.declared.call.Call.TheVariants.{Create, Dup, On, Operate}
use Rattle.model.specs.declared.call.Operation.{Operation}
use Rattle.model.specs.declared.call.Operation.TheVariants.{Fill, OfOne, OfTwo}
use Rattle.model.specs.declared.call.Out.{Out}
use Rattle.model.specs.declared.shape.Signature.{Signature}
use Rattle.model.specs.declared.status.Status.TheVariants as status
use Rattle.model.specs.Fault.{early_fault, takes_name}
use Rattle.model.specs.Grammar.{Name}
use Rattle.model.specs.Object.{Content, Object, signature_of}
use Rattle.model.specs.Renamed.{found, out_over, renamed, renamed_operation}
use Rattle.model.specs.Run.{Environment, changed_by, data_lines_of, effect, no_object, object_at, on_objects, seen, with_content, with_object}
use Rattle.model.specs.WriteBack.{result_of}
use Rattle.model.proofs.EnvironmentLaws.{environments_equal}
use Rattle.model.proofs.RenamedLaws.{found_fewer, renamed_twice}
use Rattle.script.specs.Named.{changes_names, through}
use Rattle.session.specs.Performed.{same_object}
use Rattle.runner.specs.declared.runner.Runner.{Ghosts}
use Rattle.session.specs.Ends.{fault_before}
use Rattle.session.specs.Performed.{count_in, environment_of, made_in, numbered, seen_in}
use Rattle.session.specs.declared.sessions.Session.{Session}

-- what is made of a call's numbers is what is made of its names
pub along : {K L M A B : Type 0} (number : K → Option L) (h : Option L → M) (k : A → B) (call : Call K A)
    (r : Call L A) → renamed Some (λ n. n) r ≡ renamed number (λ n. n) call
    → renamed (λ name. h (number name)) k call ≡ renamed (λ l. h (Some l)) k r
along {L = L} {A = A} number h k call r e =
    sym (renamed_twice number h (λ n. n) k call) ∙ ap (λ (c : Call (Option L) A). renamed h k c) (sym e) ∙ renamed_twice Some h (λ n. n) k r

-- ---- faults

seen-unmade : {K : Type 0} (env : Environment K) (call : Call K K) → changes_names call ≡ false
    → seen env call ≡ renamed env.find_object (λ name. false) call
seen-unmade env (Create name domain shape) h = absurd (true≢false h)
seen-unmade env (Dup name o) h = absurd (true≢false h)
seen-unmade env (On o act) h = refl
seen-unmade env (Operate out operation) h = refl

pub count-left : {R T : Type 0} {g : Ghosts R T} (session : Session R T g) → made_in session < 2 ^ 64 - 1 → count_in session ≡ (environment_of session).count
count-left session small =
    let left : (session.next == 2 ^ 64 - 1) ≡ false = grind (arith, nat_tests) in
    rw left refl

-- what a call on names sees is what the call on numbers sees
pub seen-along : {R T : Type 0} {g : Ghosts R T} (number : Name → Option Obj) (session : Session R T g) (call : Call Name Name) (r : Call Obj Name)
    → changes_names call ≡ false
    → renamed Some (λ n. n) r ≡ renamed number (λ n. n) call
    → seen_in session (numbered session r) ≡ seen (through number (environment_of session)) call
seen-along number session call r known e =
    let senv = environment_of session in
    let env = through number senv in
    let here : seen env call ≡ renamed senv.find_object (λ (n : Name). false) r =
    seen-unmade env call known ∙ along number (λ o. option_and_then senv.find_object o) (λ (n : Name). false) call r e in
    renamed_twice (λ object. object) senv.find_object (λ (n : Name). record { 0 = session.next }) (λ (o : Obj). false) r ∙ sym here

-- ---- a name that stands for nothing

early-missing : (count : ℕ) (call : Call (Option Signature) Bool) → takes_name call ≡ false → found call ≡ None
    → early_fault count call ≡ Some status.UninitializedObject
unfolding early_fault
early-missing count call untaken none = rw (untaken, none) refl

pub names_renamed : {K L A B : Type 0} (f : K → L) (k : A → B) (call : Call K A)
    → changes_names (renamed f k call) ≡ changes_names call
names_renamed f k (Create name domain shape) = refl
names_renamed f k (Dup name o) = refl
names_renamed f k (On o act) = refl
names_renamed f k (Operate out operation) = refl

-- a call that makes no object takes no name
untaken : {K : Type 0} (call : Call K Bool) → changes_names call ≡ false → takes_name call ≡ false
untaken (Create name domain shape) known = absurd (true≢false known)
untaken (Dup name o) known = absurd (true≢false known)
untaken (On o act) known = refl
untaken (Operate out operation) known = refl

-- a call on a name that stands for no object
pub fault-missing : (number : Name → Option Obj) (senv : Environment Obj) (call : Call Name Name)
    → changes_names call ≡ false → found (renamed number (λ n. n) call) ≡ None
    → fault_before senv.count (seen (through number senv) call) ≡ Some status.UninitializedObject
fault-missing number senv call known missing =
    let env = through number senv in
    let taken : Name → Bool = λ name. is_some (env.find_object name) in
    let further : Option Obj → Option Signature = λ o. option_map signature_of (option_and_then senv.find_object o) in
    let early = renamed (option_map signature_of) (λ (t : Bool). t) (seen env call) in
    let same : early ≡ renamed (λ name. further (number name)) taken call =
    renamed_twice env.find_object (option_map signature_of) taken (λ t. t) call in
    let makes_none : changes_names early ≡ false =
    ap changes_names same ∙ names_renamed (λ name. further (number name)) taken call ∙ known in
    let none : found early ≡ None = ap found same ∙ found_fewer number further refl (λ n. n) taken call missing in
    early-missing env.count early (untaken early makes_none) none

-- ---- what calls leave

own_mask : {K : Type 0} (mask : Option K) → option_map (λ k. k) mask ≡ mask
own_mask None = refl
own_mask (Some k) = refl

own_operation : {K : Type 0} (operation : Operation K) → renamed_operation (λ k. k) operation ≡ operation
own_operation (Fill value region) = refl
own_operation (OfOne computes a) = refl
own_operation (OfTwo computes a b) = refl

pub own_number : (n : ℕ) → (n == n) ≡ true
own_number n = grind (arith, nat_tests)

-- the object that a call changes, and what it puts in its place
abbrev pub put_to : {K N : Type 0} → Call K N → Option K
put_to (On o act) = Some o
put_to (Operate out operation) = Some out.c
put_to _ = None

abbrev pub put_by : {N : Type 0} → Call Object N → Option Object
put_by (On o act) = changed_by act o
put_by (Operate out operation) = Some (record out.c { content = result_of out operation })
put_by _ = None

-- an object in the place of the one that a name stands for, where there are a name and an object
abbrev pub put : {K : Type 0} → (K → K → Bool) → Environment K → Option K → Option Object → Environment K
put same env name new =
    option_map_or (λ name. option_map_or (λ o. with_object same env name o env.count) new env) name env

pub effect-unmade : {K : Type 0} (same : K → K → Bool) (env : Environment K) (call : Call K K)
    → changes_names call ≡ false
    → effect same env call ≡ put same env (put_to call) (put_by (on_objects env call))
unfolding effect
effect-unmade same env (Create name domain shape) h = absurd (true≢false h)
effect-unmade same env (Dup name o) h = absurd (true≢false h)
effect-unmade same env (On o Free) h = absurd (true≢false h)
effect-unmade same env (On o Clear) h = refl
effect-unmade same env (On o (Resize shape)) h = refl
effect-unmade same env (On o (Build dup tuples)) h = refl
effect-unmade same env (On o (Set p value)) h = refl
effect-unmade same env (On o (Remove p)) h = refl
effect-unmade same env (On o (Get p)) h = refl
effect-unmade same env (On o Nvals) h = refl
effect-unmade same env (On o Print) h = refl
effect-unmade same env (On o (Reduce monoid)) h = refl
effect-unmade same env (On o (Wait mode)) h = refl
effect-unmade same env (Operate out operation) h = refl

pub put_renamed : {K L A B : Type 0} (f : K → L) (k : A → B) (call : Call K A)
    → put_to (renamed f k call) ≡ option_map f (put_to call)
put_renamed f k (Create name domain shape) = refl
put_renamed f k (Dup name o) = refl
put_renamed f k (On o act) = refl
put_renamed f k (Operate out operation) = refl

pub left_renamed : {A B : Type 0} (k : A → B) (call : Call Object A) → put_by (renamed (λ o. o) k call) ≡ put_by call
left_renamed k (Create name domain shape) = refl
left_renamed k (Dup name o) = refl
left_renamed k (On o act) = refl
left_renamed k (Operate out operation) =
    ap (λ (mask : Option Object). let o : Out Object = out_over out out.c mask in let left : Object = record out.c { content = result_of o (renamed_operation (λ o. o) operation) } in Some left) (own_mask out.mask)
    ∙ ap (λ (o : Operation Object). let left : Object = record out.c { content = result_of out o } in Some left) (own_operation operation)

pub data_renamed : {A B : Type 0} (k : A → B) (call : Call Object A)
    → data_lines_of (renamed (λ o. o) k call) ≡ data_lines_of call
unfolding data_lines_of
data_renamed k (Create name domain shape) = refl
data_renamed k (Dup name o) = refl
data_renamed k (On o act) = refl
data_renamed k (Operate out operation) = refl

-- the objects of a call on names are those of the call on numbers
pub on_objects-along : (number : Name → Option Obj) (senv : Environment Obj) (call : Call Name Name)
    (r : Call Obj Name) → renamed Some (λ n. n) r ≡ renamed number (λ n. n) call
    → on_objects (through number senv) call ≡ renamed (object_at senv) (λ n. n) r
on_objects-along number senv call r e = along number (λ o. unwrap_or (option_and_then senv.find_object o) no_object) (λ n. n) call r e

-- two names stand for one object only where they are the same
abbrev pub AreDistinct : (Name → Option Obj) → Type 0
AreDistinct number = (a b : Name) (object : Obj) → number a ≡ Some object → number b ≡ Some object → a ≡ b

pub same_number : (a b : Obj) → a.0 ≡ b.0 → a ≡ b
same_number a b e = λ i. record { 0 = e i }

equal_tests : (a b : Bool) → (a ≡ true → b ≡ true) → (b ≡ true → a ≡ true) → a ≡ b
equal_tests true true f g = refl
equal_tests false false f g = refl
equal_tests true false f g = sym (f refl)
equal_tests false true f g = g refl

-- a number is that of another name's object just where the names are the same
module _ (number : Name → Option Obj) (distinct : AreDistinct number) (name : Name) (o : Obj) (is : number name ≡ Some o) where
  pub same-along : (other : Name) (q : Obj) → number other ≡ Some q → same_object o q ≡ bytes_eq name other
  same-along other q some = equal_tests (o.0 == q.0) (bytes_eq name other)
      (λ equal. let is_q : o ≡ q = same_number o q (eqb-true o.0 q.0 equal) in (bytes_eq-Decides name other).1 (distinct name other q (rw is_q at is) some))
      (λ equal. let e : Some o ≡ Some q = sym is ∙ ap number ((bytes_eq-Decides name other).0 equal) ∙ some in let one : o ≡ q = cc in rw one (own_number q.0))

  pub apart-along : (other : Name) → number other ≡ None → bytes_eq name other ≡ false
  apart-along other none = false_from_ne_true (bytes_eq name other)
      (λ equal. let same = (bytes_eq-Decides name other).0 equal in let e : Some o ≡ None = sym is ∙ ap number same ∙ none in absurd (cc))

  -- another object under a number, and so under the one name that stands for it
  pub place-along : (senv : Environment Obj) (object : Object) (count : ℕ)
      → through number (with_object same_object senv o object count) ≡ with_object bytes_eq (through number senv) name object count
  place-along senv object count =
      let new = with_object same_object senv o object count in
      let P : Name → Option Obj → Type 0 = λ other found. option_and_then new.find_object found ≡ cond (bytes_eq name other) (Some object) (option_and_then senv.find_object found) in
      let each : (other : Name) (found : Option Obj) → number other ≡ found → P other found = λ other found. elim found as (λ found. number other ≡ found → P other found) [
        | None ↦ λ none. rw (apart-along other none) refl
        | Some q ↦ λ some. ap (λ test. cond test (Some object) (senv.find_object q)) (same-along other q some)
      ] in
      environments_equal (through number new) (with_object bytes_eq (through number senv) name object count) (λ other. each other (number other) refl) refl

  -- another map of it
  pub content-along : (senv : Environment Obj) (c : Content)
      → through number (with_content same_object senv o c) ≡ with_content bytes_eq (through number senv) name c
  content-along senv c =
      place-along senv (record (object_at senv o) { content = c }) senv.count
      ∙ ap (λ (found : Option Obj). with_object bytes_eq (through number senv) name (let p : Object = record (unwrap_or (option_and_then senv.find_object found) no_object) { content = c } in p) senv.count) (sym is)
