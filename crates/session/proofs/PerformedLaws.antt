-- Calls that were performed.
use Rattle.std.proofs.Common.{◌≡◌, ◌∙◌, ◌||◌, ◌&&◌, ℕ, ◌+◌, Bool, true, false, cond, not, List, Option, Some, None, is_some, MatchResult, Result, Ok, Err, refl, sym, subst, ap, inl, inr}
use Rattle.std.specs.BTreeMap.{get}
use Rattle.std.specs.Ordering.{nat_cmp}
use Rattle.std.specs.Prelude.{if◌then◌else◌, IsErrAnd}
use Rattle.std.specs.Option.{option_and_then, option_map, option_map_or}
use Rattle.std.proofs.lemmas.Bool.{cases_Bool, eqb-true}
use Rattle.algebra.specs.declared.domain.Domain.{Domain}
use Rattle.algebra.specs.declared.operator_names.OpName.{OpName}
use Rattle.algebra.specs.Value.{word_of}
use Rattle.calls.specs.declared.obj.Obj.{Obj}
use Rattle.calls.specs.Roles.{roles_of}
use Rattle.model.specs.declared.call.Act.{Act}
use Rattle.model.specs.declared.call.Act.TheVariants.{Free, Clear, Resize, Build, Set, Remove, Get, Nvals, Print, Reduce, Wait}
use Rattle.model.specs.declared.call.Call.{Call}
use Rattle.model.specs.declared.call.Call.TheVariants.{Create, Dup, On, Operate}
use Rattle.model.specs.declared.call.Operation.{Operation}
use Rattle.model.specs.declared.call.Operation.TheVariants.{Fill, OfOne, OfTwo}
use Rattle.model.specs.declared.call.Out.{Out}
use Rattle.model.specs.declared.shape.Place.{Place}
use Rattle.model.specs.declared.shape.Shape.{Shape}
use Rattle.model.specs.declared.shape.Signature.{Signature}
use Rattle.model.specs.declared.status.Status.{Status}
use Rattle.model.specs.declared.status.Status.TheVariants as status
use Rattle.model.specs.declared.tuples.Tuple.{Tuple}
use Rattle.model.specs.Builds.{built}
use Rattle.model.specs.Fault.{early_fault, late_fault}
use Rattle.model.specs.Marks.{Settles, State, Unmarked, asked_by, left_by, put_off, reads_told, told, with_mark}
use Rattle.model.specs.Object.{Object, col_of, empty_object, no_content, row_of, signature_of, with_entry, without_entry}
use Rattle.model.specs.Renamed.{out_over, renamed_operation, renamed_out}
use Rattle.model.specs.Run.{Environment, effect, object_at, resized, with_content, with_object, without_object}
use Rattle.model.specs.WriteBack.{reads_old, result_of}
use Rattle.model.proofs.RenamedLaws.{operation_twice, out_twice}
use Rattle.objects.specs.declared.kept.Kept.{Kept}
use Rattle.objects.specs.declared.kept.Refusal.{Refusal}
use Rattle.objects.specs.declared.kept.Refusal.TheVariants as refusal
use Rattle.objects.specs.Kept.{mark_in, object_in}
use Rattle.objects.specs.Refusals.{status_of}
use Rattle.objects.specs.Tables.{Reads, same_object, with_kept}
use Rattle.runner.specs.declared.runner.Runner.{Ghosts}
use Rattle.session.specs.Deferred.{any_told}
use Rattle.session.specs.declared.sessions.Session.{Session}
use Rattle.session.specs.declared.reply.Reply.{Reply}
use Rattle.session.specs.declared.reply.Reply.TheVariants.{Done}
use Rattle.session.specs.Performed.{IsMade, IsPerformed, count_in, early_in, environment_of, known_in, late_in, made_after, made_in, numbered, state_of}
use Rattle.model.proofs.SettlesLaws.{settles-marked, settles-same}

same-number : (a b : Obj) → a.0 ≡ b.0 → a ≡ b
same-number a b e = λ i. record { 0 = e i }

-- ---- accepted calls

-- no value refuses them
abbrev IsNever : Act → Type 0
IsNever (Get place) = ⊥
IsNever (Build dup tuples) = ⊥
IsNever act = Unit {0}

late-never : (o : Option Object) (act : Act) → IsNever act → option_and_then (λ x. late_fault x act) o ≡ None
late-never None act never = refl
late-never (Some o) Free never = refl
late-never (Some o) Clear never = refl
late-never (Some o) (Resize shape) never = refl
late-never (Some o) (Build dup tuples) never = absurd (never)
late-never (Some o) (Set place value) never = refl
late-never (Some o) (Remove place) never = refl
late-never (Some o) (Get place) never = absurd (never)
late-never (Some o) Nvals never = refl
late-never (Some o) Print never = refl
late-never (Some o) (Reduce monoid) never = refl
late-never (Some o) (Wait mode) never = refl

-- the values of those that only read come to be there
abbrev IsRead : Act → Type 0
IsRead (Get place) = Unit {0}
IsRead Nvals = Unit {0}
IsRead Print = Unit {0}
IsRead (Reduce monoid) = Unit {0}
IsRead (Wait mode) = Unit {0}
IsRead act = ⊥

left-read : (s : State Obj) (o : Obj) (act : Act) → IsRead act
    → left_by same_object s (On o act) ≡ with_mark same_object s s.environment o Unmarked
unfolding effect
left-read s o (Get place) read = refl
left-read s o Nvals read = refl
left-read s o Print read = refl
left-read s o (Reduce monoid) read = refl
left-read s o (Wait mode) read = refl
left-read s o Free read = absurd (read)
left-read s o Clear read = absurd (read)
left-read s o (Resize shape) read = absurd (read)
left-read s o (Build dup tuples) read = absurd (read)
left-read s o (Set place value) read = absurd (read)
left-read s o (Remove place) read = absurd (read)

-- the object that an act puts in the place of its own, as it changes it later
abbrev pub IsEdited : Act → Object → Object → Type 0
IsEdited (Set place value) o new =
    new ≡ record o { content = with_entry o.content (row_of place) (col_of place) (word_of o.domain value) }
IsEdited (Remove place) o new = new ≡ record o { content = without_entry o.content (row_of place) (col_of place) }
IsEdited (Resize shape) o new = new ≡ resized o shape
IsEdited act o new = ⊥

-- ---- operations that read what was told

any-of : (c m a b : Bool) → (c || m || a || b) ≡ (c || m || not (not a && (not b && true)))
any-of true m a b = refl
any-of false true a b = refl
any-of false false true b = refl
any-of false false false true = refl
any-of false false false false = refl

old-told : (s : State Obj) (c : Obj) (reads : Bool)
    → option_map_or (told s) (if reads then Some c else None) false ≡ (reads && told s c)
old-told s c true = refl
old-told s c false = refl

told-by_role : (s : State Obj) (out : Out Obj) (operation : Operation Obj)
    → any_told s (roles_of out operation) ≡ reads_told s out operation
told-by_role s out (Fill value region) =
    let fill : Operation Obj = Fill value region in
    any-of _ (option_map_or (told s) out.mask false) false false
    ∙ ap (λ (c : Bool). c || option_map_or (told s) out.mask false || false) (old-told s out.c (reads_old out fill))
told-by_role s out (OfOne computes a) =
    any-of _ (option_map_or (told s) out.mask false) (told s a) false
    ∙ ap (λ (c : Bool). c || option_map_or (told s) out.mask false || not (not (told s a) && true)) (old-told s out.c (reads_old out (OfOne computes a)))
told-by_role s out (OfTwo computes a b) =
    any-of _ (option_map_or (told s) out.mask false) (told s a) (told s b)
    ∙ ap (λ (c : Bool). c || option_map_or (told s) out.mask false || not (not (told s a) && (not (told s b) && true))) (old-told s out.c (reads_old out (OfTwo computes a b)))

module _ {R T : Type 0} {g : Ghosts R T} (old new : Session R T g) where
  -- what is left is what the call leaves
  pub accepted : {X : Type 0} (call : Call Obj Obj) (x : X) → early_in old call ≡ None → late_in old call ≡ None
      → option_map_or (told (state_of old)) (asked_by call) false ≡ false
      → state_of new ≡ left_by same_object (state_of old) call
      → made_in new ≡ made_after {X = X} old (Ok x) call → IsPerformed old new call (Ok x)
  accepted call x early late untold left made = record {
    ends = record { early = early; late = late; untold = untold; left = settles-same _ (state_of new) left };
    made = made;
  }

  -- ---- calls that read

  pub performed-read : {X : Type 0} (o : Obj) (act : Act) (x : X) → IsRead act → early_in old (On o act) ≡ None
      → late_in old (On o act) ≡ None → Reads (state_of old) o (state_of new) (Ok tt) → made_in new ≡ made_in old
      → IsPerformed old new (On o act) (Ok x)
  performed-read o (Get place) x read early late ends made = accepted (On o (Get place)) x early late ends.0 (ends.1 ∙ sym (left-read (state_of old) o (Get place) tt)) made
  performed-read o Nvals x read early late ends made = accepted (On o Nvals) x early late ends.0 (ends.1 ∙ sym (left-read (state_of old) o Nvals tt)) made
  performed-read o Print x read early late ends made = accepted (On o Print) x early late ends.0 (ends.1 ∙ sym (left-read (state_of old) o Print tt)) made
  performed-read o (Reduce monoid) x read early late ends made = accepted (On o (Reduce monoid)) x early late ends.0 (ends.1 ∙ sym (left-read (state_of old) o (Reduce monoid) tt)) made
  performed-read o (Wait mode) x read early late ends made = accepted (On o (Wait mode)) x early late ends.0 (ends.1 ∙ sym (left-read (state_of old) o (Wait mode) tt)) made
  performed-read o Free x read early late ends made = absurd (read)
  performed-read o Clear x read early late ends made = absurd (read)
  performed-read o (Resize shape) x read early late ends made = absurd (read)
  performed-read o (Build dup tuples) x read early late ends made = absurd (read)
  performed-read o (Set place value) x read early late ends made = absurd (read)
  performed-read o (Remove place) x read early late ends made = absurd (read)

  pub late-none : (o : Obj) (act : Act) → IsNever act → late_in old (On o act) ≡ None
  late-none o act never = late-never ((environment_of old).find_object o) act never

  -- the value didn't come to be there
  pub unread : {X : Type 0} (o : Obj) (act : Act) (why : Refusal) (s : Status) → s ≡ status_of why
      → asked_by {N = Obj} (On o act) ≡ Some o → early_in old (On o act) ≡ None
      → Reads (state_of old) o (state_of new) (Err why) → made_in new ≡ made_in old
      → IsPerformed {X = X} old new (On o act) (Err s)
  unread o act refusal.NoMemory s is asks early ends made = record { ends = inr (inr (is, ends)); made = made }
  unread o act refusal.Failed s is asks early ends made =
      record { ends = inr (inl (is, early, rw asks ends)); made = made }

  -- ---- calls that change an object

  pub performed-edit : {X : Type 0} (o : Obj) (act : Act) (object : Object) (x : X) → IsEdited act (object_at (environment_of old) o) object
      → early_in old (On o act) ≡ None
      → state_of new ≡ put_off same_object (state_of old)
      (with_object same_object (environment_of old) o object (environment_of old).count) o (told (state_of old) o)
      → made_in new ≡ made_in old → IsPerformed old new (On o act) (Ok x)
  unfolding effect
  performed-edit o (Set place value) object x is early left made =
      accepted (On o (Set place value)) x early (late-none o (Set place value) tt) refl
      (left ∙ ap (λ (p : Object). put_off same_object (state_of old) (with_object same_object (environment_of old) o p (environment_of old).count) o (told (state_of old) o)) is) made
  performed-edit o (Remove place) object x is early left made =
      accepted (On o (Remove place)) x early (late-none o (Remove place) tt) refl
      (left ∙ ap (λ (p : Object). put_off same_object (state_of old) (with_object same_object (environment_of old) o p (environment_of old).count) o (told (state_of old) o)) is) made
  performed-edit o (Resize shape) object x is early left made =
      accepted (On o (Resize shape)) x early (late-none o (Resize shape) tt) refl
      (left ∙ ap (λ (p : Object). put_off same_object (state_of old) (with_object same_object (environment_of old) o p (environment_of old).count) o (told (state_of old) o)) is) made
  performed-edit o Free object x is early left made = absurd (is)
  performed-edit o Clear object x is early left made = absurd (is)
  performed-edit o (Build dup tuples) object x is early left made = absurd (is)
  performed-edit o (Get place) object x is early left made = absurd (is)
  performed-edit o Nvals object x is early left made = absurd (is)
  performed-edit o Print object x is early left made = absurd (is)
  performed-edit o (Reduce monoid) object x is early left made = absurd (is)
  performed-edit o (Wait mode) object x is early left made = absurd (is)

  pub performed-clear : {X : Type 0} (o : Obj) (x : X) → early_in old (On o Clear) ≡ None
      → state_of new ≡ with_kept (state_of old) o (record (object_at (environment_of old) o) { content = no_content }) Unmarked
      → made_in new ≡ made_in old → IsPerformed old new (On o Clear) (Ok x)
  unfolding effect
  performed-clear o x early left made = accepted (On o Clear) x early (late-none o Clear tt) refl left made

  pub performed-free : {X : Type 0} (o : Obj) (x : X) → early_in old (On o Free) ≡ None
      → state_of new ≡ with_mark same_object (state_of old) (without_object same_object (environment_of old) o) o Unmarked
      → made_in new ≡ made_in old → IsPerformed old new (On o Free) (Ok x)
  unfolding effect
  performed-free o x early left made = accepted (On o Free) x early (late-none o Free tt) refl left made

  pub performed-build : {X : Type 0} (o : Obj) (dup : Option OpName) (tuples : List Tuple) (between : State Obj) (object : Object) (x : X)
      → early_in old (On o (Build dup tuples)) ≡ None → late_in old (On o (Build dup tuples)) ≡ None
      → Reads (state_of old) o between (Ok tt) → state_of new ≡ with_kept between o object Unmarked
      → object ≡ record (object_at (environment_of old) o) { content = built dup (object_at (environment_of old) o).domain tuples }
      → made_in new ≡ made_in old → IsPerformed old new (On o (Build dup tuples)) (Ok x)
  unfolding effect
  performed-build o dup tuples between object x early late ends left is made =
      accepted (On o (Build dup tuples)) x early late ends.0
      (left ∙ ap (λ (s : State Obj). with_kept s o object Unmarked) ends.1
      ∙ twice-marked (with_object same_object (environment_of old) o object (environment_of old).count)
      ∙ ap (λ (p : Object). with_kept (state_of old) o p Unmarked) is) made
    where
      point : (q : Obj) → cond (same_object o q) Unmarked (cond (same_object o q) Unmarked ((state_of old).marks q))
          ≡ cond (same_object o q) Unmarked ((state_of old).marks q)
      point q = elim (cases_Bool (same_object o q)) [ inl same ↦ rw same refl | inr apart ↦ rw apart refl ]

      -- the mark that is put last stands
      twice-marked : (env : Environment Obj)
          → with_mark same_object (with_mark same_object (state_of old) (environment_of old) o Unmarked) env o Unmarked
          ≡ with_mark same_object (state_of old) env o Unmarked
      twice-marked env = λ t. record { environment = env; marks = λ q. point q t }

  -- ---- calls that make an object

  pub performed-create : {X : Type 0} (name : Obj) (domain : Domain) (shape : Shape) (object : Object) (x : X)
      → early_in old (Create name domain shape) ≡ None
      → state_of new ≡ with_mark same_object (state_of old) (with_object same_object (environment_of old) name object ((environment_of old).count + 1)) name Unmarked
      → object ≡ empty_object domain shape → made_in new ≡ made_in old + 1
      → IsPerformed old new (Create name domain shape) (Ok x)
  unfolding effect
  performed-create name domain shape object x early left is made =
      accepted (Create name domain shape) x early refl refl
      (left ∙ ap (λ (o : Object). with_mark same_object (state_of old) (with_object same_object (environment_of old) name o ((environment_of old).count + 1)) name Unmarked) is) made

  pub performed-dup : {X : Type 0} (name o : Obj) (x : X) → early_in old (Dup name o) ≡ None
      → state_of new ≡ put_off same_object (state_of old) (with_object same_object (environment_of old) name (object_at (environment_of old) o) ((environment_of old).count + 1)) name (told (state_of old) o)
      → made_in new ≡ made_in old + 1 → IsPerformed old new (Dup name o) (Ok x)
  unfolding effect
  performed-dup name o x early left made = accepted (Dup name o) x early refl refl left made

  -- ---- operations

  pub early-operate : (out : Out Obj) (operation : Operation Obj)
      → early_in old (Operate out operation) ≡ early_fault (count_in old) (Operate (renamed_out (known_in old) out) (renamed_operation (known_in old) operation))
  early-operate out operation =
      let find = (environment_of old).find_object in
      ap (λ (o : Out (Option Signature)). early_fault (count_in old) (Operate o (renamed_operation (option_map signature_of) (renamed_operation find operation)))) (out_twice find (option_map signature_of) out)
      ∙ ap (λ (o : Operation (Option Signature)). early_fault (count_in old) (Operate (renamed_out (known_in old) out) o)) (operation_twice find (option_map signature_of) operation)

  pub performed-operate : {X : Type 0} (out : Out Obj) (operation : Operation Obj) (x : X)
      → early_fault (count_in old) (Operate (renamed_out (known_in old) out) (renamed_operation (known_in old) operation)) ≡ None
      → state_of new ≡ put_off same_object (state_of old) (with_content same_object (environment_of old) out.c (result_of (renamed_out (object_at (environment_of old)) out) (renamed_operation (object_at (environment_of old)) operation)))
      out.c (any_told (state_of old) (roles_of out operation))
      → made_in new ≡ made_in old → IsPerformed old new (Operate out operation) (Ok x)
  unfolding effect
  performed-operate out operation x early left made =
      accepted (Operate out operation) x (early-operate out operation ∙ early) refl refl
      (left ∙ ap (λ (is_told : Bool). put_off same_object (state_of old) (effect same_object (environment_of old) (Operate out operation)) out.c is_told) (told-by_role (state_of old) out operation)) made

  -- ..that is refused by its checks
  pub refused-operate : {X : Type 0} (out : Out Obj) (operation : Operation Obj) (s : Status)
      → early_fault (count_in old) (Operate (renamed_out (known_in old) out) (renamed_operation (known_in old) operation)) ≡ Some s
      → state_of new ≡ state_of old → made_in new ≡ made_in old
      → IsPerformed {X = X} old new (Operate out operation) (Err s)
  refused-operate out operation s early same made = record { ends = inl (inl (early-operate out operation ∙ early, same)); made = made }

  -- ---- reads that a value refuses

  pub absent_value : (o : Option Object) (x : Object) (p : Place) → o ≡ Some x → x.content (row_of p) (col_of p) ≡ None
      → option_and_then (λ x. late_fault x (Get p)) o ≡ Some status.NoValue
  absent_value o x p there none = rw (there, none) refl

  pub found_value : (o : Option Object) (x : Object) (p : Place) (word : ℕ) → o ≡ Some x → x.content (row_of p) (col_of p) ≡ Some word
      → option_and_then (λ x. late_fault x (Get p)) o ≡ None
  found_value o x p word there stored = rw (there, stored) refl

  -- what is there stays where a value is asked for
  pub read-kept : (o : Obj) → Reads (state_of old) o (state_of new) (Ok tt) → environment_of new ≡ environment_of old
  read-kept o ends = ap (λ (s : State Obj). s.environment) ends.1

  settles-read : (o : Obj) → Reads (state_of old) o (state_of new) (Ok tt) → Settles (state_of old) (state_of new)
  settles-read o ends =
      subst (Settles (state_of old)) (sym ends.1)
      (settles-marked same_object (state_of old) o (λ q same. same-number o q (eqb-true o.0 q.0 same)) ends.0)

  -- memory is refused to what is done with a value that came to be there
  pub refused-read : {X : Type 0} (o : Obj) (act : Act) (s : Status) → s ≡ status.OutOfMemory
      → Reads (state_of old) o (state_of new) (Ok tt) → made_in new ≡ made_in old → IsPerformed {X = X} old new (On o act) (Err s)
  refused-read o act s is ends made = record { ends = inr (inr (is, settles-read o ends)); made = made }

  -- ..and to a call that changed nothing
  pub refused-call : {X : Type 0} (call : Call Obj Obj) (s : Status) → s ≡ status.OutOfMemory
      → state_of new ≡ state_of old → made_in new ≡ made_in old → IsPerformed {X = X} old new call (Err s)
  refused-call call s is same made = record { ends = inr (inr (is, settles-same (state_of old) (state_of new) same)); made = made }

  -- a value that refuses a call that asks for it
  pub refused-late : {X : Type 0} (o : Obj) (act : Act) (s : Status) → early_in old (On o act) ≡ None
      → late_in old (On o act) ≡ Some s → asked_by {N = Obj} (On o act) ≡ Some o
      → Reads (state_of old) o (state_of new) (Ok tt) → made_in new ≡ made_in old → IsPerformed {X = X} old new (On o act) (Err s)
  refused-late o act s early late asks ends made = record {
    ends = inl (inr (early, late, rw asks ends.0, rw asks ends.1));
    made = made;
  }

  -- ..as an error that is handed on says it
  pub refused-as : {X : Type 0} (call : Call Obj Obj) (r : Result X Status) → IsErrAnd r (λ s. s ≡ status.OutOfMemory)
      → state_of new ≡ state_of old → made_in new ≡ made_in old → IsPerformed old new call r
  refused-as call (Ok x) is same made = absurd (is)
  refused-as call (Err s) is same made = refused-call call s is same made

  pub refused-read-as : {X : Type 0} (o : Obj) (act : Act) (r : Result X Status) → IsErrAnd r (λ s. s ≡ status.OutOfMemory)
      → Reads (state_of old) o (state_of new) (Ok tt) → made_in new ≡ made_in old → IsPerformed old new (On o act) r
  refused-read-as o act (Ok x) is ends made = absurd (is)
  refused-read-as o act (Err s) is ends made = refused-read o act s is ends made

-- an object that is there is taken out
pub removed-there : (removed : Bool) (before after : State Obj) (o : Obj) → is_some (before.environment.find_object o) ≡ true
    → removed ≡ is_some (before.environment.find_object o)
    → after ≡ cond removed (with_mark same_object before (without_object same_object before.environment o) o Unmarked) before
    → after ≡ with_mark same_object before (without_object same_object before.environment o) o Unmarked
removed-there true before after o there is left = left
removed-there false before after o there is left = let contra : false ≡ true = is ∙ there in absurd (cc)

-- the mark of an object that isn't there
pub unmarked-absent : {R T : Type 0} {g : Ghosts R T} (session : Session R T g) (o : Obj)
    → (environment_of session).find_object o ≡ None → (state_of session).marks o ≡ Unmarked
unmarked-absent session o none = at_none (get nat_cmp session.table.by_number o.0) none
  where
    at_none : {R T : Type 0} {g : Ghosts R T} (kept : Option (Kept R T g)) → option_map object_in kept ≡ None → option_map_or mark_in kept Unmarked ≡ Unmarked
    at_none None none = refl
    at_none (Some kept) none = absurd (cc)

-- a creation with a value that memory is refused to
pub unmade-as : {R T X : Type 0} {g : Ghosts R T} (old new : Session R T g) (o : Object) (r : Result X Status)
    → IsErrAnd r (λ s. s ≡ status.OutOfMemory) → state_of new ≡ state_of old → made_in new ≡ made_in old → IsMade old new o r
unmade-as old new o (Ok x) is same made = absurd (is)
unmade-as old new o (Err s) is same made = record { ends = inr (is, settles-same (state_of old) (state_of new) same); made = made }

own-mask : {K : Type 0} (mask : Option K) → option_map (λ k. k) mask ≡ mask
own-mask None = refl
own-mask (Some k) = refl

own-operation : {K : Type 0} (operation : Operation K) → renamed_operation (λ k. k) operation ≡ operation
own-operation (Fill value region) = refl
own-operation (OfOne computes a) = refl
own-operation (OfTwo computes a b) = refl

-- an operation makes no object, whose number it could have
pub numbered-operate : {R T N : Type 0} {g : Ghosts R T} (session : Session R T g) (call : Call Obj N) (out : Out Obj) (operation : Operation Obj)
    → call ≡ Operate out operation → numbered session call ≡ Operate out operation
numbered-operate {N = N} session call out operation is =
    ap (numbered session) is
    ∙ (λ t. let now : Out Obj = out_over out out.c (own-mask out.mask t) in Operate now (own-operation operation t))

-- a reply that says no more than that a call was done
pub performed-done : {R T : Type 0} {g : Ghosts R T} (old new : Session R T g) (call : Call Obj Obj) (r : Result (Unit {0}) Status) (reply : Result Reply Status)
    → MatchResult r (λ x. reply ≡ Ok Done) (λ s. reply ≡ Err s) → IsPerformed old new call r → IsPerformed old new call reply
performed-done old new call (Ok x) reply is done =
    rw is (record { ends = done.ends; made = made_again call done.made })
  where
    made_again : (call : Call Obj Obj) → made_in new ≡ made_after {X = Unit {0}} old (Ok x) call → made_in new ≡ made_after {X = Reply} old (Ok Done) call
    made_again (Create name domain shape) made = made
    made_again (Dup name o) made = made
    made_again (On o act) made = made
    made_again (Operate out operation) made = made
performed-done old new call (Err s) reply is done = rw is (record { ends = done.ends; made = done.made })

-- whatever a print answers
pub printed-again : {R T X Y : Type 0} {g : Ghosts R T} (old new : Session R T g) (o : Obj) (x : X) (y : Y)
    → IsPerformed old new (On o Print) (Ok x) → IsPerformed old new (On o Print) (Ok y)
printed-again old new o x y done = record { ends = done.ends; made = done.made }
