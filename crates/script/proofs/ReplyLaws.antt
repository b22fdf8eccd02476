-- What calls on names leave and answer, by what the session does.
use Rattle.std.proofs.Common.{◌≡◌, ◌∙◌, ◌<◌, ◌≤◌, ◌+◌, ◌-◌, ◌^◌, ◌++◌, ℕ, List, [], Bool, true, false, cond, Option, Some, None, is_some, Result, Ok, Err, arith, refl, sym, ap, inl, inr}
use Rattle.std.specs.Prelude.{IfOk, OnOk}
use Rattle.std.specs.List.{flat_map}
use Rattle.std.specs.Option.{option_map, option_map_or}
use Rattle.std.specs.Str.{bytes_eq}
use Rattle.std.proofs.lemmas.Bool.{eqb-true, true≢false}
use Rattle.std.proofs.lemmas.List.{append-nil}
use Rattle.algebra.specs.declared.domain.Domain.{Domain}
use Rattle.calls.specs.declared.obj.Obj.{Obj}
use Rattle.model.specs.declared.call.Call.{Call}
use Rattle.model.specs.declared.call.Act.TheVariants.{Free, Clear, Resize, Build, Set, Remove, Get, Nvals, Print, Reduce, Wait}
use Rattle.model.specs.declared.call.Call.TheVariants.{Create, Dup, On, Operate}
use Rattle.model.specs.declared.shape.Shape.{Shape}
use Rattle.model.specs.declared.status.Status.{Status}
use Rattle.model.specs.declared.status.Status.TheVariants as status
use Rattle.model.specs.Grammar.{Name}
use Rattle.model.specs.Object.{Object}
use Rattle.model.specs.Renamed.{found, renamed}
use Rattle.model.specs.Marks.{HasFailed, IsUntold, Settles, State, Unmarked, asked_by, left_by, put_off, reads_told, told, with_mark}
use Rattle.model.specs.Text.{ended}
use Rattle.model.specs.Run.{Environment, data_lines_of, effect, object_at, on_objects, seen}
use Rattle.model.proofs.RenamedLaws.{found_fewer, renamed_twice}
use Rattle.model.proofs.SettlesLaws.{settles-marked, settles-then}
use Rattle.session.specs.Performed.{same_object}
use Rattle.runner.specs.declared.runner.Runner.{Ghosts}
use Rattle.script.proofs.NameLaws.{AreDistinct, count-left, data_renamed, effect-unmade, fault-missing, left_renamed, names_renamed, on_objects-along, place-along, put, put_by, put_renamed, put_to, same_number, seen-along}
use Rattle.script.proofs.StateLaws.{ends-along, settles-along}
use Rattle.script.specs.declared.environment.Environment.{Environment as Objects}
use Rattle.script.specs.Named.{HasLines, asks_text, changes_names, environment_in, number_in, reply_lines, state_in, through}
use Rattle.script.specs.Replied.{IsAnswered, IsNamed, IsReplied, named_setting}
use Rattle.session.specs.declared.reply.Reply.{Reply}
use Rattle.session.specs.declared.reply.Reply.TheVariants.{Done, Made, Value, Count}
use Rattle.session.specs.declared.sessions.Session.{Session}
use Rattle.session.specs.Ends.{Ends, fault_before}
use Rattle.session.specs.Performed.{Answers, IsPerformed, count_in, environment_of, made_after, made_in, next_object, numbered, seen_in, setting, state_of}

-- ---- the session's call

pub known_along : {R T : Type 0} {g : Ghosts R T} (number : Name → Option Obj) (session : Session R T g) (call : Call Name Name) (r : Call Obj Name)
    → changes_names call ≡ false
    → renamed Some (λ n. n) r ≡ renamed number (λ n. n) call → changes_names (numbered session r) ≡ false
known_along number session call r known e =
    names_renamed (λ (o : Obj). o) (λ (n : Name). record { 0 = session.next }) r
    ∙ sym (names_renamed Some (λ n. n) r) ∙ ap changes_names e ∙ names_renamed number (λ n. n) call ∙ known

text_renamed : {K L A B : Type 0} (f : K → L) (k : A → B) (call : Call K A)
    → asks_text (renamed f k call) ≡ asks_text call
text_renamed f k (Create name domain shape) = refl
text_renamed f k (Dup name o) = refl
text_renamed f k (On o act) = refl
text_renamed f k (Operate out operation) = refl

textless_along : {R T : Type 0} {g : Ghosts R T} (number : Name → Option Obj) (session : Session R T g) (call : Call Name Name) (r : Call Obj Name)
    → asks_text call ≡ false → renamed Some (λ n. n) r ≡ renamed number (λ n. n) call
    → asks_text (numbered session r) ≡ false
textless_along number session call r textless e =
    text_renamed (λ (o : Obj). o) (λ (n : Name). next_object session) r
    ∙ sym (text_renamed Some (λ n. n) r) ∙ ap asks_text e ∙ text_renamed number (λ n. n) call ∙ textless

-- the objects of the call by name and by number
objects_along : {X R T : Type 0} {g : Ghosts R T} (what : Call Object Name → X) (same : Call Object Obj → X)
    → ((k : Name → Obj) (call : Call Object Name) → same (renamed (λ o. o) k call) ≡ what call)
    → (number : Name → Option Obj) (session : Session R T g) (call : Call Name Name) (r : Call Obj Name)
    → renamed Some (λ n. n) r ≡ renamed number (λ n. n) call
    → what (on_objects (through number (environment_of session)) call) ≡ same (on_objects (environment_of session) (numbered session r))
objects_along what same ignores number session call r e =
    let senv = environment_of session in
    let next : Name → Obj = λ n. record { 0 = session.next } in
    let by_number : Call Object Name = renamed (object_at senv) (λ n. n) r in
    ap (λ (c : Call Object Name). what c) (on_objects-along number senv call r e)
    ∙ sym (ignores next by_number)
    ∙ ap (λ (c : Call Object Obj). same c) (renamed_twice (object_at senv) (λ (o : Object). o) (λ (n : Name). n) next r
    ∙ sym (renamed_twice (λ (o : Obj). o) (object_at senv) next (λ (o : Obj). o) r))

-- ---- what it leaves

own_option : {K : Type 0} (o : Option K) → option_map (λ k. k) o ≡ o
own_option None = refl
own_option (Some k) = refl

placed : (number : Name → Option Obj) (senv : Environment Obj) (new : Option Object) (found : Option Name)
    (made : Option Obj) → AreDistinct number → option_map Some made ≡ option_map number found
    → through number (put same_object senv made new) ≡ put bytes_eq (through number senv) found new
placed number senv new None None distinct e = refl
placed number senv new None (Some o) distinct e = absurd (cc)
placed number senv new (Some name) None distinct e = absurd (cc)
placed number senv None (Some name) (Some o) distinct e = refl
placed number senv (Some object) (Some name) (Some o) distinct e =
    let is : number name ≡ Some o = cc in place-along number distinct name o is senv object senv.count

pub effect-along : {R T : Type 0} {g : Ghosts R T} (number : Name → Option Obj) (session : Session R T g) (call : Call Name Name)
    (r : Call Obj Name) → changes_names call ≡ false → AreDistinct number
    → renamed Some (λ n. n) r ≡ renamed number (λ n. n) call
    → through number (effect same_object (environment_of session) (numbered session r)) ≡ effect bytes_eq (through number (environment_of session)) call
effect-along number session call r known distinct e =
    let senv = environment_of session in
    let env = through number senv in
    let r' = numbered session r in
    let left : put_by (on_objects env call) ≡ put_by (on_objects senv r') = objects_along put_by put_by left_renamed number session call r e in
    let outputs : option_map Some (put_to r) ≡ option_map number (put_to call) =
    sym (put_renamed Some (λ n. n) r) ∙ ap put_to e ∙ put_renamed number (λ n. n) call in
    let own : put_to r' ≡ put_to r = put_renamed (λ (o : Obj). o) (λ (n : Name). record { 0 = session.next }) r ∙ own_option (put_to r) in
    ap (through number) (effect-unmade same_object senv r' (known_along number session call r known e)
    ∙ ap (λ (o : Option Obj). put same_object senv o (put_by (on_objects senv r'))) own)
    ∙ placed number senv (put_by (on_objects senv r')) (put_to call) (put_to r) distinct outputs
    ∙ ap (λ (x : Option Object). put bytes_eq env (put_to call) x) (sym left)
    ∙ sym (effect-unmade bytes_eq env call known)

-- an object that is there stays
stays_put : (test : Bool) (x : Object) (o : Option Object) → is_some o ≡ true → is_some (cond test (Some x) o) ≡ true
stays_put true x o h = refl
stays_put false x o h = h

stays_in : (senv : Environment Obj) (new : Option Object) (made : Option Obj) (q : Obj)
    → is_some (senv.find_object q) ≡ true
    → is_some ((put same_object senv made new).find_object q) ≡ true
stays_in senv new None q h = h
stays_in senv None (Some o) q h = h
stays_in senv (Some object) (Some o) q h = stays_put (same_object o q) object (senv.find_object q) h

stays : (senv : Environment Obj) (call : Call Obj Obj) (q : Obj) → changes_names call ≡ false
    → is_some (senv.find_object q) ≡ true → is_some ((effect same_object senv call).find_object q) ≡ true
stays senv call q known h =
    ap (λ (env : Environment Obj). is_some (env.find_object q)) (effect-unmade same_object senv call known)
    ∙ stays_in senv (put_by (on_objects senv call)) (put_to call) q h

off_env : (s : State Obj) (env : Environment Obj) (o : Obj) (reads : Bool) (q : Obj) → is_some (env.find_object q) ≡ true
    → is_some ((put_off same_object s env o reads).environment.find_object q) ≡ true
off_env s env o true q h = stays_put (same_object o q) _ (env.find_object q) h
off_env s env o false q h = h

-- whatever a call leaves of it
left_there : (s : State Obj) (call : Call Obj Obj) (q : Obj) → changes_names call ≡ false
    → is_some (s.environment.find_object q) ≡ true
    → is_some ((left_by same_object s call).environment.find_object q) ≡ true
left_there s (Create name domain shape) q known h = absurd (true≢false known)
left_there s (Dup name o) q known h = absurd (true≢false known)
left_there s (On o Free) q known h = absurd (true≢false known)
left_there s (On o Clear) q known h = stays s.environment (On o Clear) q known h
left_there s (On o (Resize shape)) q known h =
    off_env s (effect same_object s.environment (On o (Resize shape))) o (told s o) q (stays s.environment (On o (Resize shape)) q known h)
left_there s (On o (Build dup tuples)) q known h = stays s.environment (On o (Build dup tuples)) q known h
left_there s (On o (Set p value)) q known h =
    off_env s (effect same_object s.environment (On o (Set p value))) o (told s o) q (stays s.environment (On o (Set p value)) q known h)
left_there s (On o (Remove p)) q known h =
    off_env s (effect same_object s.environment (On o (Remove p))) o (told s o) q (stays s.environment (On o (Remove p)) q known h)
left_there s (On o (Get p)) q known h = stays s.environment (On o (Get p)) q known h
left_there s (On o Nvals) q known h = stays s.environment (On o Nvals) q known h
left_there s (On o Print) q known h = stays s.environment (On o Print) q known h
left_there s (On o (Reduce monoid)) q known h = stays s.environment (On o (Reduce monoid)) q known h
left_there s (On o (Wait mode)) q known h = stays s.environment (On o (Wait mode)) q known h
left_there s (Operate out operation) q known h =
    off_env s (effect same_object s.environment (Operate out operation)) out.c (reads_told s out operation) q (stays s.environment (Operate out operation) q known h)

-- ---- what it answers

lines_answered : (senv : Environment Obj) (call : Call Obj Obj) (reply : Reply) → changes_names call ≡ false
    → asks_text call ≡ false → Answers senv call reply → reply_lines reply ≡ data_lines_of (on_objects senv call)
unfolding data_lines_of
lines_answered senv (Create name domain shape) reply known textless answers = absurd (true≢false known)
lines_answered senv (Dup name o) reply known textless answers = absurd (true≢false known)
lines_answered senv (On o Free) reply known textless answers = absurd (true≢false known)
lines_answered senv (On o Clear) Done known textless answers = refl
lines_answered senv (On o Clear) _ known textless answers = absurd answers
lines_answered senv (On o (Resize shape)) Done known textless answers = refl
lines_answered senv (On o (Resize shape)) _ known textless answers = absurd answers
lines_answered senv (On o (Build dup tuples)) Done known textless answers = refl
lines_answered senv (On o (Build dup tuples)) _ known textless answers = absurd answers
lines_answered senv (On o (Remove p)) Done known textless answers = refl
lines_answered senv (On o (Remove p)) _ known textless answers = absurd answers
lines_answered senv (On o (Set p value)) Done known textless answers = refl
lines_answered senv (On o (Set p value)) _ known textless answers = absurd answers
lines_answered senv (On o (Get p)) (Value value) known textless (word, stored, same) = rw (same, stored) refl
lines_answered senv (On o (Get p)) _ known textless answers = absurd answers
lines_answered senv (On o Nvals) (Count number) known textless answers = rw answers refl
lines_answered senv (On o Nvals) _ known textless answers = absurd answers
lines_answered senv (On o (Reduce monoid)) (Value value) known textless answers = rw answers refl
lines_answered senv (On o (Reduce monoid)) _ known textless answers = absurd answers
lines_answered senv (On o Print) reply known textless answers = absurd (true≢false textless)
lines_answered senv (On o (Wait mode)) Done known textless answers = refl
lines_answered senv (On o (Wait mode)) _ known textless answers = absurd answers
lines_answered senv (Operate out operation) Done known textless answers = refl
lines_answered senv (Operate out operation) _ known textless answers = absurd answers

-- a call that answers lines changes nothing but that the value for which it asks is there
reads_answered : (s after : State Obj) (call : Call Obj Obj) (reply : Reply) → Answers s.environment call reply
    → HasLines reply → IsUntold s (asked_by call) → Settles (left_by same_object s call) after → Settles s after
unfolding effect
reads_answered s after (On o (Get p)) reply answers has untold settles = settles-then s _ after (settles-marked same_object s o (λ q same. same_number o q (eqb-true o.0 q.0 same)) untold) settles
reads_answered s after (On o Nvals) reply answers has untold settles = settles-then s _ after (settles-marked same_object s o (λ q same. same_number o q (eqb-true o.0 q.0 same)) untold) settles
reads_answered s after (On o Print) reply answers has untold settles = settles-then s _ after (settles-marked same_object s o (λ q same. same_number o q (eqb-true o.0 q.0 same)) untold) settles
reads_answered s after (On o (Reduce monoid)) reply answers has untold settles = settles-then s _ after (settles-marked same_object s o (λ q same. same_number o q (eqb-true o.0 q.0 same)) untold) settles
reads_answered s after _ (Done) answers has untold settles = absurd has
reads_answered s after _ (Made o) answers has untold settles = absurd has
reads_answered s after _ _ answers has untold settles = absurd answers

-- a call makes one object at most
pub made_after-most : {R T X : Type 0} {g : Ghosts R T} (old : Session R T g) (result : Result X Status) (call : Call Obj Obj)
    → made_after old result call ≤ made_in old + 1
made_after-most old (Err s) call = omega arith
made_after-most old (Ok x) (Create name domain shape) = omega arith
made_after-most old (Ok x) (Dup name o) = omega arith
made_after-most old (Ok x) (On o act) = omega arith
made_after-most old (Ok x) (Operate out operation) = omega arith

-- ---- together

-- the state after a call by number, under the names
pub ended_named : {R T : Type 0} {g : Ghosts R T} {X : Type 0} (old new : Objects R T g) (call : Call Name Name) (r : Call Obj Name) (result : Result X Status)
    → made_in old.session < 2 ^ 64 - 1 → changes_names call ≡ false
    → AreDistinct (number_in old) → new.numbers ≡ old.numbers
    → renamed Some (λ n. n) r ≡ renamed (number_in old) (λ n. n) call
    → IsPerformed old.session new.session (numbered old.session r) result
    → Ends (named_setting (state_in old) call (state_in new)) result
ended_named old new call r result small known distinct same e done =
    let number = number_in old in
    let ends = ends-along number distinct (state_of old.session) (state_of new.session) call r (λ (n : Name). next_object old.session) known e
    (count_in old.session) (seen_in old.session (numbered old.session r)) result
    (known_along number old.session call r known e) (effect-along number old.session call r known distinct e)
    (count-left old.session small) (seen-along number old.session call r known e) done.ends in
    rw same ends

pub replied : {R T : Type 0} {g : Ghosts R T} (old new : Objects R T g) (call : Call Name Name) (r : Call Obj Name) (result : Result Reply Status)
    → made_in old.session < 2 ^ 64 - 1 → changes_names call ≡ false → asks_text call ≡ false
    → AreDistinct (number_in old) → new.numbers ≡ old.numbers
    → renamed Some (λ n. n) r ≡ renamed (number_in old) (λ n. n) call
    → IsPerformed old.session new.session (numbered old.session r) result
    → IfOk result (Answers (environment_of old.session) (numbered old.session r)) → IsReplied old new call result
replied old new call r result small known textless distinct same e done answers = record {
  ends = ended_named old new call r result small known distinct same e done;
  made = rw done.made (made_after-most old.session result (numbered old.session r));
  lines = lines_of_reply result answers;
  reads = reads_of_reply result answers done.ends;
}
  where
    lines_of_reply : (result : Result Reply Status) → IfOk result (Answers (environment_of old.session) (numbered old.session r))
        → IfOk result (λ reply. reply_lines reply ≡ data_lines_of (on_objects (environment_in old) call))
    lines_of_reply (Err s) answers = tt
    lines_of_reply (Ok reply) answers =
        lines_answered (environment_of old.session) (numbered old.session r) reply (known_along (number_in old) old.session call r known e)
        (textless_along (number_in old) old.session call r textless e) answers
        ∙ sym (objects_along data_lines_of data_lines_of data_renamed (number_in old) old.session call r e)

    reads_of_reply : (result : Result Reply Status) → IfOk result (Answers (environment_of old.session) (numbered old.session r))
        → Ends (setting old.session new.session (numbered old.session r)) result
        → IfOk result (λ reply. HasLines reply → Settles (state_in old) (state_in new))
    reads_of_reply (Err s) answers ends = tt
    reads_of_reply (Ok reply) answers ends = λ has.
        rw same (settles-along (number_in old) (state_of old.session) (state_of new.session)
        (reads_answered (state_of old.session) (state_of new.session) (numbered old.session r) reply answers has ends.untold ends.left))

-- ---- the table of names after a call

-- each name stands for an object still, whether or not the call was accepted
pub stays_there : {R T X : Type 0} {g : Ghosts R T} (number : Name → Option Obj) (session new : Session R T g) (call : Call Obj Obj)
    (result : Result X Status) → changes_names call ≡ false
    → ((name : Name) (object : Obj) → number name ≡ Some object → is_some ((environment_of session).find_object object) ≡ true)
    → IsPerformed session new call result
    → (name : Name) (object : Obj) → number name ≡ Some object
    → is_some ((environment_of new).find_object object) ≡ true
stays_there {X = X} number session new call result known there done name object is = stays_ended result done.ends
  where
    was : is_some ((environment_of session).find_object object) ≡ true
    was = there name object is

    along_env : (env : Environment Obj) → environment_of new ≡ env → is_some (env.find_object object) ≡ true
        → is_some ((environment_of new).find_object object) ≡ true
    along_env env same h = ap (λ (env : Environment Obj). is_some (env.find_object object)) same ∙ h

    looked_env : (asked : Option Obj)
        → (option_map_or (λ o. with_mark same_object (state_of session) (environment_of session) o Unmarked) asked (state_of session)).environment ≡ environment_of session
    looked_env None = refl
    looked_env (Some o) = refl

    failed_there : (asked : Option Obj) → HasFailed same_object (state_of session) asked (state_of new)
        → is_some ((environment_of new).find_object object) ≡ true
    failed_there None has = absurd (has)
    failed_there (Some o) has =
        along_env _ (ap (λ (s : State Obj). s.environment) has.1) (stays_put (same_object o object) _ ((environment_of session).find_object object) was)

    stays_ended : (result : Result X Status) → Ends (setting session new call) result
        → is_some ((environment_of new).find_object object) ≡ true
    stays_ended (Ok x) ends = along_env _ ends.left.environment (left_there (state_of session) call object known was)
    stays_ended (Err s) (inl (inl (early, kept))) = along_env _ (ap (λ (s : State Obj). s.environment) kept) was
    stays_ended (Err s) (inl (inr (early, late, untold, kept))) =
        along_env _ (ap (λ (s : State Obj). s.environment) kept ∙ looked_env (asked_by call)) was
    stays_ended (Err s) (inr (inl (invalid, early, failed))) = failed_there (asked_by call) failed
    stays_ended (Err s) (inr (inr (memory, settles))) = along_env _ settles.environment was

-- a call that is refused before it is looked at
pub refused : {R T : Type 0} {g : Ghosts R T} (old : Objects R T g) (call : Call Name Name) (s : Status)
    → fault_before (environment_in old).count (seen (environment_in old) call) ≡ Some s
    → IsReplied old old call (Err s)
refused old call s fault = record {
  ends = inl (inl (fault, refl));
  made = omega arith;
  lines = tt;
  reads = tt;
}

-- a call that makes an object or frees one answers no lines
named_answered : {R T : Type 0} {g : Ghosts R T} (old new : Objects R T g) (call : Call Name Name) (text : List ℕ) (result : Result (Unit {0}) Status)
    → data_lines_of (on_objects (environment_in old) call) ≡ [] → IsNamed old new call result → IsAnswered old new call text text result
named_answered old new call text result none done = record { ends = done.ends; lines = no_lines result; made = done.made }
  where
    no_lines : (result : Result (Unit {0}) Status)
        → OnOk result (text ≡ text ++ flat_map ended (data_lines_of (on_objects (environment_in old) call)))
    no_lines (Ok x) = sym (append-nil text) ∙ ap (λ (lines : List (List ℕ)). text ++ flat_map ended lines) (sym none)
    no_lines (Err s) = tt

pub created_answered : {R T : Type 0} {g : Ghosts R T} (old new : Objects R T g) (name : Name) (domain : Domain) (shape : Shape) (text : List ℕ)
    (result : Result (Unit {0}) Status) → IsNamed old new (Create name domain shape) result
    → IsAnswered old new (Create name domain shape) text text result
unfolding data_lines_of
created_answered old new name domain shape text result done = named_answered old new (Create name domain shape) text result refl done

pub copied_answered : {R T : Type 0} {g : Ghosts R T} (old new : Objects R T g) (name from : Name) (text : List ℕ)
    (result : Result (Unit {0}) Status) → IsNamed old new (Dup name from) result → IsAnswered old new (Dup name from) text text result
unfolding data_lines_of
copied_answered old new name from text result done = named_answered old new (Dup name from) text result refl done

pub freed_answered : {R T : Type 0} {g : Ghosts R T} (old new : Objects R T g) (name : Name) (text : List ℕ) (result : Result (Unit {0}) Status)
    → IsNamed old new (On name Free) result → IsAnswered old new (On name Free) text text result
unfolding data_lines_of
freed_answered old new name text result done = named_answered old new (On name Free) text result refl done

-- ---- calls whose names are held another way

named_again : {X : Type 0} (now : X → Name) (number : Name → Option Obj) (call : Call X X) (r : Call Obj X)
    → renamed Some (λ x. x) r ≡ renamed (λ x. number (now x)) (λ x. x) call
    → renamed Some (λ n. n) (renamed (λ o. o) now r) ≡ renamed number (λ n. n) (renamed now now call)
named_again {X = X} now number call r e =
    renamed_twice (λ (o : Obj). o) Some now (λ (n : Name). n) r
    ∙ sym (renamed_twice Some (λ (o : Option Obj). o) (λ (x : X). x) now r)
    ∙ ap (λ (c : Call (Option Obj) X). renamed (λ o. o) now c) e
    ∙ renamed_twice (λ (x : X). number (now x)) (λ (o : Option Obj). o) (λ (x : X). x) now call
    ∙ sym (renamed_twice now number now (λ (n : Name). n) call)

numbered_again : {X R T : Type 0} {g : Ghosts R T} (now : X → Name) (session : Session R T g) (r : Call Obj X)
    → numbered session (renamed (λ o. o) now r) ≡ numbered session r
numbered_again now session r = renamed_twice (λ (o : Obj). o) (λ (o : Obj). o) now (λ (n : Name). record { 0 = session.next }) r

pub replied_named : {X R T : Type 0} {g : Ghosts R T} (now : X → Name) (old new : Objects R T g) (call : Call X X) (r : Call Obj X)
    (result : Result Reply Status) → made_in old.session < 2 ^ 64 - 1 → changes_names call ≡ false
    → asks_text call ≡ false → AreDistinct (number_in old) → new.numbers ≡ old.numbers
    → renamed Some (λ x. x) r ≡ renamed (λ x. number_in old (now x)) (λ x. x) call
    → IsPerformed old.session new.session (numbered old.session r) result
    → IfOk result (Answers (environment_of old.session) (numbered old.session r))
    → IsReplied old new (renamed now now call) result
replied_named now old new call r result small known textless distinct same e done answers =
    let own = numbered_again now old.session r in
    replied old new (renamed now now call) (renamed (λ o. o) now r) result small (names_renamed now now call ∙ known)
    (text_renamed now now call ∙ textless) distinct same (named_again now (number_in old) call r e)
    (rw own done) (rw own answers)

pub known_named : {X R T : Type 0} {g : Ghosts R T} (now : X → Name) (number : Name → Option Obj) (session : Session R T g) (call : Call X X)
    (r : Call Obj X) → changes_names call ≡ false
    → renamed Some (λ x. x) r ≡ renamed (λ x. number (now x)) (λ x. x) call → changes_names (numbered session r) ≡ false
known_named now number session call r known e =
    sym (ap changes_names (numbered_again now session r)) ∙ known_along number session (renamed now now call) (renamed (λ o. o) now r) (names_renamed now now call ∙ known) (named_again now number call r e)

pub missing_named : {X R T : Type 0} {g : Ghosts R T} (now : X → Name) (names : Objects R T g) (call : Call X X) → changes_names call ≡ false
    → None ≡ found (renamed (λ x. number_in names (now x)) (λ x. x) call)
    → IsReplied names names (renamed now now call) (Err status.UninitializedObject)
missing_named {X = X} now names call known missing =
    let number = number_in names in
    let gone : found (renamed number (λ n. n) (renamed now now call)) ≡ None =
    ap found (renamed_twice now number now (λ (n : Name). n) call)
    ∙ found_fewer (λ x. number (now x)) (λ (o : Option Obj). o) refl (λ x. x) now call (sym missing) in
    refused names (renamed now now call) status.UninitializedObject (fault-missing number (environment_of names.session) (renamed now now call) (names_renamed now now call ∙ known) gone)

-- ---- operations, which answer no lines

pub joined_named : {X R T : Type 0} {g : Ghosts R T} (now : X → Name) (old new : Objects R T g) (call : Call X X) (r : Call Obj X)
    (result : Result (Unit {0}) Status) → made_in old.session < 2 ^ 64 - 1 → changes_names call ≡ false
    → AreDistinct (number_in old) → new.numbers ≡ old.numbers
    → renamed Some (λ x. x) r ≡ renamed (λ x. number_in old (now x)) (λ x. x) call
    → IsPerformed old.session new.session (numbered old.session r) result
    → IsNamed old new (renamed now now call) result
joined_named now old new call r result small known distinct same e done =
    let own = numbered_again now old.session r in
    let done_own : IsPerformed old.session new.session (numbered old.session (renamed (λ o. o) now r)) result = rw own done in
    record {
      ends = ended_named old new (renamed now now call) (renamed (λ o. o) now r) result small (names_renamed now now call ∙ known)
          distinct same (named_again now (number_in old) call r e) done_own;
      made = rw done.made (made_after-most old.session result (numbered old.session r));
    }

pub missing_joined : {X R T : Type 0} {g : Ghosts R T} (now : X → Name) (names : Objects R T g) (call : Call X X) → changes_names call ≡ false
    → None ≡ found (renamed (λ x. number_in names (now x)) (λ x. x) call)
    → IsNamed {X = Unit {0}} names names (renamed now now call) (Err status.UninitializedObject)
missing_joined now names call known missing =
    let replied = missing_named now names call known missing in
    record { ends = replied.ends; made = replied.made }
