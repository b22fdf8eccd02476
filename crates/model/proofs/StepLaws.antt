-- Every step keeps all objects well formed: their words are of their domains, at positions inside their shapes.
use Rattle.std.proofs.Common.{take, drop, ◌≡◌, ◌∙◌, ℕ, ◌+◌, Bool, true, false, cond, [], ◌∷◌, ◌++◌, Option, Some, None, is_none, is_some, refl, sym, ap}
use Rattle.std.specs.List.{All}
use Rattle.std.specs.Option.{option_map, option_map_or, unwrap_or}
use Rattle.std.specs.Str.{bytes_eq}
use Rattle.std.proofs.lemmas.List.Elements.{All-cons, All-nil}
use Rattle.algebra.specs.Value.{word_of}
use Rattle.model.specs.declared.call.Act.{Act}
use Rattle.model.specs.declared.call.Act.TheVariants.{Free, Clear, Resize, Build, Set, Remove, Get, Nvals, Print, Reduce, Wait}
use Rattle.model.specs.declared.call.Call.{Call}
use Rattle.model.specs.declared.call.Call.TheVariants.{Create, Dup, On, Operate}
use Rattle.model.specs.declared.call.Operation.{Operation}
use Rattle.model.specs.declared.call.Operation.TheVariants.{Fill, OfOne, OfTwo}
use Rattle.model.specs.declared.call.Out.{Out}
use Rattle.model.specs.declared.shape.Signature.{Signature}
use Rattle.model.specs.declared.status.Status.{Status}
use Rattle.model.specs.declared.status.Status.TheVariants as status
use Rattle.model.specs.Builds.{are_inside, built}
use Rattle.model.specs.Fault.{accumulates, act_fails, call_fails, early_fault, fault_by_values, fault_of, operation_fault, order, takes_name, test_fails}
use Rattle.model.specs.Grammar.{Name}
use Rattle.model.specs.Object.{IsObject, Object, col_of, cols_of, empty_object, is_inside, row_of, rows_of, signature_of, with_entry, without_entry}
use Rattle.model.specs.Renamed.{found, inputs_of, renamed, renamed_operation, renamed_out}
use Rattle.model.specs.Run.{Environment, data_lines_of, effect, no_object, no_objects, object_at, on_objects, resized, seen, step, with_object, without_object}
use Rattle.model.specs.Text.{Answer}
use Rattle.model.specs.WriteBack.{result_of}
use Rattle.model.proofs.BuildLaws.{built-is_object}
use Rattle.model.proofs.ObjectLaws.{empty-is_object, removed-is_object, set-is_object}
use Rattle.model.proofs.RegionLaws.{cut_to-within, cut_to-words}
use Rattle.model.proofs.RenamedLaws.{Agrees, found_at, renamed_twice}
use Rattle.model.proofs.ResultLaws.{result-is_object}
use Rattle.model.proofs.WriteBackLaws.{not_false, passed}

-- every object has words of its domain, at positions inside its shape
abbrev pub AreObjects : {K : Type 0} → Environment K → Type 0
AreObjects {K = K} env = (name : K) (o : Object) → env.find_object name ≡ Some o → IsObject o

-- where nothing has been created, there is no object to look at
pub no_objects-are_objects : {K : Type 0} → AreObjects (no_objects {K = K})
no_objects-are_objects name o found = absurd (cc)

-- ---- what names stand for

-- what is found is an object, and so is what stands for an object that isn't there
found-is_object : (found : Option Object) → ((o : Object) → found ≡ Some o → IsObject o)
    → IsObject (unwrap_or found no_object)
found-is_object None are = empty-is_object no_object.domain no_object.shape
found-is_object (Some o) are = are o refl

-- what a name stands for is an object, also where it stands for none
pub object_at-is_object : {K : Type 0} (env : Environment K) → AreObjects env → (name : K)
    → IsObject (object_at env name)
object_at-is_object env are name = found-is_object (env.find_object name) (are name)

-- the inputs of an operation on what names stand for are objects
inputs-are_objects : {K : Type 0} (env : Environment K) (op : Operation K) → AreObjects env
    → All IsObject (inputs_of (renamed_operation (object_at env) op))
inputs-are_objects env (Fill value region) are = All-nil IsObject
inputs-are_objects env (OfOne computes a) are =
    All-cons IsObject (object_at env a) [] (object_at-is_object env are a) (All-nil IsObject)
inputs-are_objects env (OfTwo computes a b) are =
    let first = object_at env a in
    let second = object_at env b in
    All-cons IsObject first (second ∷ []) (object_at-is_object env are a)
    (All-cons IsObject second [] (object_at-is_object env are b) (All-nil IsObject))

-- ---- other environments

-- a new object, or what was found before: an object, whichever it is
chosen-is_object : (same : Bool) (new : Object) (old : Option Object) (o : Object)
    → IsObject new → (old ≡ Some o → IsObject o) → cond same (Some new) old ≡ Some o → IsObject o
chosen-is_object true new old o is olds found = let same : new ≡ o = cc in rw same at is
chosen-is_object false new old o is olds found = olds found

-- one name stands for another object, and all are objects still
pub with_object-are_objects : {K : Type 0} (same : K → K → Bool) (env : Environment K) (name : K) (new : Object)
    (count : ℕ) → AreObjects env → IsObject new → AreObjects (with_object same env name new count)
with_object-are_objects same env name new count are is other o found =
    chosen-is_object (same name other) new (env.find_object other) o is (are other o) found

-- what is found without one name was found before
left-is_object : (same : Bool) (old : Option Object) (o : Object) → (old ≡ Some o → IsObject o)
    → cond same None old ≡ Some o → IsObject o
left-is_object true old o olds found = absurd (cc)
left-is_object false old o olds found = olds found

pub without_object-are_objects : {K : Type 0} (same : K → K → Bool) (env : Environment K) (name : K) → AreObjects env
    → AreObjects (without_object same env name)
without_object-are_objects same env name are other o found =
    left-is_object (same name other) (env.find_object other) o (are other o) found

-- ---- what is known of what names stand for

-- what is known of the objects that a call names, if they are there
abbrev pub known_of : {K : Type 0} → Environment K → Call K K → Call (Option Signature) Bool
known_of env call = renamed (option_map signature_of) (λ taken. taken) (seen env call)

-- ..and of what stands for them
abbrev pub known_in : {K : Type 0} → Environment K → Call K K → Call Signature Bool
known_in env call = renamed signature_of (λ name. is_some (env.find_object name)) (on_objects env call)

known_at : {K : Type 0} (env : Environment K)
    → Agrees (λ name. option_map signature_of (env.find_object name)) (λ name. signature_of (object_at env name))
known_at env name s is = go (env.find_object name) is where
  go : (found : Option Object) → option_map signature_of found ≡ Some s → s ≡ signature_of (unwrap_or found no_object)
  go None is = absurd (cc)
  go (Some o) is = cc

-- where all objects are there, what is known of them is what is known of what stands for them
pub known-found : {K : Type 0} (env : Environment K) (call : Call K K) → is_none (found (known_of env call)) ≡ false
    → found (known_of env call) ≡ Some (known_in env call)
known-found {K = K} env call there =
    let taken : K → Bool = λ name. is_some (env.find_object name) in
    let known : K → Option Signature = λ name. option_map signature_of (env.find_object name) in
    let at : K → Signature = λ name. signature_of (object_at env name) in
    let once : known_of env call ≡ renamed known taken call = renamed_twice env.find_object (option_map signature_of) taken (λ t. t) call in
    let both : known_in env call ≡ renamed at taken call = renamed_twice (object_at env) signature_of (λ name. name) taken call in
    ap found once ∙ found_at known at taken (known_at env) call (rw once at there) ∙ ap Some (sym both)

-- ---- accepted calls

-- a call without a fault has none that is found early
pub no_early : (early late : Option Status) → option_map_or Some early late ≡ None → early ≡ None
no_early None late h = refl
no_early (Some s) late h = absurd (cc)

pub accepted-early : {K : Type 0} (env : Environment K) (call : Call K K) → fault_of env.count (seen env call) ≡ None
    → early_fault env.count (known_of env call) ≡ None
accepted-early env call accepted =
    no_early (early_fault env.count (known_of env call)) (fault_by_values (seen env call)) accepted

-- the objects of an accepted call are there
pub accepted-there : {K : Type 0} (env : Environment K) (call : Call K K) → fault_of env.count (seen env call) ≡ None
    → is_none (found (known_of env call)) ≡ false
unfolding early_fault
accepted-there env call accepted =
    passed (call_fails env.count (known_of env call)) 1 status.UninitializedObject refl (accepted-early env call accepted)

-- ..and its new name isn't taken
pub accepted-untaken : {K : Type 0} (env : Environment K) (call : Call K K) → fault_of env.count (seen env call) ≡ None
    → takes_name (known_of env call) ≡ false
unfolding early_fault
accepted-untaken env call accepted =
    passed (call_fails env.count (known_of env call)) 0 status.NameTaken refl (accepted-early env call accepted)

-- an accepted call fails no test on objects of those in the order
pub accepted-test : {K : Type 0} (env : Environment K) (call : Call K K) (n : ℕ) (s : Status)
    → order ≡ take n order ++ s ∷ drop (n + 1) order
    → (let seen = known_of env call in
    call_fails env.count seen s ≡ option_map_or (λ call. test_fails env.count call s) (found seen) false)
    → fault_of env.count (seen env call) ≡ None → test_fails env.count (known_in env call) s ≡ false
unfolding early_fault
accepted-test env call n s in_order same accepted =
    let seen = known_of env call in
    let is = known-found env call (accepted-there env call accepted) in
    let fails : option_map_or (λ call. test_fails env.count call s) (found seen) false ≡ false =
    sym same ∙ passed (call_fails env.count seen) n s in_order (accepted-early env call accepted) in
    rw is at fails

-- an accepted act fails no test of those on its object
pub accepted-act : {K : Type 0} (env : Environment K) (name : K) (act : Act) (n : ℕ) (s : Status)
    → order ≡ take n order ++ s ∷ drop (n + 1) order
    → (let seen = known_of env (On name act) in
    call_fails env.count seen s ≡ option_map_or (λ call. test_fails env.count call s) (found seen) false)
    → fault_of env.count (seen env (On name act)) ≡ None
    → act_fails (signature_of (object_at env name)) act s ≡ false
accepted-act env name act n s in_order same accepted = accepted-test env (On name act) n s in_order same accepted

-- an operation whose call is accepted passes its tests
operation-passed : (count : ℕ) (call : Call (Option Signature) Bool) (out : Out Signature) (op : Operation Signature)
    → takes_name call ≡ false → found call ≡ Some (Operate out op) → early_fault count call ≡ None
    → operation_fault out op ≡ None
unfolding early_fault operation_fault
operation-passed count call out op untaken is h = rw (untaken, is) at h

-- an accepted call of an operation passes its tests on the objects that its names stand for
pub accepted-operation : {K : Type 0} (env : Environment K) (out : Out K) (op : Operation K)
    → fault_of env.count (seen env (Operate out op)) ≡ None
    → operation_fault (renamed_out signature_of (renamed_out (object_at env) out))
    (renamed_operation signature_of (renamed_operation (object_at env) op)) ≡ None
accepted-operation env out op accepted =
    let call = Operate out op in
    operation-passed env.count (known_of env call) (renamed_out signature_of (renamed_out (object_at env) out))
    (renamed_operation signature_of (renamed_operation (object_at env) op)) refl
    (known-found env call (accepted-there env call accepted)) (accepted-early env call accepted)

-- ---- steps

-- an accepted call leaves objects
pub effect-are_objects : {K : Type 0} (same : K → K → Bool) (env : Environment K) (call : Call K K) → AreObjects env
    → fault_of env.count (seen env call) ≡ None → AreObjects (effect same env call)
unfolding effect
effect-are_objects same env (Create name domain shape) are accepted =
    with_object-are_objects same env name (empty_object domain shape) (env.count + 1) are
    (empty-is_object domain shape)
effect-are_objects same env (Dup name object) are accepted =
    with_object-are_objects same env name (object_at env object) (env.count + 1) are (object_at-is_object env are object)
effect-are_objects same env (On name Free) are accepted = without_object-are_objects same env name are
effect-are_objects same env (On name Clear) are accepted =
    let o = object_at env name in
    with_object-are_objects same env name (empty_object o.domain o.shape) env.count are
    (empty-is_object o.domain o.shape)
effect-are_objects same env (On name (Resize shape)) are accepted =
    let o = object_at env name in
    let old = object_at-is_object env are name in
    let new : IsObject (resized o shape) = record {
      within = cut_to-within (rows_of shape) (cols_of shape) o.content;
      words = cut_to-words o.domain (rows_of shape) (cols_of shape) o.content old.words;
    } in
    with_object-are_objects same env name (resized o shape) env.count are new
effect-are_objects same env (On name (Build dup tuples)) are accepted =
    let o = object_at env name in
    let act = Build dup tuples in
    let new : Object = record o { content = built dup o.domain tuples } in
    with_object-are_objects same env name new env.count are (built-is_object o dup tuples
    (not_false (option_map_or (accumulates o.domain) dup true) (accepted-act env name act 5 status.NotImplemented refl refl accepted))
    (not_false (are_inside o.shape tuples) (accepted-act env name act 9 status.IndexOutOfBounds refl refl accepted)))
effect-are_objects same env (On name (Set place value)) are accepted =
    let o = object_at env name in
    let new : Object = record o { content = with_entry o.content (row_of place) (col_of place) (word_of o.domain value) } in
    with_object-are_objects same env name new env.count are
    (set-is_object o place value (object_at-is_object env are name)
    (not_false (is_inside place o.shape) (accepted-act env name (Set place value) 8 status.InvalidIndex refl refl accepted)))
effect-are_objects same env (On name (Remove place)) are accepted =
    let o = object_at env name in
    let new : Object = record o { content = without_entry o.content (row_of place) (col_of place) } in
    with_object-are_objects same env name new env.count are
    (removed-is_object o place (object_at-is_object env are name))
effect-are_objects same env (On name (Get place)) are accepted = are
effect-are_objects same env (On name Nvals) are accepted = are
effect-are_objects same env (On name (Wait mode)) are accepted = are
effect-are_objects same env (On name Print) are accepted = are
effect-are_objects same env (On name (Reduce monoid)) are accepted = are
effect-are_objects same env (Operate out op) are accepted =
    let out' = renamed_out (object_at env) out in
    let op' = renamed_operation (object_at env) op in
    let new : Object = record out'.c { content = result_of out' op' } in
    with_object-are_objects same env out.c new env.count are
    (result-is_object out' op' (accepted-operation env out op accepted) (object_at-is_object env are out.c)
    (inputs-are_objects env op are))

-- what is left is what was there where there is a fault, and what the call leaves where there is none
left-are_objects : (fault : Option Status) (refused : Status → Answer) (done : Answer) (old new : Environment Name)
    → AreObjects old → (fault ≡ None → AreObjects new)
    → AreObjects (option_map_or {U = Answer × Environment Name} (λ s. (refused s, old)) fault (done, new)).1
left-are_objects None refused done old new olds news = news refl
left-are_objects (Some s) refused done old new olds news = olds

-- every step keeps that all are objects
pub step-are_objects : (number : ℕ) (env : Environment Name) (call : Call Name Name) → AreObjects env
    → AreObjects (step number env call).1
unfolding step
step-are_objects number env call are =
    left-are_objects (fault_of env.count (seen env call))
    (λ fault. record { number = number; status = fault; data_lines = [] })
    (record { number = number; status = status.Ok; data_lines = data_lines_of (on_objects env call) })
    env (effect bytes_eq env call) are (effect-are_objects bytes_eq env call are)
