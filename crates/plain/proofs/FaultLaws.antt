-- What accepted calls have: operators that are there.
use Rattle.std.proofs.Common.{ℕ, ◌≡◌, ◌∙◌, refl, sym, Bool, true, false, ◌&&◌, Option, Some, None, is_none}
use Rattle.std.specs.Prelude.{nat_le}
use Rattle.std.specs.Option.{option_map, option_map_or, unwrap_or}
use Rattle.std.proofs.lemmas.Bool.{and_parts}
use Rattle.algebra.specs.declared.domain.Domain.{Domain}
use Rattle.algebra.specs.declared.operator_names.OpName.{OpName}
use Rattle.algebra.specs.Operators.{answer_domain, combines_by, offers}
use Rattle.algebra.specs.Value.{same_domain}
use Rattle.model.specs.declared.call.Call.{Call}
use Rattle.model.specs.declared.call.Act.{Act}
use Rattle.model.specs.declared.call.Act.TheVariants.{Build, Reduce}
use Rattle.model.specs.declared.call.Call.TheVariants.{Create, Dup, On, Operate}
use Rattle.model.specs.declared.call.Operation.{Operation}
use Rattle.model.specs.declared.call.Operation.TheVariants.{Fill}
use Rattle.model.specs.declared.call.Out.{Out}
use Rattle.model.specs.declared.limits.TheConstants.{MOST_FILLED, MOST_OBJECTS}
use Rattle.model.specs.declared.shape.Shape.{Shape}
use Rattle.model.specs.declared.shape.Signature.{Signature}
use Rattle.model.specs.declared.status.Status.{Status}
use Rattle.model.specs.declared.status.Status.TheVariants as status
use Rattle.model.specs.Fault.{accumulates, call_fails, early_fault, fault_by_values, fault_of, is_implemented, late_fault, test_fails}
use Rattle.model.specs.Grammar.{Name}
use Rattle.model.specs.Object.{Object, signature_of}
use Rattle.model.specs.Renamed.{found, renamed_operation, renamed_out}
use Rattle.model.specs.Run.{Environment, no_object, object_at, seen}
use Rattle.model.specs.Table.{filled_by, is_offered}
use Rattle.model.proofs.StepLaws.{accepted-act, accepted-test, known-found, known_in, known_of}
use Rattle.model.proofs.WriteBackLaws.{not_false, passed}
use Rattle.plain.specs.Acts.{are_act_operators}
use Rattle.plain.specs.Environments.{are_operators}
use Rattle.plain.specs.Evaluated.{accumulator_offered}

accumulator_is : (domain : Domain) (accum : Option OpName) → option_map_or (accumulates domain) accum true ≡ true
    → accumulator_offered accum ≡ true
accumulator_is domain None h = refl
accumulator_is domain (Some op) h =
    (and_parts (offers op.kind op.domain) (same_domain op.domain domain) (and_parts (offers op.kind op.domain && same_domain op.domain domain) (same_domain (answer_domain op.kind op.domain) domain) h).0).0

-- the operators of an accepted act are there
pub accepted-act_operators : (env : Environment Name) (name : Name) (act : Act)
    → fault_of env.count (seen env (On name act)) ≡ None → are_act_operators act ≡ true
accepted-act_operators env name (Build dup tuples) accepted =
    let domain = (object_at env name).domain in
    accumulator_is domain dup (not_false (option_map_or (accumulates domain) dup true) (accepted-act env name (Build dup tuples) 5 status.NotImplemented refl refl accepted))
accepted-act_operators env name (Reduce monoid) accepted =
    not_false (offers (combines_by monoid.kind) monoid.domain) (accepted-act env name (Reduce monoid) 5 status.NotImplemented refl refl accepted)
accepted-act_operators env name _ accepted = refl

offered_as : {K L : Type 0} (f : K → L) (operation : Operation K)
    → is_offered (renamed_operation f operation) ≡ is_offered operation
offered_as f (Fill value region) = refl
offered_as f _ = refl

pub accepted-operators : {K : Type 0} (name_of : K → Name) (env : Environment Name) (out : Out K)
    (operation : Operation K)
    → fault_of env.count (seen env (Operate (renamed_out name_of out) (renamed_operation name_of operation))) ≡ None
    → are_operators out operation ≡ true
accepted-operators name_of env out operation accepted =
    let names = renamed_operation name_of operation in
    let known_out = renamed_out signature_of (renamed_out (object_at env) (renamed_out name_of out)) in
    let known = renamed_operation signature_of (renamed_operation (object_at env) names) in
    let few = nat_le (filled_by known_out.c.shape known) MOST_FILLED in
    let implemented = not_false (is_implemented known_out known) (accepted-test env (Operate (renamed_out name_of out) names) 5 status.NotImplemented refl refl accepted) in
    let all = and_parts (is_offered known && few) (option_map_or (accumulates known_out.c.domain) out.accum true) implemented in
    let same = offered_as signature_of (renamed_operation (object_at env) names) ∙ offered_as (object_at env) names ∙ offered_as name_of operation in
    rw (sym same ∙ (and_parts (is_offered known) few all.0).0, accumulator_is known_out.c.domain out.accum all.1) refl

-- an accepted call that makes an object finds room for it
pub accepted-create : (env : Environment Name) (name : Name) (domain : Domain) (shape : Shape) (call : Call Name Name)
    → call ≡ Create name domain shape
    → fault_of env.count (seen env call) ≡ None → nat_le MOST_OBJECTS env.count ≡ false
accepted-create env name domain shape call is accepted = accepted-test env (Create name domain shape) 5 status.NotImplemented refl refl (rw is at accepted)

pub accepted-dup : (env : Environment Name) (name object : Name) (call : Call Name Name) → call ≡ Dup name object
    → fault_of env.count (seen env call) ≡ None → nat_le MOST_OBJECTS env.count ≡ false
accepted-dup env name object call is accepted = accepted-test env (Dup name object) 5 status.NotImplemented refl refl (rw is at accepted)

-- where all objects are there, a test but those of names is one on what is known of them
test-there : (count : ℕ) (call : Call (Option Signature) Bool) (known : Call Signature Bool) (s : Status)
    → (s ≡ status.NameTaken → ⊥) → (s ≡ status.UninitializedObject → ⊥) → found call ≡ Some known
    → test_fails count known s ≡ call_fails count call s
test-there count call known status.NameTaken taken missing is = absurd (taken refl)
test-there count call known status.UninitializedObject taken missing is = absurd (missing refl)
test-there count call known _ taken missing is = rw is refl

pub fails-there : (env : Environment Name) (call : Call Name Name) (s : Status) → (s ≡ status.NameTaken → ⊥)
    → (s ≡ status.UninitializedObject → ⊥) → is_none (found (known_of env call)) ≡ false
    → test_fails env.count (known_in env call) s ≡ call_fails env.count (known_of env call) s
fails-there env call s taken missing there =
    test-there env.count (known_of env call) (known_in env call) s taken missing (known-found env call there)

-- ..and where one isn't, no test on them is made
test-missing : (count : ℕ) (call : Call (Option Signature) Bool) (s : Status) → (s ≡ status.NameTaken → ⊥)
    → (s ≡ status.UninitializedObject → ⊥) → found call ≡ None → false ≡ call_fails count call s
test-missing count call status.NameTaken taken missing is = absurd (taken refl)
test-missing count call status.UninitializedObject taken missing is = absurd (missing refl)
test-missing count call _ taken missing is = rw is refl

nothing : {X : Type 0} (o : Option X) → is_none o ≡ true → o ≡ None
nothing None h = refl
nothing (Some x) h = absurd (cc)

pub fails-missing : (env : Environment Name) (call : Call Name Name) (s : Status) → (s ≡ status.NameTaken → ⊥)
    → (s ≡ status.UninitializedObject → ⊥) → is_none (found (known_of env call)) ≡ true
    → false ≡ call_fails env.count (known_of env call) s
fails-missing env call s taken missing none =
    test-missing env.count (known_of env call) s taken missing (nothing (found (known_of env call)) none)

-- a fault that depends on values is one of the object that is there
pub late-found : (env : Environment Name) (name : Name) (act : Act)
    → early_fault env.count (known_of env (On name act)) ≡ None
    → late_fault (object_at env name) act ≡ fault_by_values (seen env (On name act))
unfolding early_fault
late-found env name act accepted =
    go (env.find_object name) (passed (call_fails env.count (known_of env (On name act))) 1 status.UninitializedObject refl accepted) where
      go : (o : Option Object) → is_none (found {N = Bool} (On (option_map signature_of o) act)) ≡ false
          → late_fault (unwrap_or o no_object) act ≡ fault_by_values {N = Bool} (On o act)
      go None there = absurd (cc)
      go (Some o) there = refl
