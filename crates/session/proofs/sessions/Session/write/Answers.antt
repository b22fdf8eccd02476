-- What is left in the output is the result of each operation that was accepted so.
use Rattle.std.proofs.Common.{◌∙◌, [], ap, is_some, subst, sym}
use Rattle.calls.specs.declared.obj.Obj.{Obj}
use Rattle.calls.specs.declared.recipe.Accepted.{Accepted}
use Rattle.calls.specs.declared.role.Roles.{Roles}
use Rattle.calls.specs.Recipes.{IsAcceptedOf, meaning}
use Rattle.calls.specs.Roles.{role_of}
use Rattle.calls.specs.Stores.{object_with}
use Rattle.model.specs.declared.call.Call.TheVariants.{Operate}
use Rattle.model.specs.Marks.{State, put_off}
use Rattle.model.specs.Object.{Object, signature_of}
use Rattle.model.specs.Run.{Environment, with_object}
use Rattle.objects.specs.Tables.{same_object, with_kept}
use Rattle.objects.specs.Values.{map_with, mark_with}
use Rattle.session.specs.Deferred.{any_told, maps_at}
use Rattle.session.specs.Performed.{environment_of, known_in, state_of}
use Rattle.session.proofs.EpochLaws.{early-settled, performed-settled, refused-settled, settles-on}
use Rattle.session.proofs.PerformedLaws.{early-operate, performed-operate}
use Rattle.session.proofs.ResultLaws.{left-computed}
use Rattle.session.proofs.StateLaws.{later-put}
use Rattle.std.proofs.Common.{refl}
use Rattle.std.specs.Option.{option_map}
use Rattle.session.proofs.sessions.Session.write.Goals as goal

-- what the call does, of all whose operation was accepted
pub returns-in_err-begin : goal.returns-in_err-begin
returns-in_err-begin g c out operation is roles early found =
    refused-settled c.args.self.now c.begin.new.self c.begin.ensures.settles c.begin.ensures.made (Operate out operation) c.from_residual.result c.from_residual.ensures.1

pub computed-requires : goal.computed-requires
computed-requires g c = record {
  known = λ role. c.requires.known role
      ∙ sym (ap (λ (env : Environment Obj). option_map (λ o. option_map signature_of (env.find_object o)) (role_of c.args.objects.now role)) c.begin.ensures.settles.environment);
}

pub returns-in_err-value : goal.returns-in_err-value
returns-in_err-value g c out operation is roles early found =
    refused-settled c.args.self.now c.computed.new.self (settles-on _ _ _ c.begin.ensures.settles c.computed.ensures.state) (c.computed.ensures.made ∙ c.begin.ensures.made)
    (Operate out operation) c.from_residual-in_err-value.result c.from_residual-in_err-value.ensures.1

pub put-requires-clause-there : goal.put-requires-clause-there
put-requires-clause-there g c =
    ap (λ (s : State Obj). is_some (s.environment.find_object c.args.c)) c.computed.ensures.state
    ∙ ap (λ (env : Environment Obj). is_some (env.find_object c.args.c)) c.begin.ensures.settles.environment
    ∙ c.requires.there

pub returns : goal.returns
returns g c out operation is roles early found =
    let session = c.args.self.now in
    let mid = c.begin.new.self in
    let settles = c.begin.ensures.settles in
    let s = state_of mid in
    let env = environment_of mid in
    let accepted = c.args.accepted.value in
    let found_mid : IsAcceptedOf (known_in mid) out operation accepted =
    subst (λ (env : Environment Obj). IsAcceptedOf (λ o. option_map signature_of (env.find_object o)) out operation accepted)
    (sym settles.environment) found in
    let of = accepted.out.c in
    let left : Roles Obj → Object = λ objects. object_with of (meaning accepted.out accepted.operation (maps_at env objects)) in
    let objects = c.args.objects.now in
    let value = c.in_ok-value.value in
    let result = ap left roles ∙ left-computed env out operation accepted found_mid in
    performed-settled session mid settles c.begin.ensures.made c.put.new.self (Operate out operation) _ refl early refl
    (performed-operate mid c.put.new.self out operation _
    (sym (early-operate mid mid out operation) ∙ early-settled session mid settles c.begin.ensures.made (Operate out operation) ∙ early)
    (c.put.ensures.state
    ∙ ap (λ (a : Accepted). with_kept (state_of c.computed.new.self) c.args.c (object_with a.out.c (map_with g.R.Runner.object_of [] value)) (mark_with [] value)) c.deref.ensures
    ∙ ap (λ (s : State Obj). with_kept s c.args.c (object_with of (map_with g.R.Runner.object_of [] value)) (mark_with [] value)) c.computed.ensures.state
    ∙ later-put g.R.Runner.object_of s c.args.c (left objects) env.count (any_told s objects) value of c.in_ok-value.ensures.value refl
    ∙ ap (λ (o : Obj). put_off same_object s (with_object same_object env o (left objects) env.count) o (any_told s objects)) (sym is)
    ∙ (λ t. put_off same_object s (with_object same_object env out.c (result t) env.count) out.c (any_told s (roles t))))
    (c.put.ensures.made ∙ c.computed.ensures.made))
