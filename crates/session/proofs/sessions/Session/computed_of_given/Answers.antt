-- The objects are there of which something is known, and the tickets that stand for them take the roles.
use Rattle.std.proofs.Common.{◌∙◌, ap}
use Rattle.std.specs.Option.{option_map}
use Rattle.calls.specs.declared.obj.Obj.{Obj}
use Rattle.calls.specs.declared.role.Role.{Role}
use Rattle.calls.specs.Recipes.{known_by_role, meaning}
use Rattle.calls.specs.Roles.{role_of}
use Rattle.calls.specs.Stores.{object_with}
use Rattle.model.specs.Marks.{State}
use Rattle.model.specs.Object.{Content}
use Rattle.model.specs.Run.{object_at}
use Rattle.session.specs.Deferred.{any_told, maps_at}
use Rattle.session.specs.Performed.{environment_of, state_of}
use Rattle.session.proofs.ResultLaws.{inputs-lent, maps-lent, there-known, told-given, untold-given}
use Rattle.session.proofs.StateLaws.{failed-later, open-later}
use Rattle.session.proofs.sessions.Session.computed_of_given.Goals as goal

pub give_all-requires : goal.give_all-requires
give_all-requires g c = record {
  there = λ role. there-known (environment_of c.args.self.now) (known_by_role c.args.accepted.value.out c.args.accepted.value.operation role) (role_of c.args.objects.now role) (c.requires.known role);
}

pub returns-then-not-branch-clause-value : goal.returns-then-not-branch-clause-value
returns-then-not-branch-clause-value g c =
    let of = c.args.accepted.value.out.c in
    failed-later g.R.Runner.object_of
    (object_with of (meaning c.args.accepted.value.out c.args.accepted.value.operation (maps_at (environment_of c.args.self.now) c.args.objects.now)))
    (any_told (state_of c.args.self.now) c.args.objects.now)
    (told-given (any_told (state_of c.args.self.now) c.args.objects.now) c.in_ok-give_all.field-0 c.if-not-branch.true c.in_ok-give_all.ensures.given)

pub submit_accepted-requires : goal.submit_accepted-requires
submit_accepted-requires g c = record {
  inputs = inputs-lent (environment_of c.args.self.now) g.R.Runner.object_of (known_by_role c.args.accepted.value.out c.args.accepted.value.operation) c.args.objects.now c.in-Some.tickets
      c.requires.known
      (λ role. c.in-Some.ensures.tickets role ∙ ap (λ (s : State Obj). option_map (object_at s.environment) (role_of c.args.objects.now role)) c.give_all.ensures.state);
}

pub returns-clause-value : goal.returns-clause-value
returns-clause-value g c =
    let of = c.args.accepted.value.out.c in
    let maps = maps-lent (environment_of c.args.self.now) g.R.Runner.object_of c.args.objects.now c.in-Some.tickets
    (λ role. c.in-Some.ensures.tickets role ∙ ap (λ (s : State Obj). option_map (object_at s.environment) (role_of c.args.objects.now role)) c.give_all.ensures.state) in
    open-later g.R.Runner.object_of
    (object_with of (meaning c.args.accepted.value.out c.args.accepted.value.operation (maps_at (environment_of c.args.self.now) c.args.objects.now)))
    c.in_ok-computed.computed (any_told (state_of c.args.self.now) c.args.objects.now)
    (untold-given (any_told (state_of c.args.self.now) c.args.objects.now) c.in_ok-give_all.field-0 c.if-not-branch.false c.in_ok-give_all.ensures.given)
    (c.in_ok-computed.ensures.object ∙ ap (λ (maps : Role → Content). object_with of (meaning c.args.accepted.value.out c.args.accepted.value.operation maps)) maps)
    c.in_ok-computed.ensures.is_object
