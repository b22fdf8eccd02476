-- The tickets that stand for the objects take the roles of what is submitted.
use Rattle.std.proofs.Common.{◌∙◌, ap, refl}
use Rattle.calls.specs.declared.role.Role.{Role}
use Rattle.calls.specs.Recipes.{known_by_role, meaning}
use Rattle.calls.specs.Stores.{object_with}
use Rattle.model.specs.Object.{Content}
use Rattle.session.specs.Deferred.{any_told, maps_at}
use Rattle.session.specs.Performed.{environment_of, state_of}
use Rattle.session.proofs.ResultLaws.{inputs-lent, maps-lent}
use Rattle.session.proofs.StateLaws.{open-later}
use Rattle.session.proofs.sessions.Session.computed.Goals as goal

pub submit_accepted-requires : goal.submit_accepted-requires
submit_accepted-requires g c = record {
  inputs = inputs-lent (environment_of c.args.self.now) g.R.Runner.object_of (known_by_role c.args.accepted.value.out c.args.accepted.value.operation) c.args.objects.now c.in-Some.tickets
      c.requires.known c.in-Some.ensures.tickets;
}

pub returns-clause-value : goal.returns-clause-value
returns-clause-value g c =
    let of = c.args.accepted.value.out.c in
    let maps = maps-lent (environment_of c.args.self.now) g.R.Runner.object_of c.args.objects.now c.in-Some.tickets c.in-Some.ensures.tickets in
    open-later g.R.Runner.object_of
    (object_with of (meaning c.args.accepted.value.out c.args.accepted.value.operation (maps_at (environment_of c.args.self.now) c.args.objects.now)))
    c.in_ok-computed.computed (any_told (state_of c.args.self.now) c.args.objects.now)
    (c.in-Some.ensures.untold refl)
    (c.in_ok-computed.ensures.object
    ∙ ap (λ (maps : Role → Content). object_with of (meaning c.args.accepted.value.out c.args.accepted.value.operation maps)) maps)
    c.in_ok-computed.ensures.is_object
