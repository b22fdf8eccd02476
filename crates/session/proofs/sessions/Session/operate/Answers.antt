-- What is known of the objects was found by the checks.
use Rattle.std.proofs.Common.{◌∙◌, ap, refl, sym}
use Rattle.std.specs.Option.{option_map}
use Rattle.calls.specs.declared.role.Roles.{Roles}
use Rattle.calls.specs.declared.obj.Obj.{Obj}
use Rattle.calls.specs.Roles.{role_of}
use Rattle.calls.proofs.RoleLaws.{roles-known}
use Rattle.session.specs.Performed.{environment_of, known_in}
use Rattle.session.proofs.PerformedLaws.{early-operate}
use Rattle.session.proofs.ResultLaws.{output-there}
use Rattle.session.proofs.sessions.Session.operate.Goals as goal

pub write-requires-clause-known : goal.write-requires-clause-known
write-requires-clause-known g c = λ role.
    let known = known_in c.args.self.now in
    rw c.in_ok-accepted-2.ensures.ok (
    roles-known known c.args.out.now c.args.operation c.in_ok-accepted.accepted c.in_ok-accepted.ensures.found role
    ∙ ap (λ (objects : Roles Obj). option_map known (role_of objects role)) (sym c.by_role-objects.ensures)
    )

pub write-requires-clause-there : goal.write-requires-clause-there
write-requires-clause-there g c =
    output-there (environment_of c.args.self.now) c.args.out.now c.args.operation c.in_ok-accepted.accepted c.in_ok-accepted.ensures.found

pub returns : goal.returns
returns g c =
    let session = c.args.self.now in
    c.write.ensures c.args.out.now c.args.operation refl c.by_role-objects.ensures
    (early-operate session session c.args.out.now c.args.operation ∙ c.in_ok-accepted.ensures.fault)
    (rw c.in_ok-accepted-2.ensures.ok c.in_ok-accepted.ensures.found)
