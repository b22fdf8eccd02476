-- The store is that of the object, whose value is there.
use Rattle.std.proofs.Common.{◌≡◌, ap, refl}
use Rattle.calls.specs.declared.obj.Obj.{Obj}
use Rattle.model.specs.Run.{Environment, object_at}
use Rattle.session.specs.Performed.{environment_of}
use Rattle.session.proofs.PerformedLaws.{printed-again}
use Rattle.session.proofs.ResultLaws.{store-found}
use Rattle.session.proofs.sessions.Session.store.Goals as goal

pub returns : goal.returns
returns g c =
    let session = c.args.self.now in
    let object = c.args.object in
    let kept : object_at (environment_of c.complete.new.self) object ≡ object_at (environment_of session) object =
    ap (λ (env : Environment Obj). object_at env object) c.in_ok-complete.ensures.kept in (
      (refl, (λ last. tt), printed-again session c.complete.new.self object _ _ c.in_ok-complete.ensures.performed),
      record { performed = tt; decided = c.in_ok-complete.ensures.decided; store = store-found (environment_of session) object (object_at (environment_of c.complete.new.self) object) c.store.result.now kept c.store.ensures.object c.store.ensures.store },
    )
