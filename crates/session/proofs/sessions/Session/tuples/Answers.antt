-- The entries are those of the object, whose value is there.
use Rattle.std.proofs.Common.{◌∙◌, ap, map}
use Rattle.calls.specs.declared.obj.Obj.{Obj}
use Rattle.model.specs.declared.shape.Signature.{Signature}
use Rattle.model.specs.Run.{Environment, object_at}
use Rattle.session.specs.Listed.{tuple_of, tuples_of}
use Rattle.session.specs.Performed.{environment_of}
use Rattle.session.proofs.ResultLaws.{stored-entries}
use Rattle.session.proofs.sessions.Session.tuples.Goals as goal

pub returns-clause-tuples : goal.returns-clause-tuples
returns-clause-tuples g c =
    let now = object_at (environment_of c.complete.new.self) c.args.object in
    let lent = c.get.ensures ∙ c.in_ok-lists.ensures in
    (rw lent at c.in_ok-tuples.ensures)
    ∙ (λ t. let of : Signature = c.known-domain.ensures t in map (tuple_of of.domain) (stored-entries now c.store.result.now c.store.ensures.object c.store.ensures.store t))
    ∙ ap (λ (env : Environment Obj). tuples_of (object_at env c.args.object)) c.in_ok-complete.ensures.kept
