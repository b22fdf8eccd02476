-- Another ticket stands for the object.
use Rattle.std.proofs.Common.{◌≡◌, ◌∙◌, ap, subst, sym}
use Rattle.model.specs.Object.{IsObject}
use Rattle.model.specs.Run.{object_at}
use Rattle.session.specs.Performed.{environment_of}
use Rattle.session.proofs.ResultLaws.{untold-given}
use Rattle.session.proofs.StateLaws.{open-later}
use Rattle.session.proofs.sessions.Session.copied.Goals as goal

pub returns-clause-value : goal.returns-clause-value
returns-clause-value g c =
    let own : g.R.Runner.object_of c.ticket.result.now ≡ object_at (environment_of c.args.self.now) c.args.object =
    c.ticket.ensures.object ∙ ap (λ s. object_at s.environment c.args.object) c.give.ensures.state in
    let untold = untold-given _ c.in_ok-give.field-0 c.if-not-branch.false c.in_ok-give.ensures.given in
    open-later g.R.Runner.object_of (object_at (environment_of c.args.self.now) c.args.object) c.in_ok-copy.copy _ untold
    (c.in_ok-copy.ensures.object ∙ own) (subst IsObject (sym c.in_ok-copy.ensures.object) c.ticket.ensures.is_object)
