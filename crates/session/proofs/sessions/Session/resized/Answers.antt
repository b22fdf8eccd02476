-- A ticket stands for the object, and the recipe's for it in the other shape.
use Rattle.std.proofs.Common.{◌≡◌, ◌∙◌, Some, ap, sym}
use Rattle.calls.specs.declared.recipe.Resize.{Resize}
use Rattle.calls.specs.declared.recipe.Recipe.TheVariants.{Resized}
use Rattle.calls.specs.Roles.{no_roles}
use Rattle.calls.specs.Stores.{object_with}
use Rattle.model.specs.Object.{cols_of, rows_of, signature_of}
use Rattle.model.specs.Regions.{cut_to}
use Rattle.model.specs.Run.{object_at, resized}
use Rattle.session.specs.Performed.{environment_of}
use Rattle.session.proofs.ResultLaws.{fits-old, resized-by, untold-given}
use Rattle.session.proofs.StateLaws.{open-later}
use Rattle.session.proofs.sessions.Session.resized.Goals as goal

pub submit-requires : goal.submit-requires
submit-requires g c =
    let own : g.R.Runner.object_of c.ticket.result.now ≡ object_at (environment_of c.args.self.now) c.args.object =
    c.ticket.ensures.object ∙ ap (λ s. object_at s.environment c.args.object) c.give.ensures.state in
    rw c.of_old-inputs.ensures (record { fits = fits-old g.R.Runner.object_of c.ticket.result c.args.of (Resized c.in_ok-resize.resize) (ap (λ (r : Resize). record no_roles { old = Some r.of }) c.in_ok-resize.ensures.ok) (ap signature_of own ∙ sym c.requires.known) })

pub returns-clause-value : goal.returns-clause-value
returns-clause-value g c =
    let own : g.R.Runner.object_of c.ticket.result.now ≡ object_at (environment_of c.args.self.now) c.args.object =
    c.ticket.ensures.object ∙ ap (λ s. object_at s.environment c.args.object) c.give.ensures.state in
    let untold = untold-given _ c.in_ok-give.field-0 c.if-not-branch.false c.in_ok-give.ensures.given in
    let made = rw c.of_old-inputs.ensures at c.in_ok-resized.ensures.object in
    open-later g.R.Runner.object_of (resized (object_at (environment_of c.args.self.now) c.args.object) c.args.shape) c.in_ok-resized.resized _ untold
    (made ∙ ap (λ (r : Resize). object_with (record r.of { shape = r.shape }) (cut_to (rows_of r.shape) (cols_of r.shape) (g.R.Runner.object_of c.ticket.result.now).content)) c.in_ok-resize.ensures.ok
    ∙ resized-by g.R.Runner.object_of c.ticket.result (object_at (environment_of c.args.self.now) c.args.object) c.args.of c.args.shape own c.requires.known) c.in_ok-resized.ensures.is_object
