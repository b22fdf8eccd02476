-- Tickets that take the roles of an operation take those of its recipe, and what this makes of them is what it leaves.
use Rattle.std.proofs.Common.{◌∙◌, sym}
use Rattle.std.proofs.lemmas.Result.{IfOk-weaker}
use Rattle.calls.specs.Stores.{object_with}
use Rattle.runner.specs.Tickets.{maps_by}
use Rattle.runner.proofs.submitting.submit_accepted.Goals as goal

pub submit-requires : goal.submit-requires
submit-requires g c = record { fits = λ role. c.requires.inputs role ∙ sym (c.straight.ensures.known role) }

pub returns-then-is_straight-clause-object : goal.returns-then-is_straight-clause-object
returns-then-is_straight-clause-object g c =
    IfOk-weaker c.submit.result _ _ (λ t is. is ∙ (λ x. object_with (c.straight.ensures.makes x) (c.straight.ensures.meaning (maps_by g.R.Runner.object_of c.args.inputs) x))) c.submit.ensures.object
