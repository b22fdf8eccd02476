-- The table says it of the inputs as the descriptor has them; no position is filled with one value.
use Rattle.std.proofs.Common.{◌∙◌, refl, sym}
use Rattle.std.proofs.Math.Bool.{and-true}
use Rattle.model.specs.declared.call.Operation.TheVariants.{OfTwo}
use Rattle.model.specs.Table.{offers_two}
use Rattle.calls.proofs.operation.check_joined.Goals as goal

pub returns : goal.returns
returns c = c.check_plan.ensures (OfTwo c.args.computes c.args.a c.args.b)
    (c.plan.ensures ∙ rw (c.transposed_if-a.ensures, c.transposed_if-b.ensures) refl)
    (c.is_offered.ensures ∙ sym (and-true (offers_two c.args.computes)))
