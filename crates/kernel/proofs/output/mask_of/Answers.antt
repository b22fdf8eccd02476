-- The mask has the output's shape.
use Rattle.std.proofs.Common.{◌∙◌}
use Rattle.kernel.proofs.Accepted.{task-mask}
use Rattle.kernel.proofs.output.mask_of.Goals as goal

pub returns-in-Some-clause-shape : goal.returns-in-Some-clause-shape
returns-in-Some-clause-shape c =
    let mask = c.in-Some.mask in
    let same = task-mask c.args.task.now mask c.in-Some.is in
    (mask.rows ∙ same.0, mask.cols ∙ same.1)
