use Rattle.std.proofs.Common.{ap, ◌∙◌}
use Rattle.board.specs.Stores.{stored_for}
use Rattle.board.specs.declared.cut.CutTask.{CutTask}
use Rattle.board.proofs.cut.CutTask.with_first.Goals as goal

pub returns-in-Ok-clause-inputs : goal.returns-in-Ok-clause-inputs
returns-in-Ok-clause-inputs c =
    λ role. ap (λ (task : CutTask). stored_for task.inputs role) c.in-Ok.ensures.ok ∙ c.requires.shares role
