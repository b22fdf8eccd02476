use Rattle.std.proofs.Common.{◌∙◌, sym, ap}
use Rattle.std.specs.Box.{with_value}
use Rattle.board.specs.declared.cut.Cut.TheVariants as cut
use Rattle.board.specs.declared.cut.CutTask.{CutTask}
use Rattle.board.proofs.cut.Cut.give.Goals as goal

pub returns-in-Err-clause-refused : goal.returns-in-Err-clause-refused
returns-in-Err-clause-refused c =
    ap (λ (task : CutTask). cut.Underway (with_value c.in-Underway.task task))
    (c.in-Err.ensures.refused ∙ c.deref_mut.ensures.value)
    ∙ sym c.in-Underway.is
