use Rattle.std.proofs.Common.{◌∙◌, Option, Some, sym, ap}
use Rattle.std.specs.Box.{with_value}
use Rattle.std.proofs.lemmas.Result.{on_err_weaker}
use Rattle.board.specs.declared.cut.Cut.{Cut}
use Rattle.board.specs.declared.cut.Cut.TheVariants as cut
use Rattle.board.specs.declared.cut.CutTask.{CutTask}
use Rattle.board.proofs.cuts.next_in.Goals as goal

pub returns-clause-refused : goal.returns-clause-refused
returns-clause-refused c =
    let put : CutTask → Option Cut = λ task. Some (cut.Underway (with_value c.in-Some-Underway.task task)) in
    let was = c.in-Some-Underway.is ∙ ap Some c.in-Some-Underway.field-0-is in
    on_err_weaker c.next.result (λ same. ap put (same ∙ c.deref_mut.ensures.value) ∙ sym was) c.next.ensures.refused
