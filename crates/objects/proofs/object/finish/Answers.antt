-- Memory is refused where a store is made, or where edits wait.
use Rattle.objects.proofs.EditingLaws.{unmade-unfinished, waiting-unfinished}
use Rattle.objects.proofs.TableLaws.{on_err}
use Rattle.objects.proofs.object.finish.Goals as goal

pub returns-in_err-make-clause-unfinished : goal.returns-in_err-make-clause-unfinished
returns-in_err-make-clause-unfinished g c =
    on_err _ c.from_residual.result (unmade-unfinished c.args.object.now.edits.items c.args.object.now.value c.in_err-make.ensures.unmade)

pub returns-in_err-do_edits-clause-unfinished : goal.returns-in_err-do_edits-clause-unfinished
returns-in_err-do_edits-clause-unfinished g c =
    on_err _ c.from_residual-in_err-do_edits.result (waiting-unfinished c.args.object.now.edits.items c.args.object.now.value c.in_err-do_edits.ensures.waited)
