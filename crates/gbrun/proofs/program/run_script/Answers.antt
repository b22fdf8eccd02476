-- What the run appended is delivered.
use Rattle.std.proofs.Common.{rules}
use Rattle.gbrun.proofs.Endings.{finished_ends, unread_files_end}
use Rattle.gbrun.proofs.program.run_script.Goals as goal

pub returns-in_err-loaded-clause-ends : goal.returns-in_err-loaded-clause-ends
returns-in_err-loaded-clause-ends g c = unread_files_end _ _ _ _ _ c.from_residual-in_err-loaded.result c.requires (search rules)

pub returns-clause-ends : goal.returns-clause-ends
returns-clause-ends g c =
    let run = rw c.as_slice-2.ensures.value at c.in_ok-ended.ensures.made in
    finished_ends _ _ _ c.in_ok-script.script.items c.answers.result.now _ c.in_ok-ended.ended _ _ _ c.finish.result
    c.in_ok-script.ensures.known c.in_ok-loaded.ensures.files (rw c.as_slice.ensures.value at c.in_ok-loaded.ensures.readable)
    run c.answers.ensures c.finish.ensures

pub returns-in_err-ended-clause-ends : goal.returns-in_err-ended-clause-ends
returns-in_err-ended-clause-ends g c =
    unread_files_end _ _ _ _ _ c.from_residual-in_err-ended.result c.in_err-ended.ensures.none (search rules)
