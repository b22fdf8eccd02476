-- The slot that is picked runs, or fails.
use Rattle.board.specs.Boards.{cuts_of, view_of}
use Rattle.desk.proofs.CutLaws.{fewer_refused, open_run, runs_taken}
use Rattle.desk.proofs.cutting.take_cut.Goals as goal

pub returns-in-Ok-clause-running : goal.returns-in-Ok-clause-running
returns-in-Ok-clause-running g c =
    runs_taken (view_of c.loop-taken.board) (view_of c.take.new.self) (cuts_of c.loop-taken.board)
    (cuts_of c.take.new.self) (open_run c.loop-taken.board) c.pick-pick.result _ c.in-Ok.taken c.in-Ok.ensures.none.1
    c.in-Ok.ensures.picked c.in-Ok.ensures.taken

pub loop-taken-smaller : goal.loop-taken-smaller
loop-taken-smaller g c =
    fewer_refused (view_of c.loop-taken.board) (cuts_of c.loop-taken.board) (open_run c.loop-taken.board) c.pick-pick.result
    c.in-Err.number c.in-Err.ensures.offered c.in-Err.ensures.number (view_of c.take.new.self) (view_of c.fail.new.self)
    c.fail.result c.in-Err.ensures.refused c.fail.ensures.answer c.fail.ensures.failed
