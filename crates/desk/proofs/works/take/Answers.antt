-- The slot that is picked runs, or fails.
use Rattle.std.proofs.Common.{◌∙◌, arith, le_trans, subst, sym}
use Rattle.board.specs.Boards.{cuts_of, view_of}
use Rattle.board.specs.Events.{failed}
use Rattle.stages.specs.Views.{View}
use Rattle.desk.specs.Ends.{IsIdle}
use Rattle.desk.proofs.CutLaws.{all_uncut, all_whole, fewer_refused, more_taken, none_offered, open_run, runs_taken, uncut_failed}
use Rattle.desk.proofs.EndLaws.{same_failed}
use Rattle.desk.proofs.IdleLaws.{idle_after, idle_failed, idle_taken}
use Rattle.desk.proofs.works.take.Goals as goal

pub returns-in-Ok-clause-none : goal.returns-in-Ok-clause-none
returns-in-Ok-clause-none g c = λ none.
    none_offered (view_of c.loop-taken.board) (view_of c.take.new.self) (cuts_of c.loop-taken.board) (cuts_of c.take.new.self)
    c.loop-taken.invariant.3 (c.in-Ok.ensures.none.0 none) (c.in-Ok.ensures.same none)

pub returns-in-Ok-clause-whole : goal.returns-in-Ok-clause-whole
returns-in-Ok-clause-whole g c =
    all_whole (view_of c.loop-taken.board) (view_of c.take.new.self) (cuts_of c.loop-taken.board) (cuts_of c.take.new.self) c.loop-taken.invariant.3
    c.in-Ok.taken c.in-Ok.ensures.taken

pub returns-in-Ok-clause-running : goal.returns-in-Ok-clause-running
returns-in-Ok-clause-running g c =
    runs_taken (view_of c.loop-taken.board) (view_of c.take.new.self) (cuts_of c.loop-taken.board) (cuts_of c.take.new.self) (open_run c.loop-taken.board)
    c.pick.result _ c.in-Ok.taken c.in-Ok.ensures.none.1 c.in-Ok.ensures.picked c.in-Ok.ensures.taken

pub returns-in-Ok-clause-more : goal.returns-in-Ok-clause-more
returns-in-Ok-clause-more g c =
    le_trans (more_taken (view_of c.loop-taken.board) (view_of c.take.new.self) (cuts_of c.loop-taken.board) (cuts_of c.take.new.self) (open_run c.loop-taken.board)
    c.pick.result _ c.in-Ok.taken c.in-Ok.ensures.none.1 c.in-Ok.ensures.picked c.in-Ok.ensures.taken c.in-Ok.ensures.same)
    c.loop-taken.invariant.2

pub returns-in-Ok-clause-uncut : goal.returns-in-Ok-clause-uncut
returns-in-Ok-clause-uncut g c =
    all_uncut (view_of c.loop-taken.board) (view_of c.take.new.self) (cuts_of c.loop-taken.board) (cuts_of c.take.new.self) c.loop-taken.invariant.3
    c.in-Ok.taken c.in-Ok.ensures.taken c.in-Ok.ensures.same_cuts

pub returns-in-Ok-clause-idle : goal.returns-in-Ok-clause-idle
returns-in-Ok-clause-idle g c = λ idle.
    idle_taken (view_of c.loop-taken.board) (view_of c.take.new.self) (cuts_of c.loop-taken.board) (cuts_of c.take.new.self) c.loop-taken.invariant.3
    c.in-Ok.taken c.in-Ok.ensures.taken c.in-Ok.ensures.same (c.loop-taken.invariant.4 idle)

pub loop-taken-smaller : goal.loop-taken-smaller
loop-taken-smaller g c =
    fewer_refused (view_of c.loop-taken.board) (cuts_of c.loop-taken.board) (open_run c.loop-taken.board) c.pick.result c.in-Err.number
    c.in-Err.ensures.offered c.in-Err.ensures.number (view_of c.take.new.self) (view_of c.fail.new.self) c.fail.result c.in-Err.ensures.refused
    c.fail.ensures.answer c.fail.ensures.failed

pub loop-taken-preserved : goal.loop-taken-preserved
loop-taken-preserved g c =
    let before = c.loop-taken.invariant in
    let same = same_failed (view_of c.loop-taken.board) (view_of c.take.new.self) (view_of c.fail.new.self) c.in-Err.number c.fail.result
    c.in-Err.ensures.refused c.fail.ensures.failed c.fail.ensures.refused in
    let less = fewer_refused (view_of c.loop-taken.board) (cuts_of c.loop-taken.board) (open_run c.loop-taken.board) c.pick.result c.in-Err.number
    c.in-Err.ensures.offered c.in-Err.ensures.number (view_of c.take.new.self) (view_of c.fail.new.self) c.fail.result c.in-Err.ensures.refused
    c.fail.ensures.answer c.fail.ensures.failed in (
      same.0 ∙ before.0,
      same.1 ∙ before.1,
      omega (arith, less, before.2),
      uncut_failed (cuts_of c.loop-taken.board) (cuts_of c.take.new.self) (cuts_of c.fail.new.self) c.in-Err.number c.fail.result before.3
          c.in-Err.ensures.refused_cuts c.fail.ensures.cuts c.fail.ensures.refused_cuts,
      λ idle.
          let now = subst (λ (v : View _). IsIdle v.progress) (sym c.in-Err.ensures.refused) (before.4 idle) in
          idle_after (view_of c.take.new.self) (view_of c.fail.new.self) (failed (view_of c.take.new.self) c.in-Err.number) c.fail.result
          c.fail.ensures.failed c.fail.ensures.refused (idle_failed (view_of c.take.new.self) c.in-Err.number now) now,
    )
