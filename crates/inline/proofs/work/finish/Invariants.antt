-- Tasks and notes are those that were there, none is cut, nobody works on one, and each round leaves fewer slots that are to come.
use Rattle.std.proofs.Common.{◌≡◌}
use Rattle.board.specs.Boards.{cuts_of, view_of}
use Rattle.desk.specs.Ends.{IsIdle, unfinished}
use Rattle.desk.specs.Works.{AreUncut}
use Rattle.inline.proofs.work.finish.Given as goal

abbrev pub invariant-loop-found : goal.invariant-loop-found
invariant-loop-found g l = ((view_of l.board).tasks ≡ (view_of l.fn.board).tasks)
    × ((view_of l.board).notes ≡ (view_of l.fn.board).notes)
    × AreUncut (cuts_of l.board) × IsIdle (view_of l.board).progress

abbrev pub decreases-loop-found : goal.decreases-loop-found
decreases-loop-found g l = unfinished (view_of l.board).progress
