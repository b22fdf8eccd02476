-- Tasks and notes are those that were there, none is cut, nobody works on one if nobody did, and each round leaves fewer
-- slots that are to come.
use Rattle.std.proofs.Common.{◌≡◌, ◌≤◌}
use Rattle.board.specs.Boards.{cuts_of, view_of}
use Rattle.desk.specs.Ends.{IsIdle, unfinished}
use Rattle.desk.specs.Works.{AreUncut}
use Rattle.desk.proofs.works.take.Given as goal

abbrev pub invariant-loop-taken : goal.invariant-loop-taken
invariant-loop-taken g l = ((view_of l.board).tasks ≡ (view_of l.fn.board).tasks)
    × ((view_of l.board).notes ≡ (view_of l.fn.board).notes)
    × (unfinished (view_of l.board).progress ≤ unfinished (view_of l.fn.board).progress)
    × AreUncut (cuts_of l.board)
    × (IsIdle (view_of l.fn.board).progress → IsIdle (view_of l.board).progress)

abbrev pub decreases-loop-taken : goal.decreases-loop-taken
decreases-loop-taken g l = unfinished (view_of l.board).progress
