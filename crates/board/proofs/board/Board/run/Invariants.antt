use Rattle.std.proofs.Common.{◌≤◌, ◌+◌, length}
use Rattle.std.specs.Prelude.{vec_len}
use Rattle.std.specs.Vec.{vec_capacity}
use Rattle.board.specs.Boards.{shown}
use Rattle.board.proofs.ScheduleLaws.{IsDuring}
use Rattle.board.proofs.board.Board.run.Given as goal

abbrev pub invariant-loop-event : goal.invariant-loop-event
invariant-loop-event g l = IsDuring (shown l.fn.self) l.fn.events.items l.answers.items (shown l.self) l.event-iterator.rest.items
    × (vec_len l.answers + length l.event-iterator.rest.items ≤ vec_capacity l.answers)
