-- The tasks of a pool may go to another thread.
use denote.RattleType.{RattleType}
use denote.Param.Send.{IsSend, sendable}
use Rattle.std.proofs.Crossing.{crosses}
use Rattle.board.specs.contracts.board.Board as B
use Rattle.board.proofs.SendLaws.{board_send}
use Rattle.journal.specs.declared.journal.Naming.{Ghosts}
use Rattle.journal.specs.contracts.journal.Note as N
use Rattle.journal.proofs.journal.Note.TheSendSync as note
use Rattle.tasks.specs.contracts.crew.Crew as C
use Rattle.tasks.specs.contracts.tasks.Tasks as T

crew_send : IsSend (C.the_field).row
crew_send = search (sendable, crosses) depth 100 fits 20000

pub tasks_send : (J P : RattleType) (g : Ghosts J.Denot) → IsSend P → IsSend (T.the_row J P g)
tasks_send J P g p =
    let b : IsSend (B.the_field (N.the_row J g)).row = board_send (N.the_row J g) (note.the_send J g) in
    search (sendable, crosses, crew_send) depth 100 fits 20000
