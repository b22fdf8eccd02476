-- A board may go to another thread.
use denote.RattleType.{RattleType}
use denote.Param.Send.{IsSend, sendable}
use Rattle.std.proofs.Crossing.{crosses}
use Rattle.pieces.specs.contracts.pieces.Pieces as P
use Rattle.stages.proofs.SendLaws.{accepted_send, given_send, patch_send, recipe_send, recipe_sync, signature_send, slot_send, stage_send}
use Rattle.board.specs.contracts.board.Board as B
use Rattle.board.specs.contracts.cut.Cut as X
use Rattle.board.specs.contracts.cut.CutTask as T
use Rattle.board.specs.contracts.piece.Piece as C
use Rattle.board.specs.contracts.piece.Stores as I
use Rattle.board.specs.contracts.piece.TaskRecipe as Q
use Rattle.board.specs.contracts.slots.Slots as S

pieces_send : IsSend P.the_row
pieces_send = search (sendable, crosses) depth 100 fits 20000

inputs_send : IsSend I.the_row
inputs_send = search (sendable, crosses) depth 100 fits 20000

parts_send : IsSend (Q.the_field).row
parts_send = search (sendable, crosses, recipe_sync, accepted_send, given_send, patch_send, signature_send)
    depth 100 fits 20000

stores_send : IsSend (I.the_field).row
stores_send = search (sendable, crosses) depth 100 fits 20000

pub piece_send : IsSend C.the_row
piece_send = search (sendable, crosses, parts_send, stores_send) depth 100 fits 20000

task_send : IsSend T.the_row
task_send = search (sendable, crosses, recipe_send, recipe_sync, pieces_send) depth 100 fits 20000

cut_send : IsSend X.the_row
cut_send = search (sendable, crosses, task_send) depth 100 fits 20000

slots_send : (N : RattleType) → IsSend N → IsSend (S.the_field N).row
slots_send N n = search (sendable, crosses, stage_send, slot_send) depth 100 fits 20000

pub board_send : (N : RattleType) → IsSend N → IsSend (B.the_field N).row
board_send N n = search (sendable, crosses, slots_send, cut_send) depth 100 fits 20000
