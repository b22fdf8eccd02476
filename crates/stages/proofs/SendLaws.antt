-- What stands in a slot may go to another thread.
use denote.RattleType.{RattleType}
use denote.Param.Send.{IsSend, IsSync, sendable}
use Rattle.std.proofs.Crossing.{crosses}
use Rattle.model.specs.contracts.call.Operation as O
use Rattle.model.specs.contracts.shape.Signature as G
use Rattle.calls.specs.contracts.recipe.Accepted as A
use Rattle.calls.specs.contracts.recipe.Given as V
use Rattle.calls.specs.contracts.recipe.Patch as E
use Rattle.calls.specs.contracts.recipe.Recipe as R
use Rattle.stages.specs.contracts.slot.Slot as L
use Rattle.stages.specs.contracts.stage.Stage as H

pub signature_send : IsSend G.the_row
signature_send = search (sendable, crosses) depth 100 fits 20000

signature_sync : IsSync G.the_row
signature_sync = search (sendable, crosses) depth 100 fits 20000

operation_send : IsSend (O.the_row G.the_row)
operation_send = search (sendable, crosses, signature_send) depth 100 fits 20000

operation_sync : IsSync (O.the_row G.the_row)
operation_sync = search (sendable, crosses, signature_sync) depth 100 fits 20000

pub accepted_send : IsSend A.the_row
accepted_send = search (sendable, crosses, signature_send) depth 100 fits 20000

accepted_sync : IsSync A.the_row
accepted_sync = search (sendable, crosses, signature_sync) depth 100 fits 20000

pub patch_send : IsSend E.the_row
patch_send = search (sendable, crosses) depth 100 fits 20000

patch_sync : IsSync E.the_row
patch_sync = search (sendable, crosses) depth 100 fits 20000

pub given_send : IsSend V.the_row
given_send = search (sendable, crosses) depth 100 fits 20000

given_sync : IsSync V.the_row
given_sync = search (sendable, crosses) depth 100 fits 20000

pub recipe_send : IsSend R.the_row
recipe_send = search (sendable, crosses, accepted_send, given_send, patch_send, signature_send) depth 100 fits 20000

pub recipe_sync : IsSync R.the_row
recipe_sync = search (sendable, crosses, accepted_sync, given_sync, patch_sync, signature_sync) depth 100 fits 20000

pub stage_send : IsSend H.the_row
stage_send = search (sendable, crosses, accepted_send, given_send, patch_send, signature_send) depth 100 fits 20000

pub slot_send : (N : RattleType) → IsSend N → IsSend (L.the_row N)
slot_send N n = search (sendable, crosses) depth 100 fits 20000
