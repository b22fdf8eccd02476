use denote.Param.Send.{sendable}
use Rattle.std.proofs.Crossing.{crosses}
use Rattle.pool.proofs.SendLaws.{named_send, named_sync, shared_send, shared_sync}
use Rattle.pool.proofs.starting.start.Goals as goal

pub spawn-requires-send-F : goal.spawn-requires-send-F
spawn-requires-send-F g c κs within =
    search (named_send, named_sync, shared_send, shared_sync, sendable, crosses) depth 100 fits 20000
