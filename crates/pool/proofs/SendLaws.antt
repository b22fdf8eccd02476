-- What the threads of a pool share may go to another thread.
use denote.RattleType.{RattleType}
use denote.Param.Send.{IsSend, IsSync, sendable}
use Rattle.std.proofs.Crossing.{crosses}
use Rattle.boxcar.proofs.Sent.{slot_send, slot_sync, tag_send, tag_sync}
use Rattle.desk.specs.contracts.spares.Spares as D
use Rattle.journal.specs.declared.journal.Naming.{Ghosts}
use Rattle.journal.specs.contracts.entry.Entry as E
use Rattle.journal.specs.contracts.journal.Log as L
use Rattle.journal.proofs.entry.Entry.TheLaws.TheKnot as knot
use Rattle.pool.specs.contracts.named.Named as M
use Rattle.pool.specs.contracts.shared.Shared as S
use Rattle.pool.specs.contracts.spares.SharedSpares as Q
use Rattle.tasks.specs.contracts.tasks.Tasks as T
use Rattle.tasks.proofs.SendLaws.{tasks_send}

entry_send : IsSend E.the_row
entry_send = search (sendable, crosses, knot.send-Entry) depth 100 fits 20000

entry_sync : IsSync E.the_row
entry_sync = search (sendable, crosses, knot.sync-Entry) depth 100 fits 20000

log_send : IsSend L.the_row
log_send = search (sendable, crosses, entry_send, slot_send, tag_send) depth 100 fits 20000

log_sync : IsSync L.the_row
log_sync = search (sendable, crosses, entry_send, entry_sync, slot_send, slot_sync, tag_sync) depth 100 fits 20000

pub named_send : (J : RattleType) (g : Ghosts J.Denot) → IsSend (M.the_row J g)
named_send J g = search (sendable, crosses, log_send) depth 100 fits 20000

pub named_sync : (J : RattleType) (g : Ghosts J.Denot) → IsSync (M.the_row J g)
named_sync J g = search (sendable, crosses, log_sync) depth 100 fits 20000

lists_send : IsSend (D.the_field).row
lists_send = search (sendable, crosses) depth 100 fits 20000

spares_send : IsSend (Q.the_field).row
spares_send = search (sendable, crosses, lists_send) depth 100 fits 20000

spares_sync : IsSync (Q.the_field).row
spares_sync = search (sendable, crosses, lists_send) depth 100 fits 20000

pub shared_send : (J G P : RattleType) (g : Ghosts J.Denot) → IsSend G → IsSend P → IsSend (S.the_row J G P g)
shared_send J G P g s p =
    let t : IsSend (T.the_row J P g) = tasks_send J P g p in
    search (sendable, crosses, spares_send) depth 100 fits 20000

pub shared_sync : (J G P : RattleType) (g : Ghosts J.Denot) → IsSync G → IsSend P → IsSync (S.the_row J G P g)
shared_sync J G P g y p =
    let t : IsSend (T.the_row J P g) = tasks_send J P g p in
    search (sendable, crosses, spares_sync) depth 100 fits 20000
