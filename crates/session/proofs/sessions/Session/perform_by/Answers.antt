-- An operation makes no object.
use Rattle.std.proofs.Common.{subst, sym}
use Rattle.calls.specs.declared.obj.Obj.{Obj}
use Rattle.model.specs.declared.call.Call.{Call}
use Rattle.session.specs.Performed.{IsPerformed, numbered}
use Rattle.session.proofs.PerformedLaws.{numbered-operate, performed-done}
use Rattle.session.proofs.sessions.Session.perform_by.Goals as goal

pub returns-clause-performed : goal.returns-clause-performed
returns-clause-performed g c =
    let old = c.args.self.now in
    let new = c.operate.new.self in
    performed-done old new (numbered old c.args.call) c.operate.result c.done.result c.done.ensures
    (subst (λ (call : Call Obj Obj). IsPerformed old new call c.operate.result)
    (sym (numbered-operate old c.args.call c.in-Operate.out c.in-Operate.operation c.in-Operate.is)) c.operate.ensures)
