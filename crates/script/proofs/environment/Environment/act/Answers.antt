-- A call that frees an object answers no lines.
use Rattle.script.proofs.ReplyLaws.{freed_answered}
use Rattle.script.proofs.environment.Environment.act.Goals as goal

pub returns-in-Free : goal.returns-in-Free
returns-in-Free g c =
    rw c.in-Free.is (freed_answered c.args.self.now c.free.new.self c.args.object.now c.args.text.now.items c.free.result c.free.ensures)
