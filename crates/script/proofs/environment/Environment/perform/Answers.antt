-- Calls that make an object answer no lines.
use Rattle.script.proofs.ReplyLaws.{copied_answered, created_answered}
use Rattle.script.proofs.environment.Environment.perform.Goals as goal

pub returns-in-Create : goal.returns-in-Create
returns-in-Create g c =
    rw c.in-Create.is (created_answered c.args.self.now c.create.new.self c.in-Create.name.now c.in-Create.domain c.in-Create.shape c.args.text.now.items c.create.result c.create.ensures)

pub returns-in-Dup : goal.returns-in-Dup
returns-in-Dup g c =
    rw c.in-Dup.is (copied_answered c.args.self.now c.dup.new.self c.in-Dup.name.now c.in-Dup.object.now c.args.text.now.items c.dup.result c.dup.ensures)

pub returns-in-On : goal.returns-in-On
returns-in-On g c = rw c.in-On.is c.act.ensures
