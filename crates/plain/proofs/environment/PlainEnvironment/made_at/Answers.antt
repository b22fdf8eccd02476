-- The operators of an accepted call are there.
use Rattle.std.specs.Borrow.{Bor}
use Rattle.model.specs.Grammar.{Name}
use Rattle.plain.specs.Environments.{environment_of}
use Rattle.plain.proofs.FaultLaws.{accepted-act_operators, accepted-operators}
use Rattle.plain.proofs.environment.PlainEnvironment.made_at.Goals as goal

pub word_left-requires : goal.word_left-requires
word_left-requires c =
    accepted-act_operators (environment_of c.args.self.now) c.in-On.object.now c.in-On.act (rw c.in-On.is at c.requires)

pub result_at-requires : goal.result_at-requires
result_at-requires c =
    accepted-operators (λ (name : Bor Name). name.now) (environment_of c.args.self.now) c.in-Operate.out c.in-Operate.operation (rw c.in-Operate.is at c.requires)
