-- The operators of an accepted act are there.
use Rattle.plain.specs.Environments.{environment_of}
use Rattle.plain.proofs.FaultLaws.{accepted-act_operators}
use Rattle.plain.proofs.environment.PlainEnvironment.data_lines.Goals as goal

pub act_lines-requires : goal.act_lines-requires
act_lines-requires c =
    accepted-act_operators (environment_of c.args.self.now) c.in-On.object.now c.in-On.act (rw c.in-On.is at c.requires)
