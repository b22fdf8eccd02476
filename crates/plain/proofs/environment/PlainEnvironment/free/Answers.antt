-- The objects of other names are left.
use Rattle.std.proofs.Common.{rules}
use Rattle.plain.specs.declared.environment.PlainEnvironment.{PlainEnvironment}
use Rattle.plain.proofs.EnvironmentLaws.{environment-freed}
use Rattle.plain.proofs.environment.PlainEnvironment.free.Goals as goal

pub returns : goal.returns
returns c =
    let new : PlainEnvironment = record { objects = c.take_off.new.objects; live = c.saturating_sub-self.result } in
    environment-freed c.args.self.now new c.args.name.now c.take_off.ensures.left (search rules)
