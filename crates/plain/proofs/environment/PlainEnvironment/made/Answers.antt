-- The object lists what its shape leaves of the map that is evaluated.
use Rattle.plain.specs.declared.objects.PlainObject.{PlainObject}
use Rattle.plain.specs.Environments.{named}
use Rattle.plain.proofs.EffectLaws.{made-listed}
use Rattle.plain.proofs.environment.PlainEnvironment.made.Goals as goal

pub returns : goal.returns
returns c =
    let shape = c.in-Some.field-0-1.shape in
    let o : PlainObject = record { name = c.in_ok-name.name; domain = c.in-Some.field-0-1.domain; shape = shape; entries = c.in_ok-entries.entries } in
    made-listed c.args.self.now (named c.args.call.now) o c.requires (rw c.in_ok-name.ensures.ok c.in-Some.ensures) c.in_ok-entries.ensures
