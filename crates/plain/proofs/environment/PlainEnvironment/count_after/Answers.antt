-- An accepted call that makes an object finds room for it.
use Rattle.std.proofs.Common.{◌≡◌, arith, false, inl, inr, ap}
use Rattle.std.specs.Prelude.{nat_le}
use Rattle.std.proofs.lemmas.Bool.Decides.{nat_tests}
use Rattle.model.specs.declared.limits.TheConstants.{MOST_OBJECTS}
use Rattle.plain.specs.Environments.{environment_of, named}
use Rattle.plain.proofs.FaultLaws.{accepted-create, accepted-dup}
use Rattle.plain.proofs.environment.PlainEnvironment.count_after.Goals as goal

pub overflow_add-result : goal.overflow_add-result
overflow_add-result c =
    let env = environment_of c.args.self.now in
    let call = named c.args.call.now in
    let room : nat_le MOST_OBJECTS c.args.self.now.live ≡ false = elim c.in-Create.is [
      | inl (name, domain, shape, is) ↦ accepted-create env name.now domain shape call (ap named is) c.requires
      | inr (name, object, is) ↦ accepted-dup env name.now object.now call (ap named is) c.requires
    ] in
    grind (arith, nat_tests)
