-- A test on what is found is one on the objects that the names stand for, where these are there.
use Rattle.std.proofs.Common.{◌∙◌, sym}
use Rattle.plain.specs.Environments.{environment_of, named}
use Rattle.plain.proofs.FaultLaws.{fails-there}
use Rattle.plain.proofs.environment.PlainEnvironment.fails.Goals as goal

pub returns-then-are_there : goal.returns-then-are_there
returns-then-are_there c =
    c.fails_on_objects.ensures
    ∙ fails-there (environment_of c.args.self.now) (named c.args.call.now) c.args.status c.in_default.not-NameTaken
    c.in_default.not-UninitializedObject (sym c.if-are_there.ensures)
