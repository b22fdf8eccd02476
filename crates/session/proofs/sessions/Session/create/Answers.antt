-- There is a number after the next one.
use Rattle.std.proofs.Common.{refl}
use Rattle.model.specs.declared.call.Call.TheVariants.{Create}
use Rattle.session.specs.Performed.{environment_of, next_object}
use Rattle.session.proofs.AcceptedLaws.{number_left}
use Rattle.session.proofs.NumberLaws.{not_there}
use Rattle.session.proofs.PerformedLaws.{performed-create, refused-as}
use Rattle.session.proofs.sessions.Session.create.Goals as goal

pub insert-requires-clause-left : goal.insert-requires-clause-left
insert-requires-clause-left g c =
    number_left c.args.self.now.next (environment_of c.args.self.now).count c.args.domain c.args.shape c.in_ok-check_create.ensures

pub returns-in_err-object-clause-performed : goal.returns-in_err-object-clause-performed
returns-in_err-object-clause-performed g c =
    refused-as c.args.self.now c.insert.new.self (Create (next_object c.args.self.now) c.args.domain c.args.shape) c.from_residual-in_err-object.result c.from_residual-in_err-object.ensures.1
    c.in_err-object.ensures.kept c.in_err-object.ensures.unmade

pub returns-clause-performed : goal.returns-clause-performed
returns-clause-performed g c =
    performed-create c.args.self.now c.insert.new.self (next_object c.args.self.now) c.args.domain c.args.shape _ _ c.in_ok-check_create.ensures c.in_ok-object.ensures.put refl c.in_ok-object.ensures.made

pub returns-in_err-check_create-clause-unused : goal.returns-in_err-check_create-clause-unused
returns-in_err-check_create-clause-unused g c = not_there (environment_of c.args.self.now) (next_object c.args.self.now) c.args.self.now.fresh

pub returns-in_err-object-clause-unused : goal.returns-in_err-object-clause-unused
returns-in_err-object-clause-unused g c = not_there (environment_of c.args.self.now) (next_object c.args.self.now) c.args.self.now.fresh

pub returns-clause-unused : goal.returns-clause-unused
returns-clause-unused g c = not_there (environment_of c.args.self.now) (next_object c.args.self.now) c.args.self.now.fresh
