-- The object is there, since the call was accepted.
use Rattle.model.specs.declared.call.Act.TheVariants.{Print}
use Rattle.session.specs.Performed.{count_in, environment_of}
use Rattle.session.proofs.AcceptedLaws.{act-there}
use Rattle.session.proofs.PerformedLaws.{late-none, performed-read}
use Rattle.session.proofs.sessions.Session.complete.Goals as goal

pub finish-requires : goal.finish-requires
finish-requires g c = record { there = act-there (count_in c.args.self.now) ((environment_of c.args.self.now).find_object c.args.object) Print c.in_ok-check_there.ensures.print }

pub returns-clause-performed : goal.returns-clause-performed
returns-clause-performed g c =
    performed-read c.args.self.now c.finish.new.self c.args.object Print _ tt c.in_ok-check_there.ensures.print
    (late-none c.args.self.now c.finish.new.self c.args.object Print tt) c.in_ok-finish.ensures.ends c.finish.ensures.made
