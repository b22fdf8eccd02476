-- The object is there, since the call was accepted.
use Rattle.std.proofs.Common.{◌∙◌, ap}
use Rattle.calls.specs.Stores.{object_with}
use Rattle.model.specs.declared.call.Act.TheVariants.{Clear}
use Rattle.model.specs.declared.shape.Signature.{Signature}
use Rattle.model.specs.Marks.{Unmarked}
use Rattle.model.specs.Object.{no_content}
use Rattle.objects.specs.Tables.{with_kept}
use Rattle.session.specs.Performed.{count_in, environment_of, state_of}
use Rattle.session.proofs.AcceptedLaws.{act-there}
use Rattle.session.proofs.PerformedLaws.{performed-clear}
use Rattle.session.proofs.sessions.Session.clear.Goals as goal

pub known-of-requires : goal.known-of-requires
known-of-requires g c = act-there (count_in c.args.self.now) ((environment_of c.args.self.now).find_object c.args.object) Clear c.in_ok-check_there.ensures.clear

pub put-requires-clause-there : goal.put-requires-clause-there
put-requires-clause-there g c = act-there (count_in c.args.self.now) ((environment_of c.args.self.now).find_object c.args.object) Clear c.in_ok-check_there.ensures.clear

pub returns-clause-performed : goal.returns-clause-performed
returns-clause-performed g c =
    performed-clear c.args.self.now c.put.new.self c.args.object _ c.in_ok-check_there.ensures.clear
    (c.put.ensures.state ∙ ap (λ (of : Signature). with_kept (state_of c.args.self.now) c.args.object (object_with of no_content) Unmarked) c.known-of.ensures) c.put.ensures.made
