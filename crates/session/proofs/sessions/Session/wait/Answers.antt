-- The object is there, since the call was accepted.
use Rattle.std.proofs.Common.{◌∙◌, subst, sym}
use Rattle.model.specs.declared.call.Act.TheVariants.{Wait}
use Rattle.model.specs.Marks.{State}
use Rattle.calls.specs.declared.obj.Obj.{Obj}
use Rattle.objects.specs.Tables.{Reads}
use Rattle.std.proofs.Common.{Ok}
use Rattle.session.specs.Performed.{count_in, environment_of, state_of}
use Rattle.session.proofs.AcceptedLaws.{act-there}
use Rattle.session.proofs.PerformedLaws.{late-none, performed-read}
use Rattle.session.proofs.sessions.Session.wait.Goals as goal

pub finish-requires : goal.finish-requires
finish-requires g c = record { there = act-there (count_in c.args.self.now) ((environment_of c.args.self.now).find_object c.args.object) (Wait c.args.mode) c.in_ok-check_wait.ensures }

pub returns-in-Materialize : goal.returns-in-Materialize
returns-in-Materialize g c =
    performed-read c.args.self.now c.take_ticket.new.self c.args.object (Wait c.args.mode) _ tt c.in_ok-check_wait.ensures
    (late-none c.args.self.now c.take_ticket.new.self c.args.object (Wait c.args.mode) tt)
    (subst (λ (s : State Obj). Reads (state_of c.args.self.now) c.args.object s (Ok tt)) (sym c.take_ticket.ensures.state) c.in_ok-finish.ensures.ends) (c.take_ticket.ensures.made ∙ c.finish.ensures.made)

pub returns-in_default : goal.returns-in_default
returns-in_default g c =
    performed-read c.args.self.now c.finish.new.self c.args.object (Wait c.args.mode) _ tt c.in_ok-check_wait.ensures
    (late-none c.args.self.now c.finish.new.self c.args.object (Wait c.args.mode) tt) c.in_ok-finish.ensures.ends c.finish.ensures.made
