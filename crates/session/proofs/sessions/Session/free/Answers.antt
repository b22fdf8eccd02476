-- An object that is there is freed.
use Rattle.std.proofs.Common.{refl}
use Rattle.model.specs.declared.call.Act.TheVariants.{Free}
use Rattle.objects.specs.Tables.{state_in}
use Rattle.objects.proofs.TableLaws.{on_err}
use Rattle.session.specs.Performed.{count_in, environment_of, state_of}
use Rattle.session.proofs.AcceptedLaws.{act-there, free-absent}
use Rattle.session.proofs.NumberLaws.{below-removed}
use Rattle.session.proofs.PerformedLaws.{performed-free, removed-there}
use Rattle.session.proofs.sessions.Session.free.Goals as goal

pub returns-in_err-check_there-clause-there : goal.returns-in_err-check_there-clause-there
returns-in_err-check_there-clause-there g c =
    on_err _ c.from_residual.result (free-absent (count_in c.args.self.now) ((environment_of c.args.self.now).find_object c.args.object) c.in_err-check_there.field-0.0 c.in_err-check_there.ensures.free)

pub invariant_of-self : goal.invariant_of-self
invariant_of-self g c =
    record { fresh = below-removed c.remove.result (state_of c.args.self.now) (state_in c.remove.new.table) c.args.object c.args.self.now.next c.args.self.now.fresh c.remove.ensures.left }

pub returns-clause-performed : goal.returns-clause-performed
returns-clause-performed g c =
    let there = act-there (count_in c.args.self.now) ((environment_of c.args.self.now).find_object c.args.object) Free c.in_ok-check_there.ensures.free in
    performed-free c.args.self.now _ c.args.object _ c.in_ok-check_there.ensures.free (removed-there c.remove.result (state_of c.args.self.now) (state_in c.remove.new.table) c.args.object there c.remove.ensures.there c.remove.ensures.left) refl
