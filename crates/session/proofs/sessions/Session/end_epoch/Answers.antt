-- Objects stay where they are.
use Rattle.objects.specs.Tables.{state_in}
use Rattle.session.specs.Performed.{state_of}
use Rattle.session.proofs.NumberLaws.{below-settled}
use Rattle.session.proofs.sessions.Session.end_epoch.Goals as goal

pub invariant_of-self : goal.invariant_of-self
invariant_of-self g c =
    record { fresh = below-settled (state_of c.args.self.now) (state_in c.settle.new.table) c.args.self.now.next c.args.self.now.fresh c.settle.ensures }

pub invariant_of-self-2 : goal.invariant_of-self-2
invariant_of-self-2 g c =
    record { fresh = below-settled (state_of c.args.self.now) (state_in c.settle.new.table) c.args.self.now.next c.args.self.now.fresh c.settle.ensures }
