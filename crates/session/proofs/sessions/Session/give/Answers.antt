-- The objects stay as they were.
use Rattle.objects.specs.Tables.{state_in}
use Rattle.session.specs.Performed.{state_of}
use Rattle.session.proofs.NumberLaws.{below-same}
use Rattle.session.proofs.sessions.Session.give.Goals as goal

pub invariant_of-self : goal.invariant_of-self
invariant_of-self g c =
    record { fresh = below-same (state_of c.args.self.now) (state_in c.give.new.table) c.args.self.now.next c.args.self.now.fresh c.give.ensures.state }
