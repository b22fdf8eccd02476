-- The object was there before.
use Rattle.objects.specs.Tables.{state_in}
use Rattle.session.specs.Performed.{state_of}
use Rattle.session.proofs.NumberLaws.{below-with_kept}
use Rattle.session.proofs.sessions.Session.put.Goals as goal

pub invariant_of-self : goal.invariant_of-self
invariant_of-self g c =
    record { fresh = below-with_kept (state_of c.args.self.now) (state_in c.put.new.table) c.args.object _ _ c.args.self.now.next c.args.self.now.fresh c.requires.there c.put.ensures.state }
