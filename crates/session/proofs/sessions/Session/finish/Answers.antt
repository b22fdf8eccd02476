-- Objects stay where they are.
use Rattle.objects.specs.Tables.{state_in}
use Rattle.session.specs.Performed.{state_of}
use Rattle.session.proofs.NumberLaws.{below-read}
use Rattle.session.proofs.sessions.Session.finish.Goals as goal

pub invariant_of-self : goal.invariant_of-self
invariant_of-self g c =
    record { fresh = below-read c.finish.result (state_of c.args.self.now) (state_in c.finish.new.table) c.args.object c.args.self.now.next c.args.self.now.fresh c.requires.there c.finish.ensures.ends }
