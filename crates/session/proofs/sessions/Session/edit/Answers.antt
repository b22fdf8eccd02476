-- The object was there before.
use Rattle.objects.specs.Tables.{state_in}
use Rattle.session.specs.Performed.{state_of}
use Rattle.session.proofs.NumberLaws.{below-edited}
use Rattle.session.proofs.sessions.Session.edit.Goals as goal

pub invariant_of-self : goal.invariant_of-self
invariant_of-self g c =
    record { fresh = below-edited c.edit.result (state_of c.args.self.now) (state_in c.edit.new.table) c.args.object _ _ c.args.self.now.next c.args.self.now.fresh c.requires.there c.edit.ensures.edited c.edit.ensures.refused }
