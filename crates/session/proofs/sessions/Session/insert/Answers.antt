-- The number is a new one, and there is one after it.
use Rattle.std.proofs.Common.{refl}
use Rattle.objects.specs.Tables.{state_in}
use Rattle.session.specs.Performed.{environment_of, next_object, state_of}
use Rattle.session.proofs.NumberLaws.{below-inserted, below-same, not_there}
use Rattle.session.proofs.sessions.Session.insert.Goals as goal

pub insert-requires-clause-new : goal.insert-requires-clause-new
insert-requires-clause-new g c = not_there (environment_of c.args.self.now) (next_object c.args.self.now) c.args.self.now.fresh

pub invariant_of-self : goal.invariant_of-self
invariant_of-self g c =
    record { fresh = below-same (state_of c.args.self.now) (state_in c.insert.new.table) c.args.self.now.next c.args.self.now.fresh c.in_err-insert.ensures.refused }

pub invariant_of-self-2 : goal.invariant_of-self-2
invariant_of-self-2 g c =
    record { fresh = below-inserted (state_of c.args.self.now) (state_in c.insert.new.table) (next_object c.args.self.now) _ _ c.args.self.now.next c.args.self.now.fresh refl c.in_ok-insert.ensures.made }
