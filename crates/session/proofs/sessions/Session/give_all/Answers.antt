-- Each role's object is there, and a ticket that it has is not taken away.
use Rattle.std.proofs.Common.{◌∙◌, subst, sym}
use Rattle.calls.specs.declared.obj.Obj.{Obj}
use Rattle.calls.specs.declared.role.Role.TheVariants.{Old, Mask, First, Second}
use Rattle.model.specs.Marks.{State}
use Rattle.session.specs.Deferred.{AreThere}
use Rattle.session.specs.Performed.{state_of}
use Rattle.session.proofs.ResultLaws.{all-given}
use Rattle.session.proofs.sessions.Session.give_all.Goals as goal

pub give_if-requires : goal.give_if-requires
give_if-requires g c = record { there = c.requires.there Old }

pub give_if-requires-2 : goal.give_if-requires-2
give_if-requires-2 g c = record { there = subst (λ (s : State Obj). AreThere s.environment c.args.objects.now.mask) (sym c.give_if.ensures.state) (c.requires.there Mask) }

pub give_if-requires-3 : goal.give_if-requires-3
give_if-requires-3 g c = record { there = subst (λ (s : State Obj). AreThere s.environment c.args.objects.now.first) (sym (c.give_if-2.ensures.state ∙ c.give_if.ensures.state)) (c.requires.there First) }

pub give_if-requires-4 : goal.give_if-requires-4
give_if-requires-4 g c = record { there = subst (λ (s : State Obj). AreThere s.environment c.args.objects.now.second) (sym (c.give_if-3.ensures.state ∙ c.give_if-2.ensures.state ∙ c.give_if.ensures.state)) (c.requires.there Second) }

pub returns-clause-given : goal.returns-clause-given
returns-clause-given g c =
    all-given (state_of c.args.self.now) (state_of c.give_if.new.self) (state_of c.give_if-2.new.self) (state_of c.give_if-3.new.self) c.args.objects.now
    c.in_ok-old.old c.in_ok-mask.mask c.in_ok-first.first c.in_ok-second.second
    c.give_if.ensures.state (c.give_if-2.ensures.state ∙ c.give_if.ensures.state) (c.give_if-3.ensures.state ∙ c.give_if-2.ensures.state ∙ c.give_if.ensures.state)
    c.in_ok-old.ensures.given c.in_ok-mask.ensures.given c.in_ok-first.ensures.given c.in_ok-second.ensures.given
