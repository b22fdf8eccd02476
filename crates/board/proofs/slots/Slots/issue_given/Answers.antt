use Rattle.std.proofs.Common.{◌∙◌, ap, map, subst, sym}
use Rattle.std.specs.Arc.{arc_value}
use Rattle.calls.specs.declared.recipe.Given.{Given}
use Rattle.runner.specs.Tickets.{IsStoreFor}
use Rattle.store.specs.Stored.{Stored}
use Rattle.stages.specs.Slots.{task_of}
use Rattle.stages.specs.Tasks.{object_at}
use Rattle.board.proofs.GivenLaws.{given_is_object, given_right, placed_at}
use Rattle.board.proofs.slots.Slots.issue_given.Goals as goal

pub fill-requires-clause-object : goal.fill-requires-clause-object
fill-requires-clause-object g c =
    let task = placed_at (map (task_of {N = _}) c.args.self.now.slots.items) (map (task_of {N = _}) c.admit.new.self.slots.items) c.args.given c.none.result c.in_ok-number.number
    (ap (λ v. v.tasks) c.in_ok-number.ensures.issued) c.none.ensures c.in_ok-number.ensures.number in
    given_is_object (map (task_of {N = _}) c.admit.new.self.slots.items) c.in_ok-number.number c.args.given task

pub fill-requires-clause-right : goal.fill-requires-clause-right
fill-requires-clause-right g c =
    let task = placed_at (map (task_of {N = _}) c.args.self.now.slots.items) (map (task_of {N = _}) c.admit.new.self.slots.items) c.args.given c.none.result c.in_ok-number.number
    (ap (λ v. v.tasks) c.in_ok-number.ensures.issued) c.none.ensures c.in_ok-number.ensures.number in
    subst (λ (s : Stored). IsStoreFor (object_at (map (task_of {N = _}) c.admit.new.self.slots.items) c.in_ok-number.number) s) (sym (c.in_ok-store.ensures ∙ ap (λ (g : Given). arc_value g.store) c.deref.ensures))
    (given_right (map (task_of {N = _}) c.admit.new.self.slots.items) c.in_ok-number.number c.args.given task)
