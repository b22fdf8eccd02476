use Rattle.std.proofs.Common.{◌∙◌, IfSome, Option, ap, map, slice_get, subst, sym}
use Rattle.std.specs.Option.{option_and_then}
use Rattle.store.specs.Stored.{Stored}
use Rattle.runner.specs.Tickets.{IsStoreFor}
use Rattle.board.specs.Looks.{seen_at}
use Rattle.stages.specs.Slots.{task_of}
use Rattle.stages.specs.Stages.{stored_in}
use Rattle.stages.specs.Tasks.{object_at}
use Rattle.board.proofs.BoardLaws.{right_at, seen_is}
use Rattle.board.proofs.slots.Slots.look.Goals as goal

pub returns-clause-seen : goal.returns-clause-seen
returns-clause-seen g c =
    c.look_at.ensures.seen ∙ (ap (λ l. seen_at (slice_get l c.args.number)) c.deref.ensures.value
    ∙ sym (seen_is _ _ _ _ _ _ _ c.args.self.now.sound c.args.number))

pub returns-clause-right : goal.returns-clause-right
returns-clause-right g c =
    subst (λ (o : Option Stored). IfSome o (IsStoreFor (object_at (map (task_of {N = _}) c.args.self.now.slots.items) c.args.number)))
    (sym (c.look_at.ensures.store ∙ ap (λ l. option_and_then stored_in (slice_get l c.args.number)) c.deref.ensures.value))
    (right_at _ _ _ _ _ _ _ c.args.self.now.sound c.args.number)
