use Rattle.std.proofs.Common.{◌≡◌, ◌∙◌, ap, map, slice_get, sym, true}
use Rattle.board.specs.SlotViews.{slots_view}
use Rattle.stages.specs.Progress.{Joining, is_running}
use Rattle.stages.specs.Stages.{progress_of}
use Rattle.stages.specs.declared.stage.Stage.TheVariants as stage
use Rattle.board.proofs.BoardLaws.{sound_given, progress_put, view_put}
use Rattle.board.proofs.slots.Slots.give.Goals as goal

pub invariant_of-self : goal.invariant_of-self
invariant_of-self g c =
    let runs : is_running (slice_get (map progress_of c.args.self.now.stages.items) c.args.number) ≡ true =
    ap (λ l. is_running (slice_get (map progress_of l) c.args.number)) (sym c.deref-else-piece-ne0.ensures.value)
    ∙ (sym c.is_running.ensures ∙ c.if-not-is_running.false) in
    record { sound = sound_given _ _ _ _ _ _ _ c.args.self.now.sound c.args.number c.put.new.stages.items runs c.put.ensures }

pub returns-clause-joining : goal.returns-clause-joining
returns-clause-joining g c =
    view_put (slots_view c.args.self.now) (map progress_of c.put.new.stages.items) c.args.number Joining
    (progress_put c.args.self.now.stages.items c.put.new.stages.items c.args.number stage.Joining c.put.ensures)
