use Rattle.std.proofs.Common.{map}
use Rattle.board.specs.SlotViews.{slots_view}
use Rattle.stages.specs.Progress.{Joining}
use Rattle.stages.specs.Stages.{progress_of}
use Rattle.stages.specs.declared.stage.Stage.TheVariants as stage
use Rattle.board.proofs.BoardLaws.{progress_put, sound_given, view_put}
use Rattle.board.proofs.slots.Slots.join.Goals as goal

pub invariant_of-self : goal.invariant_of-self
invariant_of-self g c = record { sound = sound_given _ _ _ _ _ _ _ c.args.self.now.sound c.args.number c.put.new.stages.items c.requires c.put.ensures }

pub returns : goal.returns
returns g c =
    view_put (slots_view c.args.self.now) (map progress_of c.put.new.stages.items) c.args.number Joining
    (progress_put c.args.self.now.stages.items c.put.new.stages.items c.args.number stage.Joining c.put.ensures)
