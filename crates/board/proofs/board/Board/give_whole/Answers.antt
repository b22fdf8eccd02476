use Rattle.std.proofs.Math.Logic.{∥∥₁_elim}
use Rattle.board.specs.Boards.{view_of}
use Rattle.stages.specs.Progress.{Joining}
use Rattle.board.specs.SlotViews.{slots_view}
use Rattle.board.proofs.CutProps.{cuts-prop}
use Rattle.board.proofs.PartedLaws.{kept_beside, uncut_there}
use Rattle.board.proofs.board.Board.give_whole.Goals as goal

pub invariant_of-self : goal.invariant_of-self
invariant_of-self g c =
    let are = ∥∥₁_elim c.args.self.now.cut_are (cuts-prop _ _ _) (λ are. are) in
    let kept = kept_beside (view_of c.args.self.now) (slots_view c.give.new.self) c.args.self.now.cuts.items c.args.self.now.parted.items c.args.number Joining c.give.result are c.args.self.now.parted_are
    (uncut_there c.args.self.now.cuts.items c.args.number c.requires) c.give.ensures.joining c.give.ensures.refused in
    record { cut_are = ∣ kept.0 ∣₁; parted_are = kept.1 }
