use Rattle.std.proofs.Math.Logic.{∥∥₁_elim}
use Rattle.board.specs.Boards.{view_of}
use Rattle.board.specs.SlotViews.{slots_view}
use Rattle.board.proofs.CutProps.{cuts-prop}
use Rattle.board.proofs.PartedLaws.{kept_issued}
use Rattle.board.proofs.board.Board.issue.Goals as goal

pub invariant_of-self : goal.invariant_of-self
invariant_of-self g c =
    let are = ∥∥₁_elim c.args.self.now.cut_are (cuts-prop _ _ _) (λ are. are) in
    let kept = kept_issued (view_of c.args.self.now) (slots_view c.issue.new.self) c.args.self.now.cuts.items c.args.self.now.parted.items c.args.self.now.slots.sound.flows.sized are c.args.self.now.parted_are
    c.issue.result c.args.note c.args.recipe c.args.inputs c.issue.ensures.issued c.issue.ensures.refused in
    record { cut_are = ∣ kept.0 ∣₁; parted_are = kept.1 }
