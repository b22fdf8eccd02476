use Rattle.std.proofs.Common.{length, map, refl, None, sym}
use Rattle.std.proofs.Math.Logic.{∥∥₁_elim}
use Rattle.std.specs.Option.{option_map}
use Rattle.board.specs.Boards.{view_of}
use Rattle.board.specs.SlotViews.{slots_view}
use Rattle.board.proofs.CutProps.{cuts-prop}
use Rattle.std.proofs.Common.{List, Option, subst}
use Rattle.board.specs.Cuts.{IsPut, cutting_of}
use Rattle.stages.specs.Progress.{Made, is_joining}
use Rattle.board.specs.declared.cut.Cut.{Cut}
use Rattle.board.proofs.CutLaws.{put_none}
use Rattle.board.proofs.PartedLaws.{forgotten_set, ok_may, there_by}
use Rattle.board.proofs.board.Board.whole.Goals as goal

pub invariant_of-self-2 : goal.invariant_of-self-2
invariant_of-self-2 g c =
    let are = ∥∥₁_elim c.args.self.now.cut_are (cuts-prop _ _ _) (λ are. are) in
    let kept = forgotten_set (view_of c.args.self.now) (slots_view c.whole.new.self) c.args.self.now.cuts.items c.forget.new.cuts.items c.args.self.now.parted.items c.forget.new.parted.items c.args.number Made are c.args.self.now.parted_are
    c.in_ok-whole.ensures.made (there_by is_joining (view_of c.args.self.now).progress c.args.number (length (view_of c.args.self.now).tasks) refl (ok_may c.whole.result _ _ c.in_ok-whole.was c.whole.ensures.answer) c.args.self.now.slots.sound.flows.sized) c.forget.ensures.cuts c.forget.ensures.numbers in
    record { cut_are = ∣ kept.0 ∣₁; parted_are = kept.1 }

pub returns-clause-cuts : goal.returns-clause-cuts
returns-clause-cuts g c =
    subst (λ (l : List (Option Cut)). IsPut (map (option_map cutting_of) c.args.self.now.cuts.items) c.args.number None (map (option_map cutting_of) l))
    (sym c.forget.ensures.cuts) (put_none c.args.self.now.cuts.items c.args.number)
