use Rattle.std.proofs.Common.{◌∙◌, ap, map, sym}
use Rattle.std.proofs.Math.Logic.{∥∥₁_elim}
use Rattle.board.specs.Boards.{view_of}
use Rattle.board.specs.SlotViews.{slots_view}
use Rattle.stages.specs.Stages.{progress_of}
use Rattle.board.proofs.CutProps.{cuts-prop}
use Rattle.std.proofs.Common.{Err, Ok, cond, ◌&&◌, slice_get}
use Rattle.std.specs.Prelude.{is_none}
use Rattle.stages.specs.Progress.{Made, is_running}
use Rattle.board.specs.declared.look.Refusal.TheVariants.{Stranger}
use Rattle.stages.proofs.NumberLaws.{and_true}
use Rattle.board.proofs.PartedLaws.{kept_beside, uncut, uncut_seen}
use Rattle.board.proofs.board.Board.hand_in.Goals as goal

pub invariant_of-self : goal.invariant_of-self
invariant_of-self g c =
    let are = ∥∥₁_elim c.args.self.now.cut_are (cuts-prop _ _ _) (λ are. are) in
    let none = uncut c.args.self.now.cuts.items c.deref.result.now c.args.number c.is_cut.result c.deref.ensures.value c.is_cut.ensures c.if-is_cut.false in
    let kept = kept_beside (view_of c.args.self.now) (slots_view c.hand_in.new.self) c.args.self.now.cuts.items c.args.self.now.parted.items c.args.number Made c.hand_in.result are c.args.self.now.parted_are none
    c.hand_in.ensures.made c.hand_in.ensures.refused in
    record { cut_are = ∣ kept.0 ∣₁; parted_are = kept.1 }

pub returns-clause-answer : goal.returns-clause-answer
returns-clause-answer g c =
    let none = uncut_seen c.args.self.now.cuts.items c.args.number (uncut c.args.self.now.cuts.items c.deref.result.now c.args.number c.is_cut.result c.deref.ensures.value c.is_cut.ensures c.if-is_cut.false) in
    let runs = is_running (slice_get (map progress_of c.args.self.now.slots.stages.items) c.args.number) in
    c.hand_in.ensures.answer ∙ ap (λ b. cond b (Ok tt) (Err Stranger)) (sym (ap (λ o. runs && is_none o) none ∙ and_true runs))
