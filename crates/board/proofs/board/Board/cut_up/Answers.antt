use Rattle.std.proofs.Common.{◌∙◌, ap, arith, length, refl, sym}
use Rattle.std.proofs.Math.Logic.{∥∥₁_elim}
use Rattle.std.specs.Option.{option_map}
use Rattle.board.specs.Boards.{view_of}
use Rattle.board.proofs.CutProps.{cuts-prop}
use Rattle.std.proofs.Common.{slice_get, subst, inr, ◌<◌}
use Rattle.std.proofs.lemmas.List.{length-map}
use Rattle.pieces.specs.Parts.{Parts}
use Rattle.board.specs.Cuts.{Parted, cutting_of, has_more}
use Rattle.board.specs.Pieces.{IsPieceFor, rows_for}
use Rattle.stages.specs.Progress.{is_running}
use Rattle.stages.specs.Views.{View}
use Rattle.board.specs.declared.cut.Cut.TheVariants as cut
use Rattle.board.proofs.PartedLaws.{opens, there_by}
use Rattle.board.proofs.SharedLaws.{cuts_put, first_for, goes_cut, more_first, parted_put, put_after, put_some, shared_first}
use Rattle.board.proofs.board.Board.cut_up.Goals as goal

pub invariant_of-self : goal.invariant_of-self
invariant_of-self g c =
    let mid = c.make_room.new.self in
    let k = c.args.whole.number in
    let are = ∥∥₁_elim mid.cut_are (cuts-prop _ _ _) (λ are. are) in
    let view = c.make_room.ensures.view in
    let place = c.if-not-make_room.ensures.place in
    let low : k < length mid.cuts.items = omega (arith, place, length-map mid.cuts.items (option_map cutting_of)) in
    let is = subst (λ (v : View _). IsPieceFor v.tasks c.args.whole) (sym view) c.requires.piece in
    let running = ap (λ (v : View _). slice_get v.progress k) view ∙ c.requires.running in
    let shared = shared_first (view_of mid).tasks k c.args.whole c.in-Ok.task.value c.args.cuts.now is refl c.in-Ok.ensures.recipe c.in-Ok.ensures.inputs c.in-Ok.ensures.pieces in
    let more = ap (λ (p : Parts). has_more (Parted p)) c.in-Ok.ensures.pieces ∙ more_first (rows_for c.args.whole) c.args.cuts.now c.in-Ok.ensures.several in
    record {
      cut_are = ∣ cuts_put _ _ mid.cuts.items k (cut.Underway c.in-Ok.task) are low (running, shared) ∣₁;
      parted_are = parted_put mid.cuts.items c.insert.new.ready.items k (length (view_of mid).tasks) (cut.Underway c.in-Ok.task) low more
          (c.insert.ensures.numbers (opens mid.cuts.items) (length (view_of mid).tasks) mid.parted_are (there_by is_running (view_of mid).progress k (length (view_of mid).tasks) refl (ap is_running running) mid.slots.sound.flows.sized) (let r = c.if-not-make_room.ensures.room in let n = ap (λ (v : View _). length v.tasks) view in omega (arith, r, n)));
    }

pub returns-in-Ok-clause-cut : goal.returns-in-Ok-clause-cut
returns-in-Ok-clause-cut g c =
    let mid = c.make_room.new.self in
    let k = c.args.whole.number in
    let low : k < length mid.cuts.items = omega (arith, c.if-not-make_room.ensures.place, length-map mid.cuts.items (option_map cutting_of)) in
    inr (goes_cut _ _ c.args.whole c.in-Ok.first c.in-Ok.task c.args.cuts.now c.in-Ok.ensures.number c.in-Ok.ensures.first_recipe c.in-Ok.ensures.may c.in-Ok.ensures.several c.in-Ok.ensures.first
    c.in-Ok.ensures.pieces (put_after _ _ _ k _ c.make_room.ensures.cuts (put_some mid.cuts.items k (cut.Underway c.in-Ok.task) low)))

pub returns-in-Ok-clause-piece : goal.returns-in-Ok-clause-piece
returns-in-Ok-clause-piece g c =
    subst (λ (v : View _). IsPieceFor v.tasks c.in-Ok.first) (sym c.make_room.ensures.view)
    (first_for (view_of c.args.self.now).tasks c.args.whole c.in-Ok.first c.requires.piece c.in-Ok.ensures.number c.in-Ok.ensures.first_recipe c.in-Ok.ensures.first_inputs c.in-Ok.ensures.first_rises c.in-Ok.ensures.first_inside)
