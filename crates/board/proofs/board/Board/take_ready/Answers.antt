use Rattle.std.proofs.Common.{◌∙◌, Some, ap, arith, length, map, refl, slice_get, sym}
use Rattle.std.proofs.Math.Logic.{∥∥₁_elim}
use Rattle.std.proofs.lemmas.Option.{slice_get_read}
use Rattle.std.specs.Option.{option_map}
use Rattle.board.specs.Boards.{view_of}
use Rattle.board.specs.Cuts.{at_slot, cutting_of}
use Rattle.board.specs.SlotViews.{slots_view}
use Rattle.stages.specs.Views.{View}
use Rattle.board.proofs.CutLaws.{untaken}
use Rattle.board.proofs.CutProps.{cuts-prop}
use Rattle.board.proofs.OutCuts.{kept_taken, ready_uncut, taken_out, taken_runs}
use Rattle.stages.proofs.ReadyLaws.{offered_at}
use Rattle.board.proofs.board.Board.take_ready.Goals as goal

pub invariant_of-self : goal.invariant_of-self
invariant_of-self g c =
    let v = view_of c.args.self.now in
    let n = c.index-number.result.now in
    let there = ap (λ l. slice_get l c.args.at) (sym c.ready.ensures) ∙ slice_get_read c.ready.result.now.items (length c.ready.result.now.items) c.args.at n refl (omega (arith, c.requires, ap length c.ready.ensures)) c.index-number.ensures in
    let ready = (offered_at v.tasks v.progress c.args.at n there).1 in
    let are = ∥∥₁_elim c.args.self.now.cut_are (cuts-prop _ _ _) (λ are. are) in
    let kept = kept_taken v (slots_view c.take_at.new.self) c.args.self.now.cuts.items c.args.self.now.parted.items n c.take_at.result ready are c.args.self.now.parted_are c.take_at.ensures.taken c.take_at.ensures.refused in
    record { cut_are = ∣ kept.0 ∣₁; parted_are = kept.1 }

pub cut_up-requires-clause-running : goal.cut_up-requires-clause-running
cut_up-requires-clause-running g c =
    let v = view_of c.args.self.now in
    let n = c.index-number.result.now in
    let there = ap (λ l. slice_get l c.args.at) (sym c.ready.ensures) ∙ slice_get_read c.ready.result.now.items (length c.ready.result.now.items) c.args.at n refl (omega (arith, c.requires, ap length c.ready.ensures)) c.index-number.ensures in
    let ready = (offered_at v.tasks v.progress c.args.at n there).1 in
    ap (λ (u : View _). slice_get u.progress c.in-Ok.whole.number) c.in-Ok.ensures.taken
    ∙ (ap (slice_get _) c.in-Ok.ensures.number ∙ taken_runs v n ready)

pub cut_up-requires-clause-uncut : goal.cut_up-requires-clause-uncut
cut_up-requires-clause-uncut g c =
    let v = view_of c.args.self.now in
    let n = c.index-number.result.now in
    let there = ap (λ l. slice_get l c.args.at) (sym c.ready.ensures) ∙ slice_get_read c.ready.result.now.items (length c.ready.result.now.items) c.args.at n refl (omega (arith, c.requires, ap length c.ready.ensures)) c.index-number.ensures in
    let ready = (offered_at v.tasks v.progress c.args.at n there).1 in
    let are = ∥∥₁_elim c.args.self.now.cut_are (cuts-prop _ _ _) (λ are. are) in
    ap (at_slot (map (option_map cutting_of) c.args.self.now.cuts.items)) c.in-Ok.ensures.number
    ∙ ready_uncut v.tasks v.progress c.args.self.now.cuts.items n are (untaken v n ready)

pub returns-in-Ok-clause-number : goal.returns-in-Ok-clause-number
returns-in-Ok-clause-number g c =
    ap (λ l. slice_get l c.args.at) (sym c.ready.ensures) ∙ (slice_get_read c.ready.result.now.items (length c.ready.result.now.items) c.args.at c.index-number.result.now refl (omega (arith, c.requires, ap length c.ready.ensures)) c.index-number.ensures
    ∙ ap Some (sym (c.cut_up.ensures.number ∙ c.in-Ok.ensures.number)))

pub returns-in-Ok-clause-taken : goal.returns-in-Ok-clause-taken
returns-in-Ok-clause-taken g c =
    let v = view_of c.args.self.now in
    let n = c.index-number.result.now in
    let there = ap (λ l. slice_get l c.args.at) (sym c.ready.ensures) ∙ slice_get_read c.ready.result.now.items (length c.ready.result.now.items) c.args.at n refl (omega (arith, c.requires, ap length c.ready.ensures)) c.index-number.ensures in
    let ready = (offered_at v.tasks v.progress c.args.at n there).1 in
    let are = ∥∥₁_elim c.args.self.now.cut_are (cuts-prop _ _ _) (λ are. are) in
    taken_out v (view_of c.cut_up.new.self) (map (option_map cutting_of) c.args.self.now.cuts.items) (map (option_map cutting_of) c.cut_up.new.self.cuts.items) c.args.cuts.now c.cut_up.result n
    (ready_uncut v.tasks v.progress c.args.self.now.cuts.items n are (untaken v n ready)) (c.cut_up.ensures.number ∙ c.in-Ok.ensures.number)
    (c.cut_up.ensures.view ∙ c.in-Ok.ensures.taken) c.cut_up.ensures.cut

pub returns-in-Err-clause-refusing : goal.returns-in-Err-clause-refusing
returns-in-Err-clause-refusing g c =
    ap (λ l. slice_get l c.args.at) (sym c.ready.ensures) ∙ slice_get_read c.ready.result.now.items (length c.ready.result.now.items) c.args.at c.index-number.result.now refl (omega (arith, c.requires, ap length c.ready.ensures)) c.index-number.ensures
