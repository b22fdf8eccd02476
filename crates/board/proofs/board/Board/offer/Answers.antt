use Rattle.std.proofs.Common.{◌≡◌, ◌∙◌, Some, ap, arith, length, refl, slice_get, subst, sym}
use Rattle.std.proofs.Math.Logic.{∥∥₁_elim}
use Rattle.std.proofs.lemmas.Option.{slice_get_read, slice_get_within}
use Rattle.board.specs.Boards.{cuts_of, view_of}
use Rattle.board.specs.Cuts.{IsFound, picked_on}
use Rattle.stages.specs.Views.{offered}
use Rattle.board.specs.declared.picking.Picked.{Picked}
use Rattle.board.proofs.CutLaws.{open_within}
use Rattle.board.proofs.CutProps.{cuts-prop}
use Rattle.stages.proofs.ReadyLaws.{offered_at}
use Rattle.board.proofs.board.Board.offer.Goals as goal

pub offer_of-requires : goal.offer_of-requires
offer_of-requires g c =
    let v = view_of c.args.self.now in
    let found = subst (λ (x : Picked). IsFound v (cuts_of c.args.self.now) c.args.pick x) c.in-Ready.is c.in_ok-at.ensures.found in
    let within = slice_get_within (offered v.tasks v.progress) c.in-Ready.at _ found in
    let there = slice_get_read c.ready.result.now.items (length c.ready.result.now.items) c.in-Ready.at c.index.result.now refl (omega (arith, within, ap length c.ready.ensures)) c.index.ensures in
    (offered_at v.tasks v.progress c.in-Ready.at c.index.result.now (ap (λ l. slice_get l c.in-Ready.at) (sym c.ready.ensures) ∙ there)).0

pub offer_of-requires-in-Open : goal.offer_of-requires-in-Open
offer_of-requires-in-Open g c =
    let found = subst (λ (x : Picked). IsFound (view_of c.args.self.now) (cuts_of c.args.self.now) c.args.pick x) c.in-Open.is c.in_ok-at.ensures.found in
    let are = ∥∥₁_elim c.args.self.now.cut_are (cuts-prop _ _ _) (λ are. are) in
    let within = open_within c.args.self.now.cuts.items c.in-Open.number found.1 in
    let n = are.sized in
    omega (arith, within, n)

pub returns-in-Ready-clause-number : goal.returns-in-Ready-clause-number
returns-in-Ready-clause-number g c =
    let v = view_of c.args.self.now in
    let found = subst (λ (x : Picked). IsFound v (cuts_of c.args.self.now) c.args.pick x) c.in-Ready.is c.in_ok-at.ensures.found in
    let within = slice_get_within (offered v.tasks v.progress) c.in-Ready.at _ found in
    let there = slice_get_read c.ready.result.now.items (length c.ready.result.now.items) c.in-Ready.at c.index.result.now refl (omega (arith, within, ap length c.ready.ensures)) c.index.ensures in
    let same : Some c.index.result.now ≡ Some (picked_on v (cuts_of c.args.self.now) c.args.pick) = sym there ∙ (ap (λ l. slice_get l c.in-Ready.at) c.ready.ensures ∙ found) in
    c.offer_of.ensures.number ∙ cc (same)
