use Rattle.std.proofs.Common.{◌∙◌, ap, arith, length, map, refl, sym}
use Rattle.std.proofs.Math.Logic.{∥∥₁_elim}
use Rattle.std.specs.Option.{option_map}
use Rattle.board.specs.Boards.{view_of}
use Rattle.board.proofs.CutProps.{cuts-prop}
use Rattle.std.proofs.Math.Nat.{mod-lt}
use Rattle.std.proofs.Common.{◌%◌}
use Rattle.board.proofs.CutLaws.{open_unready}
use Rattle.board.proofs.PartedLaws.{count_offered, found_at, opens}
use Rattle.stages.proofs.ReadyLaws.{offered_is}
use Rattle.stages.specs.Views.{is_ready}
use Rattle.board.specs.Cuts.{cutting_of}
use Rattle.board.proofs.board.Board.picked.Goals as goal

pub picked_at-requires : goal.picked_at-requires
picked_at-requires g c =
    let are = ∥∥₁_elim c.args.self.now.cut_are (cuts-prop _ _ _) (λ are. are) in
    let low = mod-lt c.args.pick {m = c.offers-count.result} (omega (arith, c.if-count-eq0.false)) in
    omega (arith, low, c.offers-count.ensures, ap length c.ready.ensures, ap length c.args.self.now.parted_are, count_offered (view_of c.args.self.now) c.args.self.now.cuts.items are)

pub returns-clause-found : goal.returns-clause-found
returns-clause-found g c =
    let are = ∥∥₁_elim c.args.self.now.cut_are (cuts-prop _ _ _) (λ are. are) in
    let v = view_of c.args.self.now in
    found_at v (map (option_map cutting_of) c.args.self.now.cuts.items) c.args.pick c.offers-count.result (c.args.pick % c.offers-count.result) c.picked_at.result c.offers-count.ensures refl
    (c.picked_at.ensures (is_ready v.tasks v.progress) (opens c.args.self.now.cuts.items) (length v.tasks)
    (c.ready.ensures ∙ sym (offered_is v.tasks v.progress)) c.args.self.now.parted_are (open_unready v.tasks v.progress c.args.self.now.cuts.items are))
