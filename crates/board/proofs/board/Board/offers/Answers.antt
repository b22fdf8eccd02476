use Rattle.std.proofs.Common.{ap, arith, length}
use Rattle.std.proofs.Math.Logic.{∥∥₁_elim}
use Rattle.board.specs.Boards.{view_of}
use Rattle.board.proofs.CutProps.{cuts-prop}
use Rattle.board.proofs.PartedLaws.{count_offered}
use Rattle.board.proofs.board.Board.offers.Goals as goal

pub returns : goal.returns
returns g c =
    let are = ∥∥₁_elim c.args.self.now.cut_are (cuts-prop _ _ _) (λ are. are) in
    omega (arith, c.len.ensures, c.len-2.ensures, ap length c.ready.ensures, ap length c.args.self.now.parted_are, count_offered (view_of c.args.self.now) c.args.self.now.cuts.items are)
