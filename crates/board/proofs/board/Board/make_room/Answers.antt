use Rattle.std.proofs.Common.{ap, arith, length}
use Rattle.std.proofs.Math.Logic.{∥∥₁_elim}
use Rattle.board.specs.Boards.{view_of}
use Rattle.board.proofs.CutProps.{cuts-prop}
use Rattle.stages.proofs.NumberLaws.{length_numbers}
use Rattle.board.proofs.PartedLaws.{opens}
use Rattle.board.proofs.SharedLaws.{cuts_again, parted_again, seen_again}
use Rattle.board.proofs.board.Board.make_room.Goals as goal

pub overflow_sub-more : goal.overflow_sub-more
overflow_sub-more g c =
    let few = length_numbers (opens c.args.self.now.cuts.items) (length (view_of c.args.self.now).tasks) in
    omega (arith, few, c.len.ensures, c.len-2.ensures, ap length c.args.self.now.parted_are)

pub invariant_of-self : goal.invariant_of-self
invariant_of-self g c =
    let are = ∥∥₁_elim c.args.self.now.cut_are (cuts-prop _ _ _) (λ are. are) in
    record {
      cut_are = ∣ cuts_again _ _ c.args.self.now.cuts.items c.make_place.new.cuts.items are (c.make_place.ensures.within _ are.sized c.requires) c.make_place.ensures.same ∣₁;
      parted_are = parted_again c.args.self.now.cuts.items c.make_place.new.cuts.items c.args.self.now.parted.items c.reserve.new.self.items (length (view_of c.args.self.now).tasks) c.make_place.ensures.same c.reserve.ensures.items c.args.self.now.parted_are;
    }

pub returns-then-is_ok-clause-cuts : goal.returns-then-is_ok-clause-cuts
returns-then-is_ok-clause-cuts g c = seen_again c.args.self.now.cuts.items c.make_place.new.cuts.items c.make_place.ensures.same
