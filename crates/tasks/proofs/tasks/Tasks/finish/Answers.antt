-- What came of work is of the object of its slot; and blocks that are left are all of it.
use Rattle.std.proofs.Common.{subst, sym}
use mathlib.Core.Logic.{∥∥₁_map}
use Rattle.std.proofs.Math.Logic.{∥∥₁_elim}
use Rattle.board.specs.Boards.{cuts_of, view_of}
use Rattle.board.specs.Cuts.{at_slot}
use Rattle.board.specs.Pieces.{recipe_of}
use Rattle.stages.specs.Tasks.{object_at}
use Rattle.history.specs.Histories.{object_of}
use Rattle.model.specs.Object.{Object}
use Rattle.tasks.proofs.EndLaws.{left_recipe}
use Rattle.tasks.proofs.WorkLaws.{outcome-prop}
use Rattle.tasks.specs.Outcomes.{AreAll, IsOutcomeOf}
use Rattle.tasks.proofs.tasks.Tasks.finish.Goals as goal

pub end-requires : goal.end-requires
end-requires g c =
    ∥∥₁_elim c.args.finished.right (outcome-prop (object_at (view_of c.args.self.now.board).tasks c.in-Some.slot) c.args.finished.outcome)
    (λ is. subst (λ (o : Object). IsOutcomeOf o c.args.finished.outcome) (sym c.in-Some.ensures.object) is.of)

pub invariant_of-result : goal.invariant_of-result
invariant_of-result g c =
    let board = c.args.self.now.board in
    record {
      right = ∥∥₁_map c.args.finished.right (λ is. record {
        all = subst (λ (o : Object). AreAll o c.in-Some-end.blocks.items) c.in-Some.ensures.object c.in-Some-end.ensures.all;
        from = left_recipe (view_of board) (at_slot (cuts_of board) c.in-Some.slot) c.in-Some.slot c.args.finished.spent.piece c.args.finished.outcome
            c.in-Some-end.blocks.items (object_of c.args.finished.ticket.note) (recipe_of c.args.finished.spent.recipe) c.in-Some-end.ensures.left is.from;
      });
    }
