-- The blocks are those of the object that the recipe makes.
use Rattle.std.proofs.Common.{◌≡◌, ◌∙◌, ap, subst, sym}
use denote.Struct.Props.{props}
use mathlib.Core.Logic.{∥∥₁_map}
use Rattle.std.proofs.Math.Logic.{∥∥₁_elim}
use Rattle.board.specs.Pieces.{recipe_of}
use Rattle.calls.specs.declared.recipe.Recipe.{Recipe}
use Rattle.calls.specs.Recipes.{known_of}
use Rattle.history.specs.Histories.{object_of}
use Rattle.kernel.specs.Covers.{Covers}
use Rattle.model.specs.declared.shape.Shape.{Shape}
use Rattle.model.specs.Object.{cols_of, rows_of}
use Rattle.tasks.proofs.WorkLaws.{covers-prop, part_cols}
use Rattle.tasks.specs.Outcomes.{AreParts, IsOutcomeFor}
use Rattle.tasks.proofs.work.Joint.run.Goals as goal

pub joined-outcome-requires-clause-covers : goal.joined-outcome-requires-clause-covers
joined-outcome-requires-clause-covers g c =
    let same : (known_of (recipe_of c.args.self.spent.recipe)).shape ≡ (known_of c.get.result.now).shape =
    ap (λ (r : Recipe). (known_of r).shape) (sym c.get.ensures) in
    ∥∥₁_elim c.args.self.right (covers-prop 0 (rows_of (known_of c.get.result.now).shape) c.args.self.blocks.items)
    (λ are. subst (λ (s : Shape). Covers 0 (rows_of s) c.args.self.blocks.items) (are.from.shape ∙ same) are.all.covers)

pub joined-outcome-requires-clause-cols : goal.joined-outcome-requires-clause-cols
joined-outcome-requires-clause-cols g c = λ k d low.
    let same : (known_of (recipe_of c.args.self.spent.recipe)).shape ≡ (known_of c.get.result.now).shape =
    ap (λ (r : Recipe). (known_of r).shape) (sym c.get.ensures) in
    ∥∥₁_elim c.args.self.right (Prim.hlevel props)
    (λ are. part_cols (cols_of (object_of c.args.self.ticket.note).shape) (object_of c.args.self.ticket.note).content _ (are.all.parts k d low)
    ∙ ap cols_of (are.from.shape ∙ same))

pub invariant_of-result : goal.invariant_of-result
invariant_of-result g c = record {
  right = ∥∥₁_map c.args.self.right (λ are. subst (λ (r : Recipe). IsOutcomeFor (object_of c.args.self.ticket.note) r c.joined-outcome.result) c.get.ensures
      (c.joined-outcome.ensures (object_of c.args.self.ticket.note) (subst (λ (r : Recipe). AreParts (object_of c.args.self.ticket.note) r c.args.self.blocks.items) (sym c.get.ensures) are)));
}
