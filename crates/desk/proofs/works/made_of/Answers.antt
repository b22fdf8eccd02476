-- The block has all rows.
use Rattle.std.proofs.Common.{◌≡◌, ◌∙◌, ap, subst, sym}
use Rattle.board.specs.Pieces.{maps_in, recipe_of}
use Rattle.calls.specs.declared.recipe.Recipe.{Recipe}
use Rattle.calls.specs.Recipes.{known_of}
use Rattle.desk.specs.Works.{object_by}
use Rattle.desk.proofs.WorkLaws.{store_for, whole}
use Rattle.kernel.specs.Pieces.{HasAllRows}
use Rattle.kernel.proofs.PieceLaws.{piece-rows}
use Rattle.model.specs.Object.{rows_of}
use Rattle.runner.specs.Tickets.{IsStoreFor}
use Rattle.store.specs.Stored.{Stored}
use Rattle.desk.proofs.works.made_of.Goals as goal

pub join-requires : goal.join-requires
join-requires g c =
    let piece = c.args.piece.now in
    let same : c.get.result.now ≡ recipe_of piece.recipe = c.get.ensures ∙ ap recipe_of c.block_by.ensures.recipe in
    subst (λ (r : Recipe). HasAllRows r c.in_ok-block.block) (sym same)
    (piece-rows (recipe_of piece.recipe) (maps_in piece.inputs) c.in_ok-block.block
    (whole piece c.requires.work c.requires.whole c.in_ok-block.block c.in_ok-block.ensures.block))

pub returns : goal.returns
returns g c =
    let piece = c.args.piece.now in
    let same : c.get.result.now ≡ recipe_of piece.recipe = c.get.ensures ∙ ap recipe_of c.block_by.ensures.recipe in
    subst (λ (s : Stored). IsStoreFor (object_by piece) s) (sym c.in_ok-new.ensures.ok)
    (store_for piece c.requires.work c.requires.whole c.in_ok-block.block c.in_ok-block.ensures.block c.join.result
    (c.join.ensures.rows ∙ ap (λ (r : Recipe). rows_of (known_of r).shape) same) c.join.ensures.cols c.join.ensures.content
    c.join.ensures.within)
