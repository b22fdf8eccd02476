-- The store of all rows has what the recipe means everywhere.
use Rattle.std.proofs.Common.{◌≡◌, ◌∙◌, ℕ}
use Rattle.calls.specs.Recipes.{known_by, known_of, meaning_of}
use Rattle.calls.specs.Stores.{object_with}
use Rattle.kernel.specs.Pieces.{IsPieceOf}
use Rattle.kernel.specs.Takes.{maps_in}
use Rattle.kernel.proofs.PieceLaws.{piece-cols, piece-content, piece-rows, recipe-is_object}
use Rattle.kernel.proofs.TakenLaws.{objects-taken, same-object}
use Rattle.model.specs.Object.{IsObject, rows_of}
use Rattle.store.specs.Stored.{content_of}
use Rattle.kernel.proofs.evaluation.evaluate.Goals as goal

-- the piece has all rows
whole : (c : goal.In_ok-block)
    → IsPieceOf c.args.recipe.now (maps_in c.args.stores.now) 0 (rows_of (known_of c.args.recipe.now).shape) c.in_ok-block.block
whole c = rw (c.rows-rows.ensures, c.signature.ensures) at c.in_ok-block.ensures.piece

pub join-requires : goal.join-requires
join-requires c = piece-rows c.args.recipe.now (maps_in c.args.stores.now) c.in_ok-block.block (whole c)

pub returns-clause-cols : goal.returns-clause-cols
returns-clause-cols c = c.join.ensures.cols ∙ piece-cols c.args.recipe.now (maps_in c.args.stores.now) c.in_ok-block.block (whole c.before)

is_object : (c : goal.After-join)
    → IsObject (object_with (known_of c.args.recipe.now) (meaning_of c.args.recipe.now (maps_in c.args.stores.now)))
is_object c =
    recipe-is_object c.args.recipe.now (maps_in c.args.stores.now)
    (objects-taken (known_by c.args.recipe.now) c.args.stores.now c.requires.inputs)

content : (c : goal.After-join) → (i j : ℕ)
    → content_of c.join.result i j ≡ meaning_of c.args.recipe.now (maps_in c.args.stores.now) i j
content c =
    piece-content c.args.recipe.now (maps_in c.args.stores.now) c.in_ok-block.block c.join.result
    (is_object c) (whole c.before) c.join.ensures.rows
    c.join.ensures.within c.join.ensures.content

pub returns-clause-content : goal.returns-clause-content
returns-clause-content c = content c

pub returns-clause-is_object : goal.returns-clause-is_object
returns-clause-is_object c =
    same-object (known_of c.args.recipe.now) (meaning_of c.args.recipe.now (maps_in c.args.stores.now)) (content_of c.join.result) (content c)
    (is_object c)
