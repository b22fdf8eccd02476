use Rattle.std.proofs.Common.{◌≡◌}
use Rattle.calls.specs.Recipes.{known_of}
use Rattle.model.specs.Object.{cols_of, rows_of}
use Rattle.pieces.proofs.JoiningLaws.{AreUpTo}
use Rattle.pieces.proofs.joining.keep_apart.Given as goal

-- the rows of the blocks so far
abbrev pub invariant-loop-block : goal.invariant-loop-block
invariant-loop-block l = record {
  rows : l.kept.rows ≡ rows_of (known_of l.recipe).shape;
  cols : l.kept.cols ≡ cols_of (known_of l.recipe).shape;
  up : AreUpTo (rows_of (known_of l.recipe).shape) (cols_of (known_of l.recipe).shape) l.fn.blocks.items
      l.block-iterator.rest.items l.kept.entries;
}
