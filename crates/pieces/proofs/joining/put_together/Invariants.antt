use Rattle.calls.specs.Recipes.{known_of}
use Rattle.model.specs.Object.{cols_of, rows_of}
use Rattle.pieces.proofs.JoiningLaws.{AreUpTo}
use Rattle.pieces.specs.Joints.{IsOfFibers, entries_of}
use Rattle.store.specs.Stored.{along}
use Rattle.pieces.proofs.joining.put_together.Given as goal

-- the rows of the blocks so far
abbrev pub invariant-loop-block : goal.invariant-loop-block
invariant-loop-block g l = record {
  fibers : IsOfFibers l.joint;
  up : AreUpTo (rows_of (known_of l.recipe).shape) (cols_of (known_of l.recipe).shape) l.fn.blocks.items
      l.block-iterator.rest.items (along (cols_of (known_of l.recipe).shape) (entries_of l.joint));
}
