-- What is left to do of work that was handed in.
use Rattle.std.specs.Prelude.{List, None, Option, Some}
use Rattle.journal.specs.declared.journal.Naming.{Ghosts}
use Rattle.kernel.specs.declared.block.Block.{Block}
use Rattle.tasks.specs.declared.work.Left.{Left}
use Rattle.tasks.specs.declared.work.Left.TheVariants.{Joint, Spent}

-- the blocks that are to be joined
abbrev pub blocks_in : {J : Type 0} {naming : Ghosts J} → Left J naming → Option (List Block)
blocks_in (Spent piece) = None
blocks_in (Joint joint) = Some joint.blocks.items
