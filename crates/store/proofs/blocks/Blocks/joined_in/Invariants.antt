use Rattle.store.proofs.BlockLaws.{AreJoined}
use Rattle.store.proofs.blocks.Blocks.joined_in.Given as goal

abbrev pub invariant-loop-k : goal.invariant-loop-k
invariant-loop-k g l = AreJoined l.self-inside.parts.items l.k l.lists
