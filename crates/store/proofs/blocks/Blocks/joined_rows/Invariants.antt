use Rattle.store.proofs.ChosenLaws.{AreChosen}
use Rattle.store.proofs.blocks.Blocks.joined_rows.Given as goal

abbrev pub invariant-loop-k : goal.invariant-loop-k
invariant-loop-k l =
    AreChosen l.self-inside.rows l.self-inside.cols l.range.start l.range.end l.self-inside.parts.items l.k l.lists
