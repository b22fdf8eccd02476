use Rattle.shapes.specs.Picks.{HasPicks}
use Rattle.shapes.proofs.extracting.pick_words.Given as goal

abbrev pub invariant-loop-k : goal.invariant-loop-k
invariant-loop-k l = HasPicks l.row_cols l.words l.cols l.k l.fn.lists l.lists
