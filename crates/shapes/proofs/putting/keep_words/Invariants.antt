use Rattle.shapes.specs.Sides.{HasKept}
use Rattle.shapes.proofs.putting.keep_words.Given as goal

abbrev pub invariant-loop-k : goal.invariant-loop-k
invariant-loop-k l = HasKept l.inside l.members.sorted.now l.cols l.words l.k l.fn.lists l.lists
