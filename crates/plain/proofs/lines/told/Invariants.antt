-- The lines so far and those that are left say what all lines say.
use Rattle.std.proofs.Common.{◌≡◌, ◌++◌, length, map}
use Rattle.model.specs.Grammar.{words_of}
use Rattle.model.specs.MatrixMarket.{told_lines}
use Rattle.plain.specs.Files.{lines_in, texts_in}
use Rattle.plain.proofs.lines.told.Given as goal

abbrev pub invariant-loop-left : goal.invariant-loop-left
invariant-loop-left l = lines_in l.told.items ++ told_lines (map words_of (texts_in l.left)) ≡ told_lines (map words_of (texts_in l.lines))

abbrev pub decreases-loop-left : goal.decreases-loop-left
decreases-loop-left l = length l.left
