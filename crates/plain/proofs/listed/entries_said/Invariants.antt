use Rattle.std.proofs.Common.{◌≡◌, map, take}
use Rattle.model.specs.MatrixMarket.{entries_said}
use Rattle.plain.specs.Files.{words_in}
use Rattle.plain.proofs.listed.entries_said.Given as goal

-- the entries of the lines so far
abbrev pub invariant-loop-line : goal.invariant-loop-line
invariant-loop-line l = l.entries.items ≡ entries_said l.domain l.heading (map words_in (take l.line-index l.lines))
