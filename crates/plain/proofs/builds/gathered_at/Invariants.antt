use Rattle.std.proofs.Common.{◌≡◌, take}
use Rattle.model.specs.Builds.{gathered}
use Rattle.plain.proofs.builds.gathered_at.Given as goal

-- what the entries so far make
abbrev pub invariant-loop-entry : goal.invariant-loop-entry
invariant-loop-entry l = l.made ≡ gathered l.dup (take l.entry-index l.entries) l.row l.col
