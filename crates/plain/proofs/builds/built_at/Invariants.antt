use Rattle.std.proofs.Common.{◌≡◌, take}
use Rattle.model.specs.Builds.{built}
use Rattle.plain.proofs.builds.built_at.Given as goal

-- what the tuples so far make
abbrev pub invariant-loop-tuple : goal.invariant-loop-tuple
invariant-loop-tuple l = l.made ≡ built l.dup l.domain (take l.tuple-index l.tuples) l.row l.col
