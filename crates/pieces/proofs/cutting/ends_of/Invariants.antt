use Rattle.std.proofs.Common.{◌≡◌, ◌++◌, drop}
use Rattle.pieces.specs.Parts.{used_cuts}
use Rattle.pieces.proofs.cutting.ends_of.Given as goal

-- the ends so far, and those at what is left of the cuts
abbrev pub invariant-loop-cut : goal.invariant-loop-cut
invariant-loop-cut l = l.ends.items ++ used_cuts l.last l.rows (drop l.cut-index l.cuts) ≡ used_cuts 0 l.rows l.cuts
