use Rattle.std.proofs.Common.{◌≡◌}
use Rattle.model.specs.Entries.{entries_of}
use Rattle.plain.proofs.grid.entries.Given as goal

-- the entries of the rows so far
abbrev pub invariant-loop-row : goal.invariant-loop-row
invariant-loop-row g l = l.out.items ≡ entries_of l.row l.cols (g.M.Mapping.content l.mapping)
