use Rattle.std.proofs.Common.{◌≡◌, ◌++◌}
use Rattle.model.specs.Entries.{row_entries}
use Rattle.plain.proofs.grid.push_row.Given as goal

-- the entries of the columns so far
abbrev pub invariant-loop-col : goal.invariant-loop-col
invariant-loop-col g l = l.out.items ≡ l.initial.out.items ++ row_entries l.col (g.M.Mapping.content l.mapping) l.row
