use Rattle.std.proofs.Common.{◌<◌, ◌≤◌}
use Rattle.std.specs.List.{All, AllPairs}
use Rattle.kernel.proofs.cutting.cut_columns.Given as goal

-- the columns so far rise up to the last one
abbrev pub invariant-loop-piece : goal.invariant-loop-piece
invariant-loop-piece l = AllPairs (λ column later. column < later) l.columns.items × All (λ column. column ≤ l.last) l.columns.items
