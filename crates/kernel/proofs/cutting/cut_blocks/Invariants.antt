use Rattle.std.proofs.Common.{◌<◌, ◌≤◌}
use Rattle.std.specs.List.{All, AllPairs}
use Rattle.kernel.proofs.cutting.cut_blocks.Given as goal

-- the rows so far rise up to the last one
abbrev pub invariant-loop-at : goal.invariant-loop-at
invariant-loop-at l = AllPairs (λ row later. row < later) l.rows.items × All (λ row. row ≤ l.last) l.rows.items
