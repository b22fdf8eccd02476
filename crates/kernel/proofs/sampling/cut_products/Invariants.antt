use Rattle.std.proofs.Common.{◌<◌, ◌≤◌}
use Rattle.std.specs.List.{All, AllPairs}
use Rattle.kernel.proofs.sampling.cut_products.Given as goal

-- the rows so far rise up to the last one
abbrev pub invariant-loop : goal.invariant-loop
invariant-loop l = AllPairs (λ row later. row < later) l.rows.items × All (λ row. row ≤ l.row) l.rows.items
