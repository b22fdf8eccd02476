use Rattle.std.proofs.Common.{◌<◌, ◌≤◌}
use Rattle.std.specs.List.{All, AllPairs}
use Rattle.kernel.proofs.cutting.cut_evenly.Given as goal

-- the rows so far rise up to the last one
abbrev pub invariant-loop-piece : goal.invariant-loop-piece
invariant-loop-piece l = AllPairs (λ row later. row < later) l.cuts.items × All (λ row. row ≤ l.last) l.cuts.items
