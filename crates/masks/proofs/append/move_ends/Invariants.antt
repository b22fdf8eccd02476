use Rattle.std.proofs.Common.{◌≡◌, ◌++◌, map, take, drop}
use Rattle.store.specs.Fibers.{end_back, end_on}
use Rattle.masks.proofs.append.move_ends.Given as goal

abbrev pub invariant-loop-fiber : goal.invariant-loop-fiber
invariant-loop-fiber l = l.ends ≡ map (λ r. end_on l.to (end_back l.from r)) (take l.fiber-index l.fn.ends) ++ drop l.fiber-index l.fn.ends
