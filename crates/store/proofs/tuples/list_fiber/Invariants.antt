use Rattle.std.proofs.Common.{◌≡◌, ◌++◌, take}
use Rattle.store.specs.Fibers.{entries_along}
use Rattle.store.proofs.tuples.list_fiber.Given as goal

-- the entries so far are listed
abbrev pub invariant-loop-k : goal.invariant-loop-k
invariant-loop-k l = l.list.items ≡ l.initial.list.items ++ take l.k (entries_along l.row l.cols l.words)
