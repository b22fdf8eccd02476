use Rattle.std.proofs.Common.{◌≡◌, ◌++◌, length}
use Rattle.store.proofs.tuples.list_fibers.Given as goal

-- what is listed and what is left make up the whole
abbrev pub invariant-loop-rest : goal.invariant-loop-rest
invariant-loop-rest l = l.list.items ++ l.rest.entries ≡ l.initial.list.items ++ l.fn.fibers.entries

abbrev pub decreases-loop-rest : goal.decreases-loop-rest
decreases-loop-rest l = length l.rest.entries
