use Rattle.std.proofs.Common.{◌≡◌, ◌++◌, drop, take}
use Rattle.store.specs.Stored.{transposed}
use Rattle.patch.proofs.along.transpose.Given as goal

abbrev pub invariant-loop-entry : goal.invariant-loop-entry
invariant-loop-entry l = l.entries ≡ transposed (take l.entry-index l.fn.entries) ++ drop l.entry-index l.fn.entries
