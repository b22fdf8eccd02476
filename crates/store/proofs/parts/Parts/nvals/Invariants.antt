use Rattle.std.proofs.Common.{◌≡◌, length, take}
use Rattle.store.specs.Blocks.{entries_in_parts}
use Rattle.store.proofs.parts.Parts.nvals.Given as goal

abbrev pub invariant-loop-k : goal.invariant-loop-k
invariant-loop-k l = l.count ≡ length (entries_in_parts (take l.k l.self-inside.stores.now))
