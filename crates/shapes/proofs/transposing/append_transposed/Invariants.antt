use Rattle.std.proofs.Common.{◌≡◌, ◌++◌, take}
use Rattle.store.specs.Fibers.{entries_along}
use Rattle.store.specs.Stored.{transposed}
use Rattle.shapes.proofs.transposing.append_transposed.Given as goal

abbrev pub invariant-loop-k : goal.invariant-loop-k
invariant-loop-k l = l.entries.items ≡ l.fn.entries.items ++ take l.k (transposed (entries_along l.row.index l.row.cols.now l.row.words.now))
