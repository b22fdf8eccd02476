use Rattle.std.proofs.Common.{◌≡◌, ◌++◌, map, take}
use Rattle.store.specs.Fibers.{entries_along}
use Rattle.shapes.specs.Places.{nth_index}
use Rattle.shapes.proofs.assigning.place_row.Given as goal

abbrev pub invariant-loop-k : goal.invariant-loop-k
invariant-loop-k l = l.entries.items ≡ l.fn.entries.items ++ take l.k (entries_along l.index (map (nth_index l.cols) l.row.cols.now) l.row.words.now)
