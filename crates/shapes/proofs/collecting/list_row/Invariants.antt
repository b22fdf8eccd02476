use Rattle.std.proofs.Common.{◌≡◌, ◌++◌, take}
use Rattle.store.specs.Fibers.{entries_along}
use Rattle.store.specs.Stored.{content_of}
use Rattle.shapes.specs.Collects.{collected}
use Rattle.shapes.proofs.collecting.list_row.Given as goal

abbrev pub invariant-loop-k : goal.invariant-loop-k
invariant-loop-k l = l.entries.items ≡ l.fn.entries.items ++ collected l.index l.places.store.cols (content_of l.places.store) (take l.k (entries_along 0 l.cols l.words))
