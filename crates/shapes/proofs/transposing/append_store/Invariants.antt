use Rattle.std.proofs.Common.{◌≡◌, ◌++◌, length}
use Rattle.model.specs.Entries.{entries_between}
use Rattle.store.specs.Stored.{content_of, transposed}
use Rattle.shapes.proofs.transposing.append_store.Given as goal

abbrev pub invariant-loop-row : goal.invariant-loop-row
invariant-loop-row l = l.entries.items ++ transposed l.rest.entries
    ≡ l.fn.entries.items ++ transposed (entries_between 0 l.a.rows l.a.cols (content_of l.a))

abbrev pub decreases-loop-row : goal.decreases-loop-row
decreases-loop-row l = length l.rest.entries
