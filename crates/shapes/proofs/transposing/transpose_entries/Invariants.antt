use Rattle.std.proofs.Common.{◌≡◌, ◌++◌, drop}
use Rattle.model.specs.Entries.{entries_between}
use Rattle.store.specs.Stored.{content_of, transposed}
use Rattle.shapes.specs.Columns.{entries_of_stores}
use Rattle.shapes.proofs.transposing.transpose_entries.Given as goal

abbrev pub invariant-loop-k : goal.invariant-loop-k
invariant-loop-k l = l.entries.items ++ transposed (entries_of_stores (drop l.k l.stores))
    ≡ transposed (entries_between 0 l.a.rows l.a.cols (content_of l.a))
