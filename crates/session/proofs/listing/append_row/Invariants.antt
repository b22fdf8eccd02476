use Rattle.std.proofs.Common.{◌≡◌, ◌++◌, map, take}
use Rattle.session.specs.Listed.{tuple_of}
use Rattle.store.specs.Fibers.{entries_along}
use Rattle.session.proofs.listing.append_row.Given as goal

-- the tuples of the entries so far are there
abbrev pub invariant-loop-k : goal.invariant-loop-k
invariant-loop-k l = l.tuples.items ≡ l.initial.tuples.items
    ++ map (tuple_of l.domain) (take l.k (entries_along l.row.index l.row.cols.now l.row.words.now))
