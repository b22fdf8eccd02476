use Rattle.std.proofs.Common.{◌≡◌, ◌++◌, List, length, map}
use Rattle.model.specs.declared.entry.Entry.{Entry}
use Rattle.model.specs.Entries.{entries_of}
use Rattle.session.specs.Listed.{tuple_of}
use Rattle.store.specs.Stored.{content_of}
use Rattle.session.proofs.listing.listed.Given as goal

-- the tuples of the rows so far are there
abbrev pub invariant-loop-row : goal.invariant-loop-row
invariant-loop-row l = record {
  done : List Entry;
  split : entries_of l.store.rows l.store.cols (content_of l.store) ≡ done ++ l.rest.entries;
  listed : l.tuples.items ≡ map (tuple_of l.domain) done;
}

abbrev pub decreases-loop-row : goal.decreases-loop-row
decreases-loop-row l = length l.rest.entries
