use Rattle.std.proofs.Common.{◌≡◌, ◌++◌, length, map}
use Rattle.model.specs.Entries.{entries_between}
use Rattle.store.specs.Stored.{AreIn, content_of}
use Rattle.shapes.specs.Places.{moved_entry}
use Rattle.shapes.proofs.assigning.place_part.Given as goal

abbrev pub invariant-loop-row : goal.invariant-loop-row
invariant-loop-row l = record {
  inside : AreIn l.fn.part.start l.fn.part.end l.a.cols l.rest.entries;
  is : l.entries.items ++ map (moved_entry l.rows l.cols) l.rest.entries ≡ l.fn.entries.items ++ map (moved_entry l.rows l.cols) (entries_between l.fn.part.start l.fn.part.end l.a.cols (content_of l.a));
}

abbrev pub decreases-loop-row : goal.decreases-loop-row
decreases-loop-row l = length l.rest.entries
