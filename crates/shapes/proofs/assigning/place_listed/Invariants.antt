use Rattle.std.proofs.Common.{◌≡◌, ◌≤◌, ◌<◌, ℕ, true}
use Rattle.std.specs.List.{filter_map}
use Rattle.model.specs.Entries.{entries_between}
use Rattle.store.specs.Stored.{content_of}
use Rattle.shapes.specs.Places.{is_in, nth_index, placed_entry}
use Rattle.shapes.proofs.assigning.place_listed.Given as goal

abbrev pub invariant-loop-k : goal.invariant-loop-k
invariant-loop-k l = record {
  up : l.low ≤ l.k;
  leads : (p : ℕ) → l.low ≤ p → p < l.k → is_in l.range.start l.range.end (nth_index l.rows p) ≡ true;
  is : l.entries.items ≡ filter_map (placed_entry l.rows l.cols l.range.start l.range.end) (entries_between 0 l.low l.a.cols (content_of l.a));
}
