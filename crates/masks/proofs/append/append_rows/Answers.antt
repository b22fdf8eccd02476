-- Rows from here on stand behind those so far.
use Rattle.std.proofs.Common.{rules}
use Rattle.store.specs.Fibers.{entries_in}
use Rattle.store.specs.Stored.{AreIn, along, content_of}
use Rattle.store.proofs.PartLaws.{part_behind}
use Rattle.store.proofs.RowEntries.{entries_between-inside}
use Rattle.masks.proofs.Joins.{on_ok_both}
use Rattle.masks.proofs.append.append_rows.Goals as goal
use Rattle.masks.proofs.append.append_rows.Goals.{After-fibers_near-fibers}

are_inside : (c : After-fibers_near-fibers)
    → AreIn c.args.range.start c.args.range.end c.args.store.now.cols (along c.args.store.now.cols c.fibers_near-fibers.result.0.entries)
are_inside c = rw c.fibers_near-fibers.ensures.entries (entries_between-inside c.args.range.start c.args.range.end c.args.store.now.cols (content_of c.args.store.now))

pub append_walk-requires-clause-order : goal.append_walk-requires-clause-order
append_walk-requires-clause-order c =
    part_behind 0 c.args.range.start c.args.range.end c.args.store.now.cols (entries_in c.args.lists.now) c.fibers_near-fibers.result.0.entries c.requires.front (are_inside (search rules))

pub returns : goal.returns
returns c =
    on_ok_both c.append_walk.result
    (λ flat entries. record {
      flat = flat;
      part = c.fibers_near-fibers.result.0.entries;
      whole = entries;
      inside = are_inside (search rules);
      words = c.fibers_near-fibers.ensures.words;
    })
    c.append_walk.ensures.flat c.append_walk.ensures.entries
