-- Rows from here on stand behind those so far.
use Rattle.std.proofs.Common.{◌≡◌, ◌<◌, ◌≤◌, ℕ, List, rules, take}
use Rattle.model.specs.declared.entry.Entry.{Entry}
use Rattle.model.specs.Entries.{word_at}
use Rattle.store.specs.Fibers.{entries_from, entries_in}
use Rattle.store.specs.Stored.{AreIn, along, content_of}
use Rattle.store.proofs.PartLaws.{part_behind}
use Rattle.store.proofs.RowEntries.{entries_between-inside}
use Rattle.masks.specs.Joins.{joined}
use Rattle.masks.proofs.FewLaws.{rows_joined}
use Rattle.masks.proofs.Joins.{on_ok_both}
use Rattle.masks.proofs.join.join_part.Goals as goal
use Rattle.masks.proofs.join.join_part.Goals.{After-deref-3}

-- the entries of the places
abbrev made : (c : After-deref-3) → List Entry
made c =
    let lists = c.join_fibers.new.places.lists in
    entries_from 0 lists.ends.items (take c.in_ok-count.count lists.inner.items) lists.words.items

-- they are the rows
are_rows : (c : After-deref-3)
    → AreIn c.args.range.start c.args.range.end c.args.left.now.cols (along c.args.left.now.cols (made c))
    × ((i j : ℕ) → c.args.range.start ≤ i → i < c.args.range.end → word_at (along c.args.left.now.cols (made c)) i j
    ≡ joined c.args.by (content_of c.args.left.now) (content_of c.args.right.now) i j)
are_rows c =
    let left = content_of c.args.left.now in
    let right = content_of c.args.right.now in
    let first = c.args.range.start in
    let past = c.args.range.end in
    let cols = c.args.left.now.cols in
    let a = c.fibers_near-lefts in
    let b = c.fibers_near-rights in
    rows_joined c.args.by left right first past cols a.result.0.entries b.result.0.entries (made c) c.in_ok-count.ensures.joined.joined
    (rw a.ensures.entries (entries_between-inside first past cols left))
    (rw c.requires.cols (rw b.ensures.entries (entries_between-inside first past c.args.right.now.cols right)))
    a.ensures.words (rw c.requires.cols b.ensures.words)

pub append-requires-clause-order : goal.append-requires-clause-order
append-requires-clause-order c =
    rw (c.deref.ensures.value, c.deref-2.ensures.value, c.deref-3.ensures.value)
    (part_behind 0 c.args.range.start c.args.range.end c.args.left.now.cols (entries_in c.args.lists.now) (made (search rules)) c.requires.front (are_rows (search rules)).0)

pub returns : goal.returns
returns c =
    let rows = are_rows (search rules) in
    on_ok_both c.append.result
    (λ flat entries. record {
      flat = flat;
      part = made (search rules);
      whole = rw (c.deref.ensures.value, c.deref-2.ensures.value, c.deref-3.ensures.value) at entries;
      inside = rows.0;
      words = rows.1;
    })
    c.append.ensures.flat c.append.ensures.entries
