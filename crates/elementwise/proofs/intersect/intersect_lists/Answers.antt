use Rattle.std.proofs.Common.{◌≡◌, ◌≤◌, ◌<◌, ◌∙◌, ℕ, refl, take}
use Rattle.algebra.specs.Operators.{eval_of}
use Rattle.model.specs.Entries.{word_at}
use Rattle.store.specs.declared.lists.FiberLists.{FiberLists}
use Rattle.store.specs.Fibers.{AreFlat, entries_from, entries_in}
use Rattle.store.specs.Parts.{HasRows}
use Rattle.store.specs.Stored.{AreIn, along, content_of}
use Rattle.store.proofs.RowEntries.{entries_between-inside}
use Rattle.masks.specs.Joins.{beside}
use Rattle.masks.proofs.Joins.{if_ok_both}
use Rattle.masks.proofs.SamePlaces.{rows_beside}
use Rattle.elementwise.specs.Meets.{met_content}
use Rattle.elementwise.proofs.Meets.{beside_along, rows_met}
use Rattle.elementwise.proofs.intersect.intersect_lists.Goals as goal

pub returns-then-are_alike : goal.returns-then-are_alike
returns-then-are_alike c =
    let f = eval_of c.args.op.kind c.args.op.domain in
    let first = c.args.range.start in
    let past = c.args.range.end in
    let cols = c.args.a.now.cols in
    let a = c.fibers_in-lefts.result.entries in
    let b = c.fibers_in-rights.result.entries in
    let made = met_content c.args.op (content_of c.args.a.now) (content_of c.args.b.now) in
    let same = c.are_alike.ensures.0 c.if-are_alike.true in
    let in_a : AreIn first past cols (along cols a) = rw c.fibers_in-lefts.ensures.entries (entries_between-inside first past cols (content_of c.args.a.now)) in
    let words_b : (i j : ℕ) → first ≤ i → i < past → word_at (along cols b) i j ≡ content_of c.args.b.now i j = rw c.requires.cols c.fibers_in-rights.ensures.words in
    if_ok_both c.join_alike.result (λ (lists : FiberLists). AreFlat lists.ends.items lists.inner.items lists.words.items) (λ (lists : FiberLists). entries_in lists ≡ beside f a b)
    (λ (lists : FiberLists). HasRows made first past cols lists)
    (λ lists flat is. rows_beside made f first past cols a b lists same flat is in_a
    (λ i j low high. beside_along f cols a b i j same ∙ rw (c.fibers_in-lefts.ensures.words i j low high, words_b i j low high) refl))
    c.join_alike.ensures.flat c.join_alike.ensures.entries

pub returns : goal.returns
returns c =
    let first = c.args.range.start in
    let past = c.args.range.end in
    let cols = c.args.a.now.cols in
    let a = c.fibers_in-lefts in
    let b = c.fibers_in-rights in
    let x = content_of c.args.a.now in
    let y = content_of c.args.b.now in
    let lists = c.intersect_fibers.new.pairs.lists in
    let part = entries_from 0 lists.ends.items (take c.in_ok-count.count lists.inner.items) lists.words.items in
    let made = c.in_ok-count.ensures.met in
    let here = c.into_lists.ensures in
    let rows = rows_met c.args.op first past cols a.result.entries b.result.entries part x y made.whole
    (rw a.ensures.entries (entries_between-inside first past cols x)) a.ensures.words (rw c.requires.cols b.ensures.words) in
    record {
      flat = rw (here.ends, here.inner, here.words) made.flat;
      inside = rw (here.ends, here.inner, here.words) rows.0;
      words = rw (here.ends, here.inner, here.words) rows.1;
    }
