-- One fiber more.
use Rattle.std.proofs.Common.{◌∙◌, ◌+◌, ◌-◌, ◌≤◌, get_or, drop, refl, rules, arith, length-take, length-drop}
use Rattle.std.proofs.lemmas.List.{length-set}
use mir.Val.{bool_byte}
use Rattle.store.specs.Fibers.{end_at, entries_from}
use Rattle.masks.proofs.Keeping.{IsNext, keeping_all, keeping_more, keeping_none, lent_part, next_fiber, next_rises}
use Rattle.masks.proofs.FiberMerges.{length_put}
use Rattle.masks.proofs.keep.keep_fibers.Goals as goal
use Rattle.masks.proofs.keep.keep_fibers.Goals.{In-loop-at}

pub loop-at-init : goal.loop-at-init
loop-at-init c = record {
  ends_long = refl;
  inner_long = refl;
  words_long = refl;
  keeping = keeping_none c.args.test c.args.stored.entries c.args.ends.now c.args.inner.now c.args.words.now c.requires;
}

next : (c : In-loop-at)
    → IsNext c.loop-at.ends c.loop-at.inner c.loop-at.at c.loop-at.start (get_or c.loop-at.ends c.loop-at.at (end_at 0 0)).outer (get_or c.loop-at.ends c.loop-at.at (end_at 0 0)).end
next c =
    let s = c.loop-at in
    let within = c.loop-at-test.true in
    let r = get_or s.ends s.at (end_at 0 0) in
    next_fiber c.args.test c.args.stored.entries (entries_from 0 c.args.ends.now c.args.inner.now c.args.words.now) s.rest.entries s.ends s.inner s.words s.at s.fibers s.kept s.start r.outer r.end s.invariant.keeping (let long = s.invariant.ends_long in omega arith) refl

up : (c : In-loop-at) → c.loop-at.kept ≤ (get_or c.loop-at.ends c.loop-at.at (end_at 0 0)).end
up c = let n = next c in let some = n.some in let fewer = c.loop-at.invariant.keeping.fewer in omega arith

pub slice_bounds-keep_fiber-count : goal.slice_bounds-keep_fiber-count
slice_bounds-keep_fiber-count c = up (search rules)

pub slice_bounds-keep_fiber-start : goal.slice_bounds-keep_fiber-start
slice_bounds-keep_fiber-start c = up (search rules)

pub slice_bounds-keep_fiber-end : goal.slice_bounds-keep_fiber-end
slice_bounds-keep_fiber-end c = (next (search rules)).inside

pub slice_bounds-keep_fiber-count-in-loop-at : goal.slice_bounds-keep_fiber-count-in-loop-at
slice_bounds-keep_fiber-count-in-loop-at c = up (search rules)

pub slice_bounds-keep_fiber-start-in-loop-at : goal.slice_bounds-keep_fiber-start-in-loop-at
slice_bounds-keep_fiber-start-in-loop-at c = up (search rules)

pub keep_fiber-count-requires-clause-from : goal.keep_fiber-count-requires-clause-from
keep_fiber-count-requires-clause-from c =
    let s = c.loop-at in
    let n = next (search rules) in
    let some = n.some in
    let inside = n.inside in
    let fewer = s.invariant.keeping.fewer in
    let r = get_or s.ends s.at (end_at 0 0) in
    omega (arith, length-take (r.end - s.kept) (drop s.kept s.inner), length-drop s.kept s.inner)

pub keep_fiber-count-requires-clause-rising : goal.keep_fiber-count-requires-clause-rising
keep_fiber-count-requires-clause-rising c =
    let s = c.loop-at in
    let n = next (search rules) in
    let some = n.some in
    let r = get_or s.ends s.at (end_at 0 0) in
    rw (lent_part s.kept s.start r.end s.inner s.invariant.keeping.fewer (omega arith))
    (next_rises c.args.test c.args.stored.entries (entries_from 0 c.args.ends.now c.args.inner.now c.args.words.now) s.rest.entries s.ends s.inner s.words s.at s.fibers s.kept s.start r.outer r.end s.invariant.keeping n)

pub loop-at-preserved : goal.loop-at-preserved
loop-at-preserved c =
    let s = c.loop-at in
    let within = c.loop-at-test.true in
    let n = next (search rules) in
    let some = n.some in
    let inside = n.inside in
    let fewer = s.invariant.keeping.fewer in
    let r = get_or s.ends s.at (end_at 0 0) in
    let count = c.keep_fiber-count.result in
    let made = c.keep_fiber-count.new in
    let here = s.invariant in
    let long = here.ends_long in
    let words_long = here.keeping.words_long in
    let size = length-drop s.kept s.inner in
    let size_words = length-drop s.kept s.words in
    let cut = length-take (r.end - s.kept) (drop s.kept s.inner) in
    let cut_words = length-take (r.end - s.kept) (drop s.kept s.words) in
    let same = c.keep_fiber-count.ensures.inner_length in
    let same_words = c.keep_fiber-count.ensures.words_length in
    let bound = c.keep_fiber-count.ensures.bound in
    record {
      ends_long = length-set s.ends s.fibers (end_at r.outer (s.kept + count)) ∙ long;
      inner_long = length_put s.kept (r.end - s.kept) s.inner made.inner (omega arith) (omega arith) ∙ here.inner_long;
      words_long = length_put s.kept (r.end - s.kept) s.words made.words (omega arith) (omega arith) ∙ here.words_long;
      keeping =
          keeping_more c.args.test c.args.stored.entries (entries_from 0 c.args.ends.now c.args.inner.now c.args.words.now) s.rest.entries c.seek-behind.result.2.entries s.ends s.inner s.words s.at s.fibers s.kept s.start r.outer r.end count c.from-fibers.result
          c.seek-behind.result.0.now c.seek-behind.result.1.now made.inner made.words bool_byte
          here.keeping (omega arith) refl c.seek-behind.ensures.here c.seek-behind.ensures.behind (omega arith) (omega arith) (omega arith) c.keep_fiber-count.ensures.kept c.from-fibers.ensures refl refl;
    }

pub returns-clause-entries : goal.returns-clause-entries
returns-clause-entries c =
    let s = c.loop-at in
    keeping_all c.args.test c.args.stored.entries (entries_from 0 c.args.ends.now c.args.inner.now c.args.words.now) s.rest.entries s.ends s.inner s.words s.at s.fibers s.kept s.start s.invariant.keeping (let long = s.invariant.ends_long in omega arith)
