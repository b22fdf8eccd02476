use Rattle.std.proofs.Common.{◌≤◌, get_or, length, rules, arith}
use Rattle.std.proofs.lemmas.List.{get_or_default}
use Rattle.store.specs.Fibers.{end_at}
use Rattle.elementwise.specs.Mapped.{answer_by, as_they_lie}
use Rattle.elementwise.proofs.Answered.{IsNext, answered_all, answered_more, answered_none, next_answered}
use Rattle.elementwise.proofs.indexed.write_fibers.Goals as goal
use Rattle.elementwise.proofs.indexed.write_fibers.Goals.{In-loop-at}

pub loop-at-init : goal.loop-at-init
loop-at-init c = answered_none (as_they_lie c.args.is_column (answer_by c.args.op c.args.s)) c.args.ends.now c.args.inner.now c.args.words.now c.requires

next : (c : In-loop-at)
    → IsNext c.loop-at.start (get_or c.args.ends.now c.loop-at.at (end_at 0 0)).end (length c.args.inner.now)
next c =
    let s = c.loop-at in
    let ends = c.args.ends.now in
    let within = c.loop-at-test.true in
    let r = get_or ends s.at (end_at 0 0) in
    next_answered (as_they_lie c.args.is_column (answer_by c.args.op c.args.s)) ends c.args.inner.now c.args.words.now s.words s.at s.start r s.invariant within (get_or_default ends s.at (end_at 0 0) r within)

pub offset_bounds-inner-start : goal.offset_bounds-inner-start
offset_bounds-inner-start c =
    let n = next (search rules) in
    let up = n.rises in
    let inside = n.inside in
    search rules

pub slice_bounds-write_fiber-count : goal.slice_bounds-write_fiber-count
slice_bounds-write_fiber-count c = (next (search rules)).rises

pub slice_bounds-write_fiber-start : goal.slice_bounds-write_fiber-start
slice_bounds-write_fiber-start c = (next (search rules)).rises

pub slice_bounds-write_fiber-end : goal.slice_bounds-write_fiber-end
slice_bounds-write_fiber-end c = (next (search rules)).inside

pub offset_bounds-words-start : goal.offset_bounds-words-start
offset_bounds-words-start c =
    let s = c.loop-at in
    let ends = c.args.ends.now in
    let within = c.loop-at-test.true in
    let r = get_or ends s.at (end_at 0 0) in
    let n = next_answered (as_they_lie c.args.is_column (answer_by c.args.op c.args.s)) ends c.args.inner.now c.args.words.now s.words s.at s.start r s.invariant within (get_or_default ends s.at (end_at 0 0) r within) in
    let up = n.rises in
    let inside = n.inside in
    let same = c.requires.same_length in
    let long = s.invariant.long in
    let in_words : s.start ≤ length s.words = omega arith in
    search rules

pub slice_bounds-write_fiber-count-in-loop-at : goal.slice_bounds-write_fiber-count-in-loop-at
slice_bounds-write_fiber-count-in-loop-at c =
    let s = c.loop-at in
    let ends = c.args.ends.now in
    let within = c.loop-at-test.true in
    let r = get_or ends s.at (end_at 0 0) in
    let n = next_answered (as_they_lie c.args.is_column (answer_by c.args.op c.args.s)) ends c.args.inner.now c.args.words.now s.words s.at s.start r s.invariant within (get_or_default ends s.at (end_at 0 0) r within) in
    let up = n.rises in
    let inside = n.inside in
    let same = c.requires.same_length in
    let long = s.invariant.long in
    up

pub slice_bounds-write_fiber-start-in-loop-at : goal.slice_bounds-write_fiber-start-in-loop-at
slice_bounds-write_fiber-start-in-loop-at c =
    let s = c.loop-at in
    let ends = c.args.ends.now in
    let within = c.loop-at-test.true in
    let r = get_or ends s.at (end_at 0 0) in
    let n = next_answered (as_they_lie c.args.is_column (answer_by c.args.op c.args.s)) ends c.args.inner.now c.args.words.now s.words s.at s.start r s.invariant within (get_or_default ends s.at (end_at 0 0) r within) in
    let up = n.rises in
    let inside = n.inside in
    let same = c.requires.same_length in
    let long = s.invariant.long in
    up

pub slice_bounds-write_fiber-end-in-loop-at : goal.slice_bounds-write_fiber-end-in-loop-at
slice_bounds-write_fiber-end-in-loop-at c =
    let s = c.loop-at in
    let ends = c.args.ends.now in
    let within = c.loop-at-test.true in
    let r = get_or ends s.at (end_at 0 0) in
    let n = next_answered (as_they_lie c.args.is_column (answer_by c.args.op c.args.s)) ends c.args.inner.now c.args.words.now s.words s.at s.start r s.invariant within (get_or_default ends s.at (end_at 0 0) r within) in
    let up = n.rises in
    let inside = n.inside in
    let same = c.requires.same_length in
    let long = s.invariant.long in
    let in_words : r.end ≤ length s.words = omega arith in
    in_words

pub loop-at-preserved : goal.loop-at-preserved
loop-at-preserved c =
    let s = c.loop-at in
    let ends = c.args.ends.now in
    let within = c.loop-at-test.true in
    let r = get_or ends s.at (end_at 0 0) in
    answered_more (as_they_lie c.args.is_column (answer_by c.args.op c.args.s)) ends c.args.inner.now c.args.words.now s.words s.at s.start r c.write_fiber.new.words s.invariant within (get_or_default ends s.at (end_at 0 0) r within) c.requires.same_length c.write_fiber.ensures

pub returns-clause-entries : goal.returns-clause-entries
returns-clause-entries c =
    let s = c.loop-at in
    let done = c.loop-at-test.false in
    answered_all (as_they_lie c.args.is_column (answer_by c.args.op c.args.s)) c.args.ends.now c.args.inner.now c.args.words.now s.words s.at s.start s.invariant c.requires (omega arith)

pub returns-clause-length : goal.returns-clause-length
returns-clause-length c = c.loop-at.invariant.long
