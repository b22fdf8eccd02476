-- One fiber more.
use Rattle.std.proofs.Common.{◌≡◌, ◌∷◌, get_or, length, take, rules, arith, length-take}
use Rattle.store.specs.declared.lists.FiberEnd.{FiberEnd}
use Rattle.elementwise.specs.Kept.{is_passed}
use Rattle.elementwise.proofs.KeptFibers.{IsNextPart, next_part, passing_all, passing_more, passing_none}
use Rattle.elementwise.proofs.passing.keep_fibers.Goals as goal
use Rattle.elementwise.proofs.passing.keep_fibers.Goals.{In-loop-at}

pub loop-at-init : goal.loop-at-init
loop-at-init c =
    let f = c.args.fibers.now in
    let left = c.requires.left in
    record {
      within = omega arith;
      held = rw c.in_ok-kept.ensures.count (omega arith, omega arith);
      passing = rw (c.in_ok-ends.ensures.items, c.in_ok-kept.ensures.count) (passing_none (is_passed c.args.test) f.from (f.head ∷ f.others.now) f.inner.now f.words.now
          (record { same_length = left.same_length; rises = left.rises c.requires.some; whole = left.whole c.requires.some; apart = left.apart }) left.order);
    }

-- where the fiber that is read next ends
next : (c : In-loop-at) (r : FiberEnd)
    → r ≡ get_or (c.args.fibers.now.head ∷ c.args.fibers.now.others.now) c.loop-at.at r
    → IsNextPart c.args.fibers.now.from c.loop-at.start r.end (length c.args.fibers.now.inner.now)
next c r is =
    let f = c.args.fibers.now in
    let s = c.loop-at in
    let within = c.loop-at-test.true in
    next_part (is_passed c.args.test) f.from (f.head ∷ f.others.now) f.inner.now f.words.now s.ends.items (take s.kept.count s.kept.inner.items) (take s.kept.count s.kept.words.items) s.at s.start r s.invariant.passing s.invariant.within (omega arith) is

pub overflow_sub-past : goal.overflow_sub-past
overflow_sub-past c = (next (search rules) c.fiber-outer.result c.fiber-outer.ensures).low

pub slice_bounds-pass_fiber-count : goal.slice_bounds-pass_fiber-count
slice_bounds-pass_fiber-count c = (next (search rules) c.fiber-outer.result c.fiber-outer.ensures).rises

pub slice_bounds-pass_fiber-start : goal.slice_bounds-pass_fiber-start
slice_bounds-pass_fiber-start c = (next (search rules) c.fiber-outer.result c.fiber-outer.ensures).rises

pub slice_bounds-pass_fiber-end : goal.slice_bounds-pass_fiber-end
slice_bounds-pass_fiber-end c = (next (search rules) c.fiber-outer.result c.fiber-outer.ensures).inside

pub slice_bounds-pass_fiber-count-in-loop-at : goal.slice_bounds-pass_fiber-count-in-loop-at
slice_bounds-pass_fiber-count-in-loop-at c = (next (search rules) c.fiber-outer.result c.fiber-outer.ensures).rises

pub slice_bounds-pass_fiber-start-in-loop-at : goal.slice_bounds-pass_fiber-start-in-loop-at
slice_bounds-pass_fiber-start-in-loop-at c = (next (search rules) c.fiber-outer.result c.fiber-outer.ensures).rises

pub loop-at-preserved : goal.loop-at-preserved
loop-at-preserved c =
    let f = c.args.fibers.now in
    let s = c.loop-at in
    let within = c.loop-at-test.true in
    let kept = c.pass_fiber.new.kept in
    let held = c.in_ok-pass_fiber.ensures.held in
    let was_long : length (take s.kept.count s.kept.inner.items) ≡ s.kept.count = let room = s.invariant.held.0 in omega (arith, length-take s.kept.count s.kept.inner.items) in
    let long : length (take kept.count kept.inner.items) ≡ kept.count = let room = held.0 in omega (arith, length-take kept.count kept.inner.items) in
    record {
      within = (next (search rules) c.fiber-outer.result c.fiber-outer.ensures).inside;
      held = held;
      passing = passing_more (is_passed c.args.test) f.from (f.head ∷ f.others.now) f.inner.now f.words.now s.ends.items (take s.kept.count s.kept.inner.items) (take s.kept.count s.kept.words.items) s.at s.start c.fiber-outer.result
          c.close.new.ends.items (take kept.count kept.inner.items) (take kept.count kept.words.items) s.invariant.passing s.invariant.within (omega arith) c.fiber-outer.ensures
          c.in_ok-pass_fiber.ensures.inner c.in_ok-pass_fiber.ensures.words (rw (was_long, long) c.in_ok-close.ensures);
    }

pub returns-clause-entries : goal.returns-clause-entries
returns-clause-entries c =
    let f = c.args.fibers.now in
    let s = c.loop-at in
    let done = c.loop-at-test.false in
    rw (c.into_lists.ensures.ends, c.into_lists.ensures.inner, c.into_lists.ensures.words)
    (passing_all (is_passed c.args.test) f.from (f.head ∷ f.others.now) f.inner.now f.words.now s.ends.items (take s.kept.count s.kept.inner.items) (take s.kept.count s.kept.words.items) s.at s.start s.invariant.passing (omega arith))
