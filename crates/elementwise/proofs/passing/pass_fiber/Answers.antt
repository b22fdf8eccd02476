use Rattle.std.proofs.Common.{◌≤◌, ◌+◌, take, arith}
use Rattle.elementwise.specs.Kept.{is_passed}
use Rattle.elementwise.proofs.Passed.{fiber_indices, fiber_words, part_indices, part_words}
use Rattle.elementwise.proofs.passing.pass_fiber.Goals as goal

pub loop-start-preserved : goal.loop-start-preserved
loop-start-preserved c =
    let s = c.loop-start in
    let test = is_passed c.args.test c.args.outer in
    let few = c.min.ensures in
    let within = s.invariant.within in
    let up : s.start ≤ s.start + c.min.result = omega arith in
    let was = c.args.kept.now in
    let now = c.append.new.self in
    record {
      within = omega arith;
      held = c.in_ok-append.ensures.held;
      indices = part_indices test c.args.inner.now c.args.words.now (take was.count was.inner.items) (take s.kept.count s.kept.inner.items) (take now.count now.inner.items) s.start (s.start + c.min.result) c.requires.lengths up s.invariant.indices c.in_ok-append.ensures.inner;
      beside = part_words test c.args.inner.now c.args.words.now (take was.count was.words.items) (take s.kept.count s.kept.words.items) (take now.count now.words.items) s.start (s.start + c.min.result) c.requires.lengths up s.invariant.beside c.in_ok-append.ensures.words;
    }

pub returns-clause-inner : goal.returns-clause-inner
returns-clause-inner c =
    let s = c.loop-start in
    let done = c.loop-start-test.false in
    let was = c.args.kept.now in
    fiber_indices (is_passed c.args.test c.args.outer) c.args.inner.now c.args.words.now (take was.count was.inner.items) (take s.kept.count s.kept.inner.items) s.start (omega arith) s.invariant.indices

pub returns-clause-words : goal.returns-clause-words
returns-clause-words c =
    let s = c.loop-start in
    let done = c.loop-start-test.false in
    let was = c.args.kept.now in
    fiber_words (is_passed c.args.test c.args.outer) c.args.inner.now c.args.words.now (take was.count was.words.items) (take s.kept.count s.kept.words.items) s.start (omega arith) s.invariant.beside
