-- One step more beside the mask's fiber, and behind it.
use Rattle.std.proofs.Common.{◌+◌, ◌<◌, ◌≤◌, length, refl, arith}
use mir.Val.{bool_byte}
use Rattle.masks.proofs.KeptFiber.{kept_all, kept_none, one_behind, one_step, some_passed}
use Rattle.masks.proofs.keep.keep_fiber.Goals as goal

pub loop-at-init : goal.loop-at-init
loop-at-init c = kept_none c.args.test c.args.inner.now c.args.words.now c.args.from c.args.stored_inner.now c.args.stored_words.now c.requires.from c.requires.words c.requires.rising

pub loop-at-preserved : goal.loop-at-preserved
loop-at-preserved c =
    let s = c.loop-at in
    let stepped =
    one_step c.args.test c.args.inner.now c.args.words.now c.args.from c.args.stored_inner.now c.args.stored_words.now s.inner s.words s.kept s.at s.next c.from-kept.result c.from-at.result c.from-next.result c.keeps-is_kept.result bool_byte
    s.invariant c.requires.stored_words c.requires.stored_rising (let test = c.loop-at-test.true in let long = s.invariant.inner_long in omega arith) c.if-next-stored_inner.true c.keeps-is_kept.ensures.kept c.keeps-is_kept.ensures.passed c.from-kept.ensures c.from-at.ensures c.from-next.ensures refl refl in
    some_passed c.args.test c.args.inner.now c.args.words.now c.args.from c.args.stored_inner.now c.args.stored_words.now _ _ (s.kept + c.from-kept.result) (s.at + c.from-at.result) (s.next + c.from-next.result) c.pass_over-next.result
    stepped c.pass_over-next.ensures.bound c.pass_over-next.ensures.passed

pub loop-at-2-preserved : goal.loop-at-2-preserved
loop-at-2-preserved c =
    let s = c.loop-at-2 in
    let here = s.invariant.kept in
    let within : s.at < length s.inner = let test = c.loop-at-2-test.true in let long = here.inner_long in omega arith in
    let over : length c.args.stored_inner.now ≤ c.loop-at.next = s.invariant.over within in
    record {
      kept = one_behind c.args.test c.args.inner.now c.args.words.now c.args.from c.args.stored_inner.now c.args.stored_words.now s.inner s.words s.kept s.at c.loop-at.next c.from-kept-in-loop-at-2.result bool_byte here c.requires.stored_words c.requires.stored_rising within over c.from-kept-in-loop-at-2.ensures refl refl;
      over = λ more. over;
    }

pub returns-clause-kept : goal.returns-clause-kept
returns-clause-kept c =
    let s = c.loop-at-2 in
    kept_all c.args.test c.args.inner.now c.args.words.now c.args.from c.args.stored_inner.now c.args.stored_words.now s.inner s.words s.kept s.at c.loop-at.next s.invariant.kept (let test = c.loop-at-2-test.false in let long = s.invariant.kept.inner_long in omega arith)
