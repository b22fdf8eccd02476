use Rattle.std.proofs.Common.{rules, ◌<◌, ◌≢◌, arith, get_or, length, take}
use Rattle.masks.specs.Joins.{IsJoinSoFar}
use Rattle.masks.proofs.FewLaws.{before_rest, both_more, first_less, next_left, right_more, run_more}
use Rattle.masks.proofs.few.join_entry.Goals as goal
use Rattle.masks.proofs.few.join_entry.Goals.{In_ok-push, else-at-left-via-then-at-left+else-left-at, else-at-left-via-else-at-left}

-- behind the run
run : (c : In_ok-push)
    → IsJoinSoFar c.args.by c.args.left.inner.now c.args.left.words.now c.args.right.inner.now c.args.right.words.now c.place_from-at.result c.args.k c.append_run.new.lists.inner.items c.append_run.new.lists.words.items
run c =
    let left = c.args.left.inner.now in
    let right = c.args.right.inner.now in
    let k = c.args.k in
    let put = c.in_ok-append_run.ensures in
    let less = c.place_from-at.ensures.passed (first_less (take c.args.from left) right k c.requires.inside c.requires.before.left_right) in
    let below = before_rest (take c.place_from-at.result left) right k c.requires.inside c.requires.right_rises less in
    let k_in = c.requires.inside in
    rw (put.inner, put.words)
    (run_more c.args.by left c.args.left.words.now right c.args.right.words.now c.args.from c.place_from-at.result k c.args.lists.now.inner.items c.args.lists.now.words.items c.requires.alone c.requires.left_words c.requires.right_words (omega arith)
    c.requires.left_rises c.place_from-at.ensures.behind c.place_from-at.ensures.bound below c.requires.before)

pub returns-then-left-at-clause-joined : goal.returns-then-left-at-clause-joined
returns-then-left-at-clause-joined c =
    let here = run (search rules) in
    rw (c.in_ok-push.ensures.items, c.in_ok-push-2.ensures.items, c.word_of_both.ensures)
    (both_more c.args.by c.args.left.inner.now c.args.left.words.now c.args.right.inner.now c.args.right.words.now c.place_from-at.result c.args.k c.append_run.new.lists.inner.items c.append_run.new.lists.words.items
    c.requires.left_words c.requires.right_words c.requires.left_rises c.requires.right_rises c.if-at-left.true c.requires.inside c.if-left-at.true here)

pub returns-clause-joined : goal.returns-clause-joined
returns-clause-joined c =
    let here = run (search rules) in
    let left = c.args.left.inner.now in
    let index = get_or c.args.right.inner.now c.args.k 0 in
    let at = c.place_from-at.result in
    let away : at < length left → get_or left at 0 ≢ index = elim c.else-at-left.branch [
      | else-at-left-via-then-at-left+else-left-at w ↦ λ within. w.if-left-at.false
      | else-at-left-via-else-at-left w ↦ λ within. absurd (omega (arith, w.if-at-left.false))
    ] in
    let before = next_left index left at c.requires.left_rises c.place_from-at.ensures.left away in
    rw (c.in_ok-push.ensures.items, c.in_ok-push-3.ensures.items)
    (right_more c.args.by left c.args.left.words.now c.args.right.inner.now c.args.right.words.now at c.args.k c.append_run.new.lists.inner.items c.append_run.new.lists.words.items
    c.requires.alone c.requires.left_words c.requires.right_words c.requires.right_rises c.requires.inside before here)
