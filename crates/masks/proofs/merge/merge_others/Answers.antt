use Rattle.std.proofs.Common.{◌≡◌, ◌⊎◌, ◌<◌, ◌≤◌, length, get_or, refl, inl, inr, arith}
use mir.Val.{bool_byte}
use Rattle.masks.proofs.Merges.{along_none, left_along, right_along, along_all, side_along}
use Rattle.masks.proofs.merge.merge_others.Goals as goal
use Rattle.masks.proofs.merge.merge_others.Goals.{then-p-q, else-p-q}

pub loop-i-init : goal.loop-i-init
loop-i-init c = along_none c.args.left.now c.args.left_words.now c.args.right.now c.args.right_words.now c.args.inner.now c.args.lefts.now c.args.rights.now c.args.sides.now

pub loop-i-2-preserved : goal.loop-i-2-preserved
loop-i-2-preserved c =
    let s = c.loop-i-2 in
    let some = c.loop-i-2-test.true in
    let done : length c.args.right.now ≤ c.loop-i.j = s.invariant.right_done some in
    record {
      along = left_along c.args.left.now c.args.left_words.now c.args.right.now c.args.right_words.now s.i c.loop-i.j s.k s.inner s.lefts s.rights s.sides 0 s.invariant.along c.requires.left_words c.requires.right_words c.requires.left_rises c.requires.right_rises (omega arith) (omega arith) (omega arith) (omega arith) some (λ more. absurd (omega arith));
      right_done = λ more. done;
    }

pub loop-j-preserved : goal.loop-j-preserved
loop-j-preserved c =
    let s = c.loop-j in
    let some = c.loop-j-test.true in
    let done : length c.args.left.now ≤ c.loop-i-2.i = s.invariant.left_done in
    record {
      along = right_along c.args.left.now c.args.left_words.now c.args.right.now c.args.right_words.now c.loop-i-2.i s.j s.k s.inner s.lefts s.rights s.sides 0 s.invariant.along c.requires.left_words c.requires.right_words c.requires.left_rises c.requires.right_rises (omega arith) (omega arith) (omega arith) (omega arith) some (λ more. absurd (omega arith));
      left_done = done;
    }

pub returns-clause-merged : goal.returns-clause-merged
returns-clause-merged c =
    let s = c.loop-j in
    let here = s.invariant.along in
    let room = here.room in
    let a_in = here.a_in in
    let b_in = here.b_in in
    along_all c.args.left.now c.args.left_words.now c.args.right.now c.args.right_words.now c.loop-i-2.i s.j s.k s.inner s.lefts s.rights s.sides here c.requires.left_words c.requires.right_words s.invariant.left_done c.loop-j-test.false (omega arith)

chosen : (c : goal.After-from-in-loop-i-3)
    → ((get_or c.args.left.now c.loop-i.i 0 < get_or c.args.right.now c.loop-i.j 0) × (c.if-p-q.inner ≡ get_or c.args.left.now c.loop-i.i 0)) ⊎ ((get_or c.args.right.now c.loop-i.j 0 ≤ get_or c.args.left.now c.loop-i.i 0) × (c.if-p-q.inner ≡ get_or c.args.right.now c.loop-i.j 0))
chosen c =
    elim c.if-p-q.branch [
      | then-p-q w ↦ inl (w.if-p-q.true, w.inner-is)
      | else-p-q w ↦ inr (w.if-p-q.false, w.inner-is)
    ]

pub loop-i-preserved : goal.loop-i-preserved
loop-i-preserved c =
    let s = c.loop-i in
    side_along c.args.left.now c.args.left_words.now c.args.right.now c.args.right_words.now s.i s.j s.k s.inner s.lefts s.rights s.sides c.if-p-q.inner c.from.result c.from-in-loop-i.result c.from-in-loop-i-2.result c.from-in-loop-i-3.result bool_byte
    s.invariant c.requires.left_words c.requires.right_words c.requires.left_rises c.requires.right_rises (omega arith) (omega arith) (omega arith) (omega arith) c.loop-i-test.true c.if-j-right.true (chosen c) c.from.ensures c.from-in-loop-i.ensures c.from-in-loop-i-2.ensures c.from-in-loop-i-3.ensures refl refl
