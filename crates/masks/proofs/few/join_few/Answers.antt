use Rattle.std.proofs.Common.{rules, ◌≡◌, arith, length}
use Rattle.masks.specs.Joins.{IsJoin, IsJoinSoFar}
use Rattle.store.specs.Fibers.{AreFlat, entries_along, entries_in}
use Rattle.masks.proofs.FewLaws.{closed_join, join_none, no_more, run_more}
use Rattle.masks.proofs.few.join_few.Goals as goal
use Rattle.masks.proofs.few.join_few.Goals.{After-shrink_to_fit}

pub loop-k-init : goal.loop-k-init
loop-k-init c = rw (c.in_ok-lists.ensures.inner, c.in_ok-lists.ensures.words) (record {
  joined = join_none c.args.by c.args.pair.left.inner.now c.args.pair.left.words.now c.args.pair.right.inner.now c.args.pair.right.words.now;
  none = c.in_ok-lists.ensures.ends;
})

-- the whole of both sides is joined
made : (c : After-shrink_to_fit)
    → AreFlat c.shrink_to_fit.new.self.ends.items c.shrink_to_fit.new.self.inner.items c.shrink_to_fit.new.self.words.items
    × IsJoin c.args.by (entries_along c.args.pair.outer c.args.pair.left.inner.now c.args.pair.left.words.now) (entries_along c.args.pair.outer c.args.pair.right.inner.now c.args.pair.right.words.now) (entries_in c.shrink_to_fit.new.self)
made c =
    let left = c.args.pair.left.inner.now in
    let lw = c.args.pair.left.words.now in
    let right = c.args.pair.right.inner.now in
    let rw' = c.args.pair.right.words.now in
    let s = c.loop-k in
    let here = s.invariant.joined in
    let put = c.in_ok-append_run.ensures in
    let k_in : s.k ≡ length right = omega (arith, c.loop-k-test.false) in
    let all : IsJoinSoFar c.args.by left lw right rw' (length left) s.k c.append_run.new.lists.inner.items c.append_run.new.lists.words.items =
    rw (put.inner, put.words)
    (run_more c.args.by left lw right rw' s.from (length left) s.k s.lists.inner.items s.lists.words.items c.requires.alone c.requires.left_words c.requires.right_words (omega arith) c.requires.left_rises here.high (omega arith)
    (no_more _ right s.k (omega arith)) here) in
    let close = c.in_ok-close.ensures in
    let last = c.shrink_to_fit.ensures in
    rw (last.ends, last.inner, last.words, close.inner, close.words)
    (closed_join c.args.by c.args.pair.outer left lw right rw' (length left) s.k c.close.new.self.ends.items c.append_run.new.lists.inner.items c.append_run.new.lists.words.items c.requires.left_words c.requires.right_words (omega arith) (omega arith) (search rules) all)

pub returns-clause-flat : goal.returns-clause-flat
returns-clause-flat c = (made (search rules)).0

pub returns-clause-joined : goal.returns-clause-joined
returns-clause-joined c = (made (search rules)).1
