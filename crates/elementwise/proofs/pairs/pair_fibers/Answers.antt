use Rattle.std.proofs.Common.{◌≡◌, ◌-◌, length, take, drop, arith, ap, ◌∙◌, length-append, length-take, length-drop}
use Rattle.store.specs.Fibers.{entries_along}
use Rattle.store.proofs.FlatLaws.{all_rows}
use Rattle.store.proofs.Places.{length_row}
use Rattle.masks.proofs.FiberMerges.{length_put, put_take, some_more}
use Rattle.elementwise.proofs.FiberPairs.{paired_all, paired_more, paired_none, paired_same}
use borrow.Rule.Slice.PartMut.{put_mid}
use Rattle.elementwise.proofs.pairs.pair_fibers.Goals as goal

pub loop-right-init : goal.loop-right-init
loop-right-init c = rw c.requires.none (paired_none c.args.left.entries c.args.right.entries c.args.inner.now c.args.lefts.now c.args.rights.now (length c.args.inner.now) c.requires.inner_room (omega arith) c.requires.lefts_room c.requires.rights_room)

pub pair_fiber-found-requires-clause-inner_room : goal.pair_fiber-found-requires-clause-inner_room
pair_fiber-found-requires-clause-inner_room c =
    let outer = c.least-outer.result in
    let p = c.split-left_rest.result in
    let q = c.split-right_rest.result in
    let size_x = ap length c.split-left_rest.ensures.whole in
    let size_y = ap length c.split-right_rest.ensures.whole in
    let here = c.loop-right.invariant in
    let enough = here.enough in
    let long = here.inner_long in
    omega (arith, length-append (entries_along outer p.0.now p.1.now) p.2.entries, length_row outer p.0.now p.1.now c.split-left_rest.ensures.lengths, length-take (length c.loop-right.inner - c.loop-right.count) (drop c.loop-right.count c.loop-right.inner), length-drop c.loop-right.count c.loop-right.inner)

pub loop-right-smaller-in-Continue-1 : goal.loop-right-smaller-in-Continue-1
loop-right-smaller-in-Continue-1 c =
    let outer = c.least-outer.result in
    let p = c.split-left_rest.result in
    let q = c.split-right_rest.result in
    let size_x = ap length c.split-left_rest.ensures.whole in
    let size_y = ap length c.split-right_rest.ensures.whole in
    let some = some_more outer (entries_along outer p.0.now p.1.now) (entries_along outer q.0.now q.1.now) c.loop-right.left.entries c.loop-right.right.entries p.2.entries q.2.entries c.least-outer.ensures.there c.split-left_rest.ensures.whole c.split-right_rest.ensures.whole c.split-left_rest.ensures.behind c.split-right_rest.ensures.behind in
    omega (arith, length-append (entries_along outer p.0.now p.1.now) p.2.entries, length-append (entries_along outer q.0.now q.1.now) q.2.entries)

pub loop-right-smaller : goal.loop-right-smaller
loop-right-smaller c =
    let outer = c.least-outer.result in
    let p = c.split-left_rest.result in
    let q = c.split-right_rest.result in
    let size_x = ap length c.split-left_rest.ensures.whole in
    let size_y = ap length c.split-right_rest.ensures.whole in
    let some = some_more outer (entries_along outer p.0.now p.1.now) (entries_along outer q.0.now q.1.now) c.loop-right.left.entries c.loop-right.right.entries p.2.entries q.2.entries c.least-outer.ensures.there c.split-left_rest.ensures.whole c.split-right_rest.ensures.whole c.split-left_rest.ensures.behind c.split-right_rest.ensures.behind in
    omega (arith, length-append (entries_along outer p.0.now p.1.now) p.2.entries, length-append (entries_along outer q.0.now q.1.now) q.2.entries)

pub loop-right-preserved-in-Continue-1 : goal.loop-right-preserved-in-Continue-1
loop-right-preserved-in-Continue-1 c =
    let s = c.loop-right in
    let outer = c.least-outer.result in
    let n = c.pair_fiber-found.result in
    let p = c.split-left_rest.result in
    let q = c.split-right_rest.result in
    let made = c.pair_fiber-found.new in
    let here = s.invariant in
    let enough = here.enough in
    let long_c = here.inner_long in
    let long_l = here.lefts_long in
    let long_r = here.rights_long in
    let fs = entries_along outer p.0.now p.1.now in
    let gs = entries_along outer q.0.now q.1.now in
    let size_x = ap length c.split-left_rest.ensures.whole in
    let add_x = length-append fs p.2.entries in
    let long_p = length_row outer p.0.now p.1.now c.split-left_rest.ensures.lengths in
    let bound = c.pair_fiber-found.ensures.bound in
    let kept = c.pair_fiber-found.ensures in
    let inner_kept = kept.inner_length in
    let lefts_kept = kept.lefts_length in
    let rights_kept = kept.rights_length in
    let k_c = length s.inner - s.count in
    let k_l = length s.lefts - s.count in
    let k_r = length s.rights - s.count in
    let room : length made.inner ≡ k_c = omega (arith, length-take k_c (drop s.count s.inner), length-drop s.count s.inner) in
    rw c.in_ok-push.ensures.items (paired_more outer s.count n (length c.args.inner.now) c.args.left.entries c.args.right.entries s.left.entries s.right.entries p.2.entries q.2.entries fs gs s.ends.items s.inner s.lefts s.rights (take n made.inner) (take n made.lefts) (take n made.rights)
    (put_mid s.count k_c s.inner made.inner) (put_mid s.count k_l s.lefts made.lefts) (put_mid s.count k_r s.rights made.rights)
    here c.split-left_rest.ensures.whole c.split-right_rest.ensures.whole (all_rows outer p.0.now p.1.now) (all_rows outer q.0.now q.1.now) c.split-left_rest.ensures.behind c.split-right_rest.ensures.behind
    (kept.met outer) (omega (arith, length-take n made.inner)) (omega (arith, length-take n made.lefts)) (omega (arith, length-take n made.rights)) c.if-found-gt0.true (omega arith)
    (put_take s.count k_c n s.inner made.inner (omega arith) (omega arith)) (put_take s.count k_l n s.lefts made.lefts (omega arith) (omega arith)) (put_take s.count k_r n s.rights made.rights (omega arith) (omega arith))
    (length_put s.count k_c s.inner made.inner (omega arith) (omega arith) ∙ long_c) (length_put s.count k_l s.lefts made.lefts (omega arith) (omega arith) ∙ long_l) (length_put s.count k_r s.rights made.rights (omega arith) (omega arith) ∙ long_r))

pub loop-right-preserved : goal.loop-right-preserved
loop-right-preserved c =
    let s = c.loop-right in
    let outer = c.least-outer.result in
    let n = c.pair_fiber-found.result in
    let p = c.split-left_rest.result in
    let q = c.split-right_rest.result in
    let made = c.pair_fiber-found.new in
    let here = s.invariant in
    let enough = here.enough in
    let long_c = here.inner_long in
    let long_l = here.lefts_long in
    let long_r = here.rights_long in
    let fs = entries_along outer p.0.now p.1.now in
    let gs = entries_along outer q.0.now q.1.now in
    let size_x = ap length c.split-left_rest.ensures.whole in
    let add_x = length-append fs p.2.entries in
    let long_p = length_row outer p.0.now p.1.now c.split-left_rest.ensures.lengths in
    let bound = c.pair_fiber-found.ensures.bound in
    let kept = c.pair_fiber-found.ensures in
    let inner_kept = kept.inner_length in
    let lefts_kept = kept.lefts_length in
    let rights_kept = kept.rights_length in
    let k_c = length s.inner - s.count in
    let k_l = length s.lefts - s.count in
    let k_r = length s.rights - s.count in
    let room : length made.inner ≡ k_c = omega (arith, length-take k_c (drop s.count s.inner), length-drop s.count s.inner) in
    let none : n ≡ 0 = let few = c.if-found-gt0.false in omega arith in
    rw none (paired_same outer s.count (length c.args.inner.now) c.args.left.entries c.args.right.entries s.left.entries s.right.entries p.2.entries q.2.entries fs gs s.ends.items s.inner s.lefts s.rights (take 0 made.inner) (take 0 made.lefts) (take 0 made.rights)
    (put_mid s.count k_c s.inner made.inner) (put_mid s.count k_l s.lefts made.lefts) (put_mid s.count k_r s.rights made.rights)
    here c.split-left_rest.ensures.whole c.split-right_rest.ensures.whole (all_rows outer p.0.now p.1.now) (all_rows outer q.0.now q.1.now) c.split-left_rest.ensures.behind c.split-right_rest.ensures.behind
    (rw none at (kept.met outer)) (omega (arith, length-take 0 made.inner)) (omega (arith, length-take 0 made.lefts)) (omega (arith, length-take 0 made.rights))
    (put_take s.count k_c 0 s.inner made.inner (omega arith) (omega arith)) (put_take s.count k_l 0 s.lefts made.lefts (omega arith) (omega arith)) (put_take s.count k_r 0 s.rights made.rights (omega arith) (omega arith))
    (length_put s.count k_c s.inner made.inner (omega arith) (omega arith) ∙ long_c) (length_put s.count k_l s.lefts made.lefts (omega arith) (omega arith) ∙ long_l) (length_put s.count k_r s.rights made.rights (omega arith) (omega arith) ∙ long_r))

pub returns-else-len-gt0-clause-met : goal.returns-else-len-gt0-clause-met
returns-else-len-gt0-clause-met c =
    let s = c.loop-right in
    paired_all c.args.left.entries c.args.right.entries s.left.entries s.right.entries s.count s.ends.items s.inner s.lefts s.rights (length c.args.inner.now) s.invariant (λ more. let count = c.len-in-loop-right.ensures.count in let none = c.if-len-gt0.false in omega arith)
