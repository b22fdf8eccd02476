use Rattle.std.proofs.Common.{◌≡◌, ◌-◌, length, take, drop, arith, ap, ◌∙◌, length-append, length-take, length-drop}
use Rattle.store.specs.Fibers.{entries_along}
use Rattle.store.proofs.FlatLaws.{all_rows}
use Rattle.store.proofs.Places.{length_row}
use Rattle.masks.proofs.FiberMerges.{part_none, part_more, some_more, put_take, length_put}
use borrow.Rule.Slice.PartMut.{put_mid}
use Rattle.masks.proofs.merge.merge_fibers.Goals as goal

pub loop-right-init : goal.loop-right-init
loop-right-init c = rw c.requires.none (part_none c.args.left.entries c.args.right.entries c.args.inner.now c.args.lefts.now c.args.rights.now c.args.sides.now (length c.args.inner.now) c.requires.inner_room (omega arith) c.requires.lefts_room c.requires.rights_room c.requires.sides_room)

pub merge_fiber-count-requires-clause-inner_room : goal.merge_fiber-count-requires-clause-inner_room
merge_fiber-count-requires-clause-inner_room c =
    let outer = c.least-outer.result in
    let p = c.split-left_rest.result in
    let q = c.split-right_rest.result in
    let here = c.loop-right.invariant in
    let enough = here.enough in
    let long = here.cols_long in
    let size_x = ap length c.split-left_rest.ensures.whole in
    let size_y = ap length c.split-right_rest.ensures.whole in
    omega (arith, length-append (entries_along outer p.0.now p.1.now) p.2.entries, length-append (entries_along outer q.0.now q.1.now) q.2.entries, length_row outer p.0.now p.1.now c.split-left_rest.ensures.lengths, length_row outer q.0.now q.1.now c.split-right_rest.ensures.lengths, length-take (length c.loop-right.inner - c.loop-right.count) (drop c.loop-right.count c.loop-right.inner), length-drop c.loop-right.count c.loop-right.inner)

pub loop-right-smaller : goal.loop-right-smaller
loop-right-smaller c =
    let outer = c.least-outer.result in
    let p = c.split-left_rest.result in
    let q = c.split-right_rest.result in
    let size_x = ap length c.split-left_rest.ensures.whole in
    let size_y = ap length c.split-right_rest.ensures.whole in
    let some = some_more outer (entries_along outer p.0.now p.1.now) (entries_along outer q.0.now q.1.now) c.loop-right.left.entries c.loop-right.right.entries p.2.entries q.2.entries c.least-outer.ensures.there c.split-left_rest.ensures.whole c.split-right_rest.ensures.whole c.split-left_rest.ensures.behind c.split-right_rest.ensures.behind in
    omega (arith, length-append (entries_along outer p.0.now p.1.now) p.2.entries, length-append (entries_along outer q.0.now q.1.now) q.2.entries)

pub loop-right-preserved : goal.loop-right-preserved
loop-right-preserved c =
    let s = c.loop-right in
    let outer = c.least-outer.result in
    let n = c.merge_fiber-count.result in
    let p = c.split-left_rest.result in
    let q = c.split-right_rest.result in
    let made = c.merge_fiber-count.new in
    let here = s.invariant in
    let enough = here.enough in
    let long_c = here.cols_long in
    let long_l = here.lefts_long in
    let long_r = here.rights_long in
    let long_s = here.sides_long in
    let size_x = ap length c.split-left_rest.ensures.whole in
    let size_y = ap length c.split-right_rest.ensures.whole in
    let fs = entries_along outer p.0.now p.1.now in
    let gs = entries_along outer q.0.now q.1.now in
    let long_p = length_row outer p.0.now p.1.now c.split-left_rest.ensures.lengths in
    let long_q = length_row outer q.0.now q.1.now c.split-right_rest.ensures.lengths in
    let add_x = length-append fs p.2.entries in
    let add_y = length-append gs q.2.entries in
    let bound = c.merge_fiber-count.ensures.bound in
    let kept = c.merge_fiber-count.ensures in
    let inner_kept = kept.inner_length in
    let cut_c = length-take (length s.inner - s.count) (drop s.count s.inner) in
    let drop_c = length-drop s.count s.inner in
    let room : length made.inner ≡ length s.inner - s.count = omega (arith, inner_kept) in
    let k_c = length s.inner - s.count in
    let k_l = length s.lefts - s.count in
    let k_r = length s.rights - s.count in
    let k_s = length s.sides - s.count in
    rw c.in_ok-push.ensures.items (part_more c.args.left.entries c.args.right.entries s.left.entries s.right.entries p.2.entries q.2.entries fs gs outer s.count n (length c.args.inner.now) s.ends.items s.inner s.lefts s.rights s.sides
    (take n made.inner) (take n made.lefts) (take n made.rights) (take n made.sides)
    (put_mid s.count k_c s.inner made.inner) (put_mid s.count k_l s.lefts made.lefts) (put_mid s.count k_r s.rights made.rights) (put_mid s.count k_s s.sides made.sides)
    here c.least-outer.ensures.there c.split-left_rest.ensures.whole c.split-right_rest.ensures.whole (c.split-left_rest.ensures.behind, c.split-right_rest.ensures.behind) (all_rows outer p.0.now p.1.now) (all_rows outer q.0.now q.1.now)
    (c.merge_fiber-count.ensures.merged outer) (omega arith)
    (put_take s.count k_c n s.inner made.inner (omega arith) (omega arith)) (put_take s.count k_l n s.lefts made.lefts (omega arith) (omega (arith, kept.lefts_length))) (put_take s.count k_r n s.rights made.rights (omega arith) (omega (arith, kept.rights_length))) (put_take s.count k_s n s.sides made.sides (omega arith) (omega (arith, kept.sides_length)))
    (length_put s.count k_c s.inner made.inner (omega arith) (omega arith) ∙ long_c) (length_put s.count k_l s.lefts made.lefts (omega arith) (omega (arith, kept.lefts_length)) ∙ long_l) (length_put s.count k_r s.rights made.rights (omega arith) (omega (arith, kept.rights_length)) ∙ long_r) (length_put s.count k_s s.sides made.sides (omega arith) (omega (arith, kept.sides_length)) ∙ long_s))
