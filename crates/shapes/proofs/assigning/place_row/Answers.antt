use Rattle.std.proofs.Common.{◌≡◌, ◌<◌, ◌∙◌, ap, arith, get_or, length, map}
use Rattle.std.proofs.lemmas.List.{get_or-map, length-map}
use Rattle.model.specs.Entries.{entry_at}
use Rattle.store.specs.Fibers.{entries_along}
use Rattle.store.proofs.Places.{length_row, row_at}
use Rattle.shapes.specs.Places.{nth_index}
use Rattle.shapes.proofs.ListLaws.{push_all, push_more}
use Rattle.shapes.proofs.assigning.place_row.Goals as goal

pub loop-k-preserved : goal.loop-k-preserved
loop-k-preserved c =
    let row = c.args.row in
    let cs = map (nth_index c.args.cols.now) row.cols.now in
    let k = c.loop-k.k in
    let d = entry_at 0 0 0 in
    let count = length-map row.cols.now (nth_index c.args.cols.now) in
    let same : length row.words.now ≡ length cs = omega (arith, count, c.requires.lengths) in
    let long = length_row c.args.index cs row.words.now same in
    let within : k < length cs = omega (arith, count, c.loop-k-test.true) in
    let at = row_at c.args.index cs row.words.now k d same within ∙ ap (λ col. entry_at c.args.index col (get_or row.words.now k 0)) (get_or-map (nth_index c.args.cols.now) row.cols.now k 0 0 c.loop-k-test.true) in
    c.in_ok-push.ensures.items ∙ rw c.nth_index.ensures
    (push_more c.args.entries.now.items c.loop-k.entries.items (entries_along c.args.index cs row.words.now) k (entry_at c.args.index (nth_index c.args.cols.now (get_or row.cols.now k 0)) (get_or row.words.now k 0)) d c.loop-k.invariant (omega (arith, long, within)) at)

pub returns : goal.returns
returns c =
    let row = c.args.row in
    let cs = map (nth_index c.args.cols.now) row.cols.now in
    let count = length-map row.cols.now (nth_index c.args.cols.now) in
    let long = length_row c.args.index cs row.words.now (omega (arith, count, c.requires.lengths)) in
    push_all c.args.entries.now.items c.loop-k.entries.items (entries_along c.args.index cs row.words.now) c.loop-k.k c.loop-k.invariant (omega (arith, c.loop-k-test.false, count, long))
