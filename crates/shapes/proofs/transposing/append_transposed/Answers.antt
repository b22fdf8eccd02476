use Rattle.std.proofs.Common.{◌≡◌, ◌<◌, ◌∙◌, ap, arith, get_or, length}
use Rattle.std.proofs.lemmas.List.{get_or-map, length-map}
use Rattle.model.specs.declared.entry.Entry.{Entry}
use Rattle.model.specs.Entries.{entry_at}
use Rattle.store.specs.Fibers.{entries_along}
use Rattle.store.specs.Stored.{transposed}
use Rattle.store.proofs.Places.{length_row, row_at}
use Rattle.shapes.proofs.ListLaws.{push_all, push_more}
use Rattle.shapes.proofs.transposing.append_transposed.Goals as goal

pub loop-k-preserved : goal.loop-k-preserved
loop-k-preserved c =
    let row = c.args.row in
    let es = entries_along row.index row.cols.now row.words.now in
    let k = c.loop-k.k in
    let d = entry_at 0 0 0 in
    let long = length_row row.index row.cols.now row.words.now c.requires in
    let within : k < length es = omega (arith, c.loop-k-test.true) in
    let at : get_or (transposed es) k d ≡ entry_at (get_or row.cols.now k 0) row.index (get_or row.words.now k 0) =
    get_or-map (λ (e : Entry). entry_at e.col e.row e.word) es k d d within ∙ ap (λ (e : Entry). entry_at e.col e.row e.word) (row_at row.index row.cols.now row.words.now k d c.requires c.loop-k-test.true) in
    c.in_ok-push.ensures.items
    ∙ push_more c.args.entries.now.items c.loop-k.entries.items (transposed es) k (entry_at (get_or row.cols.now k 0) row.index (get_or row.words.now k 0)) d c.loop-k.invariant (omega (arith, length-map es (λ (e : Entry). entry_at e.col e.row e.word))) at

pub returns : goal.returns
returns c =
    let row = c.args.row in
    let es = entries_along row.index row.cols.now row.words.now in
    let long = length_row row.index row.cols.now row.words.now c.requires in
    push_all c.args.entries.now.items c.loop-k.entries.items (transposed es) c.loop-k.k c.loop-k.invariant (omega (arith, c.loop-k-test.false, length-map es (λ (e : Entry). entry_at e.col e.row e.word)))
