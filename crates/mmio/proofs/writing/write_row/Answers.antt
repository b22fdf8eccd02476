use Rattle.std.proofs.Common.{◌∙◌, ◌<◌, arith, ap, length}
use Rattle.std.proofs.lemmas.List.{take_all}
use Rattle.model.specs.Entries.{entry_at}
use Rattle.store.specs.Fibers.{entries_along}
use Rattle.store.proofs.Places.{length_row, row_at}
use Rattle.mmio.proofs.WriteLaws.{lines_more, lines_of}
use Rattle.mmio.proofs.writing.write_row.Goals as goal

pub loop-k-preserved : goal.loop-k-preserved
loop-k-preserved c =
    let row = c.args.row in
    let entries = entries_along row.index row.cols.now row.words.now in
    let long = length_row row.index row.cols.now row.words.now c.requires.lengths in
    let within : c.loop-k.k < length entries = omega (arith, c.loop-k-test.true) in
    let at = row_at row.index row.cols.now row.words.now c.loop-k.k (entry_at 0 0 0) c.requires.lengths c.loop-k-test.true in
    lines_more c.args.domain entries c.loop-k.k (entry_at 0 0 0) _ c.args.out.now.items _ _ within at c.loop-k.invariant c.in_ok-write_entry.ensures.ok

pub returns-clause-ok : goal.returns-clause-ok
returns-clause-ok c =
    let row = c.args.row in
    let entries = entries_along row.index row.cols.now row.words.now in
    let long = length_row row.index row.cols.now row.words.now c.requires.lengths in
    c.loop-k.invariant ∙ ap (λ es. lines_of c.args.domain es c.args.out.now.items) (take_all c.loop-k.k entries (omega (arith, c.loop-k-test.false)))
