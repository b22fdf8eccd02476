-- The words of a bitmap's entries are those of its map.
use Rattle.std.proofs.Common.{◌∙◌, ap, map, sym}
use Rattle.lanes.specs.Lists.{fold_of}
use Rattle.model.specs.declared.entry.Entry.{Entry}
use Rattle.model.specs.Entries.{word_at}
use Rattle.model.proofs.EntryLaws.{all_words-entries}
use Rattle.store.proofs.Content.{entries_of-words}
use Rattle.elementwise.proofs.reduce.reduce_all_by.Goals as goal

pub returns-in-Bitmap : goal.returns-in-Bitmap
returns-in-Bitmap g c =
    let b = c.in-Bitmap.bitmap.now in
    let lent = rw c.in-Bitmap.is at c.form.ensures in
    let monoid = c.args.monoid in
    let words = all_words-entries b.rows b.cols (word_at b.entries) ∙ ap (map (λ (e : Entry). e.word)) (entries_of-words b.rows b.cols b.entries c.rows.ensures.order c.rows.ensures.inside) in
    rw (← lent) (c.fold-in-Bitmap.ensures ∙ ap (fold_of monoid.kind monoid.op.domain) (sym words))

pub returns-in-Blocks : goal.returns-in-Blocks
returns-in-Blocks g c =
    let lent = rw c.in-Blocks.is at c.form.ensures in
    let monoid = c.args.monoid in
    rw (← lent) (c.fold_parts.ensures ∙ ap (fold_of monoid.kind monoid.op.domain) c.parts.ensures.words)
