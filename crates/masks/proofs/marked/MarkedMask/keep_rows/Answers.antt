-- One entry more is asked for.
use Rattle.std.proofs.Common.{◌∙◌, ap, get_or, refl, sym, arith}
use mir.Val.{bool_byte}
use Rattle.model.specs.declared.entry.Entry.{Entry}
use Rattle.model.specs.Entries.{word_at}
use Rattle.store.specs.Stored.{transposed}
use Rattle.store.proofs.Contents.{word_at-transposed}
use Rattle.masks.specs.Masks.{lets_word}
use Rattle.masks.proofs.MarkedLaws.{marked_more}
use Rattle.masks.proofs.marked.MarkedMask.keep_rows.Goals as goal

pub loop-at-preserved : goal.loop-at-preserved
loop-at-preserved c =
    let s = c.loop-at in
    let test = c.args.self.test in
    let entries = c.args.self.bitmap.now.entries in
    let row = get_or s.rows s.at 0 in
    marked_more (λ (e : Entry). lets_word test (word_at (transposed entries) e.row e.col)) c.args.rows.now c.args.words.now s.rows s.words s.kept s.at
    c.from-kept.result c.lets-is_kept.result bool_byte s.invariant (let more = c.loop-at-test.true in let long = s.invariant.rows_long in omega arith)
    (ap (lets_word test) (word_at-transposed entries 0 row) ∙ sym c.lets-is_kept.ensures) c.from-kept.ensures refl refl
