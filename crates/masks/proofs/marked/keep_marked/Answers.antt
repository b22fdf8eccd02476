-- What is kept lies as a column.
use Rattle.std.proofs.Common.{◌≡◌, ◌∙◌, ap, length, length-take, refl, sym, take, arith, rules}
use Rattle.std.proofs.lemmas.List.{with_items_is}
use Rattle.model.specs.declared.entry.Entry.{Entry}
use Rattle.model.specs.Entries.{word_at}
use Rattle.store.specs.Fibers.{entries_in}
use Rattle.store.specs.Stored.{AreHeld, along, transposed}
use Rattle.store.proofs.Contents.{transposed_twice}
use Rattle.masks.specs.Keeps.{kept_by}
use Rattle.masks.specs.Masks.{lets_word}
use Rattle.masks.proofs.BlockLaws.{kept_along, kept_in}
use Rattle.masks.proofs.MarkedLaws.{AreKept, kept_lists}
use Rattle.masks.proofs.marked.keep_marked.Goals as goal

kept : (c : goal.After-end_column) → AreKept c.end_column.new.ends.items c.truncate.new.self.items c.truncate-2.new.self.items
    (kept_by c.args.mask.test (transposed c.args.mask.bitmap.now.entries) (entries_in c.into_lists-lists.result))
kept c =
    let b = c.args.block in
    let lists = c.into_lists-lists.result in
    let done = c.keep_rows-kept in
    let count = done.result in
    let flat = c.into_lists-lists.ensures.flat in
    let wide : AreHeld b.first b.past b.cols lists.ends.items lists.inner.items lists.words.items =
    record { flat = flat; inside = rw c.into_lists-lists.ensures.entries c.into_lists-lists.ensures.inside } in
    let held : AreHeld b.first b.past 1 lists.ends.items lists.inner.items lists.words.items = rw c.requires at wide in
    let same = flat.same_length in
    let long : length done.new.rows ≡ length lists.inner.items = done.ensures.rows_length ∙ ap length c.deref_mut.ensures.value in
    let long_words : length done.new.words ≡ length lists.words.items = done.ensures.words_length ∙ ap length c.deref_mut-2.ensures.value in
    let rows : c.truncate.new.self.items ≡ take count done.new.rows = c.truncate.ensures.items ∙ ap (take count) (with_items_is lists.inner done.new.rows (long ∙ sym lists.inner.ok.0)) in
    let words : c.truncate-2.new.self.items ≡ take count done.new.words = c.truncate-2.ensures.items ∙ ap (take count) (with_items_is lists.words done.new.words (long_words ∙ sym lists.words.ok.0)) in
    let high = done.ensures.bound in
    let value = ap length c.deref_mut.ensures.value in
    rw (rows, words) (kept_lists (λ (e : Entry). lets_word c.args.mask.test (word_at (transposed c.args.mask.bitmap.now.entries) e.row e.col)) b.first b.past count
    lists.ends.items c.end_column.new.ends.items lists.inner.items lists.words.items (take count done.new.rows) (take count done.new.words) held (omega arith)
    (omega (arith, length-take count done.new.rows)) (omega (arith, length-take count done.new.words)) (rw (c.deref_mut.ensures.value, c.deref_mut-2.ensures.value) at done.ensures.kept)
    c.end_column.ensures.none c.end_column.ensures.some)

pub of_fibers-requires-clause-flat : goal.of_fibers-requires-clause-flat
of_fibers-requires-clause-flat c = (kept c).flat

pub of_fibers-requires-clause-inside : goal.of_fibers-requires-clause-inside
of_fibers-requires-clause-inside c =
    let b = c.args.block in
    rw (c.first-first.ensures, c.past-past.ensures, c.cols-cols.ensures, (kept c).entries)
    (kept_in c.args.mask.test b.first b.past b.cols (transposed c.args.mask.bitmap.now.entries) (entries_in c.into_lists-lists.result) (rw c.into_lists-lists.ensures.entries c.into_lists-lists.ensures.inside))

pub returns-clause-words : goal.returns-clause-words
returns-clause-words c i j =
    let b = c.args.block in
    let test = c.args.mask.test in
    let entries = c.args.mask.bitmap.now.entries in
    let there : along b.cols (transposed entries) ≡ entries = rw c.requires (transposed_twice entries) in
    ap (λ es. word_at es i j) (c.of_fibers.ensures.entries ∙ rw (c.cols-cols.ensures, (kept (search rules)).entries) refl)
    ∙ kept_along test b.cols (transposed entries) (entries_in c.into_lists-lists.result) i j
    ∙ rw (there, c.into_lists-lists.ensures.entries) refl
