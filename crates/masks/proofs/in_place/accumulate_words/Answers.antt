-- Other words at the same places.
use Rattle.std.proofs.Common.{◌≡◌, ◌∙◌, ap, eqb, length, refl, sym, true, arith, List}
use Rattle.std.proofs.lemmas.Bool.Decides.{nat_tests}
use Rattle.std.proofs.lemmas.List.{with_items_is}
use Rattle.algebra.specs.OperatorNames.{op_named}
use Rattle.model.specs.declared.entry.Entry.{Entry}
use Rattle.model.specs.Entries.{word_at}
use Rattle.store.specs.Fibers.{entries_from}
use Rattle.store.specs.Stored.{AreHeld, along, content_of}
use Rattle.masks.specs.Writes.{accumulated_where}
use Rattle.masks.proofs.InPlaceLaws.{column_over, held_over}
use Rattle.masks.proofs.in_place.accumulate_words.Goals as goal

pub of_fibers-requires-clause-flat : goal.of_fibers-requires-clause-flat
of_fibers-requires-clause-flat c =
    let b = c.args.block in
    let lists = c.into_lists-ends.result in
    let inside = c.into_lists-ends.ensures.inside in
    let held : AreHeld b.first b.past b.cols lists.ends.items lists.inner.items lists.words.items = record { flat = c.into_lists-ends.ensures.flat; inside = rw c.into_lists-ends.ensures.entries inside } in
    let long = c.accumulate_rows.ensures.length ∙ ap length c.deref_mut.ensures.value in
    rw (with_items_is lists.words c.accumulate_rows.new.words (long ∙ sym lists.words.ok.0))
    (held_over b.first b.past b.cols lists.ends.items lists.inner.items lists.words.items c.accumulate_rows.new.words held long).flat

pub of_fibers-requires-clause-inside : goal.of_fibers-requires-clause-inside
of_fibers-requires-clause-inside c =
    let b = c.args.block in
    let lists = c.into_lists-ends.result in
    let inside = c.into_lists-ends.ensures.inside in
    let held : AreHeld b.first b.past b.cols lists.ends.items lists.inner.items lists.words.items = record { flat = c.into_lists-ends.ensures.flat; inside = rw c.into_lists-ends.ensures.entries inside } in
    let long = c.accumulate_rows.ensures.length ∙ ap length c.deref_mut.ensures.value in
    rw (c.first-first.ensures, c.past-past.ensures, c.cols-cols.ensures, with_items_is lists.words c.accumulate_rows.new.words (long ∙ sym lists.words.ok.0))
    (held_over b.first b.past b.cols lists.ends.items lists.inner.items lists.words.items c.accumulate_rows.new.words held long).inside

pub returns-clause-words : goal.returns-clause-words
returns-clause-words c i j =
    let b = c.args.block in
    let lists = c.into_lists-ends.result in
    let new = c.accumulate_rows.new.words in
    let op = op_named c.args.op in
    let old = content_of c.args.store.now in
    let inside = c.into_lists-ends.ensures.inside in
    let held : AreHeld b.first b.past b.cols lists.ends.items lists.inner.items lists.words.items = record { flat = c.into_lists-ends.ensures.flat; inside = rw c.into_lists-ends.ensures.entries inside } in
    let long = c.accumulate_rows.ensures.length ∙ ap length c.deref_mut.ensures.value in
    let one : eqb b.cols 1 ≡ true = let cols = c.requires in grind (arith, nat_tests) in
    let is : c.of_fibers.result.entries ≡ along b.cols (entries_from 0 lists.ends.items lists.inner.items new) = c.of_fibers.ensures.entries ∙ rw (c.cols-cols.ensures, with_items_is lists.words new (long ∙ sym lists.words.ok.0)) refl in
    ap (λ (es : List Entry). word_at es i j) is
    ∙ column_over op old b.first b.past b.cols lists.ends.items lists.inner.items lists.words.items new i j one held long (rw (c.deref.ensures.value, c.deref_mut.ensures.value) at (c.accumulate_rows.ensures.words i j))
    ∙ ap (λ (es : List Entry). accumulated_where op (old i j) (word_at es i j)) c.into_lists-ends.ensures.entries
