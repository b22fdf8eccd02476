use Rattle.std.proofs.Common.{◌∙◌, List, Option, sym, ap}
use Rattle.std.specs.Option.{option_map, option_to_list}
use Rattle.std.proofs.lemmas.Bool.{eq-eqb, ne_eqb}
use Rattle.model.specs.declared.entry.Entry.{Entry}
use Rattle.model.specs.Entries.{entry_at, row_entries, word_at}
use Rattle.store.specs.Fibers.{entries_from}
use Rattle.store.specs.Stored.{along, entries_in_row}
use Rattle.store.proofs.Content.{row_entries-words}
use Rattle.store.proofs.Contents.{as_column, by_rows, held_stored, row_of_column, word_at-transposed}
use Rattle.store.proofs.sparse.Sparse.row_near.Goals as goal

pub returns-then-self-eq1-clause-entries : goal.returns-then-self-eq1-clause-entries
returns-then-self-eq1-clause-entries c =
    let s = c.self.inside in
    let es = entries_from 0 s.lists.ends.items s.lists.inner.items s.lists.words.items in
    let one = c.if-self-eq1.true in
    let is = as_column s.cols es (eq-eqb s.cols 1 one) in
    rw (← c.self.view_is) ((rw (c.deref.ensures.value, c.deref-then-self-eq1.ensures.value, c.deref-then-self-eq1-2.ensures.value) at c.row_of_column.ensures.entries)
    ∙ ap (λ (o : Option _). option_to_list (option_map (entry_at c.args.i 0) o)) (sym (ap (λ (es : List Entry). word_at es c.args.i 0) is ∙ word_at-transposed es c.args.i 0))
    ∙ row_of_column (word_at (along s.cols es)) c.args.i ∙ ap (λ cols. row_entries cols (word_at (along s.cols es)) c.args.i) (sym one))

pub returns-else-self-eq1-clause-entries : goal.returns-else-self-eq1-clause-entries
returns-else-self-eq1-clause-entries c =
    let s = c.self.inside in
    let es = entries_from 0 s.lists.ends.items s.lists.inner.items s.lists.words.items in
    let is = by_rows s.cols es (ne_eqb s.cols 1 c.if-self-eq1.false) in
    let held = held_stored s.rows s.cols s.lists.ends.items s.lists.inner.items s.lists.words.items c.self.invariant in
    rw (← c.self.view_is) ((rw (c.deref-else-self-eq1.ensures.value, c.deref-else-self-eq1-2.ensures.value, c.deref-else-self-eq1-3.ensures.value) at c.fiber-fiber.ensures.entries)
    ∙ ap (entries_in_row c.args.i) (sym is) ∙ sym (row_entries-words c.args.i s.rows s.cols (along s.cols es) held.order held.inside))
