use Rattle.std.proofs.Common.{◌∙◌, ap, sym, List}
use Rattle.std.proofs.lemmas.Bool.{eq-eqb, ne_eqb}
use Rattle.model.specs.declared.entry.Entry.{Entry}
use Rattle.model.specs.Entries.{word_at}
use Rattle.store.specs.Fibers.{entries_from}
use Rattle.store.proofs.Contents.{as_column, by_rows, word_at-transposed}
use Rattle.store.proofs.sparse.Sparse.get.Goals as goal

pub returns-then-self-eq1 : goal.returns-then-self-eq1
returns-then-self-eq1 c =
    let s = c.self.inside in
    let es = entries_from 0 s.lists.ends.items s.lists.inner.items s.lists.words.items in
    rw (← c.self.view_is) ((rw (c.deref.ensures.value, c.deref-then-self-eq1.ensures.value, c.deref-then-self-eq1-2.ensures.value) at c.find.ensures)
    ∙ sym (ap (λ (es : List Entry). word_at es c.args.i c.args.j) (as_column s.cols es (eq-eqb s.cols 1 c.if-self-eq1.true)) ∙ word_at-transposed es c.args.i c.args.j))

pub returns-else-self-eq1 : goal.returns-else-self-eq1
returns-else-self-eq1 c =
    let s = c.self.inside in
    let es = entries_from 0 s.lists.ends.items s.lists.inner.items s.lists.words.items in
    rw (← c.self.view_is) ((rw (c.deref-else-self-eq1.ensures.value, c.deref-else-self-eq1-2.ensures.value, c.deref-else-self-eq1-3.ensures.value) at c.find-else-self-eq1.ensures)
    ∙ sym (ap (λ (es : List Entry). word_at es c.args.i c.args.j) (by_rows s.cols es (ne_eqb s.cols 1 c.if-self-eq1.false))))
