-- Fibers are what the map has in the rows of the range.
use Rattle.std.proofs.Common.{◌≡◌, ◌∙◌, List, ap, rules, sym}
use Rattle.std.proofs.lemmas.Bool.{eq-eqb, ne_eqb}
use Rattle.model.specs.declared.entry.Entry.{Entry}
use Rattle.store.specs.Fibers.{entries_from}
use Rattle.store.specs.Stored.{along, entries_in_rows, transposed}
use Rattle.store.specs.Walks.{entries_down}
use Rattle.store.proofs.Contents.{AreBetween, as_column, by_rows, held_stored, kept_between, one_column, transposed_along}
use Rattle.store.proofs.sparse.Sparse.fibers_near.Goals as goal
use Rattle.store.proofs.sparse.Sparse.fibers_near.Goals.{After-of_column, After-fibers_between}

pub column_between-requires-clause-rising : goal.column_between-requires-clause-rising
column_between-requires-clause-rising c =
    let s = c.self.inside in
    let one = one_column 0 s.rows s.cols s.lists.ends.items s.lists.inner.items s.lists.words.items (eq-eqb s.cols 1 c.if-self-eq1.true) c.self.invariant in
    rw c.deref.ensures.value one.rising

column : (c : After-of_column)
    → AreBetween c.args.range.start c.args.range.end c.self.inside.rows c.self.inside.cols (along c.self.inside.cols (entries_from 0 c.self.inside.lists.ends.items c.self.inside.lists.inner.items c.self.inside.lists.words.items)) (along c.self.inside.cols c.of_column.result.entries)
column c =
    let s = c.self.inside in
    let is = eq-eqb s.cols 1 c.if-self-eq1.true in
    let one = one_column 0 s.rows s.cols s.lists.ends.items s.lists.inner.items s.lists.words.items is c.self.invariant in
    let part = c.column_between.result in
    let whole : entries_down part.0.now part.1.now ≡ entries_in_rows c.args.range.start c.args.range.end (entries_down s.lists.inner.items s.lists.words.items) = rw (c.deref.ensures.value, c.deref-then-self-eq1.ensures.value) at c.column_between.ensures.whole in
    kept_between c.args.range.start c.args.range.end s.rows s.cols _ _ (held_stored s.rows s.cols s.lists.ends.items s.lists.inner.items s.lists.words.items c.self.invariant)
    (as_column s.cols c.of_column.result.entries is ∙ ap (λ (es : List Entry). transposed es) c.of_column.ensures ∙ transposed_along part.0.now part.1.now ∙ whole
    ∙ ap (entries_in_rows c.args.range.start c.args.range.end) (sym one.down))

pub returns-then-self-eq1-clause-entries : goal.returns-then-self-eq1-clause-entries
returns-then-self-eq1-clause-entries c = rw (← c.self.view_is) (column (search rules)).entries

pub returns-then-self-eq1-clause-order : goal.returns-then-self-eq1-clause-order
returns-then-self-eq1-clause-order c = rw (← c.self.view_is) (column (search rules)).order

pub returns-then-self-eq1-clause-inside : goal.returns-then-self-eq1-clause-inside
returns-then-self-eq1-clause-inside c = rw (← c.self.view_is) (column (search rules)).inside

pub returns-then-self-eq1-clause-words : goal.returns-then-self-eq1-clause-words
returns-then-self-eq1-clause-words c i j low high = rw (← c.self.view_is) (((column (search rules))).words i j low high)

fibers : (c : After-fibers_between)
    → AreBetween c.args.range.start c.args.range.end c.self.inside.rows c.self.inside.cols (along c.self.inside.cols (entries_from 0 c.self.inside.lists.ends.items c.self.inside.lists.inner.items c.self.inside.lists.words.items)) (along c.self.inside.cols c.fibers_between.result.0.entries)
fibers c =
    let s = c.self.inside in
    let es = entries_from 0 s.lists.ends.items s.lists.inner.items s.lists.words.items in
    let many = ne_eqb s.cols 1 c.if-self-eq1.false in
    let whole : c.fibers_between.result.0.entries ≡ entries_in_rows c.args.range.start c.args.range.end es = rw (c.deref-else-self-eq1.ensures.value, c.deref-else-self-eq1-2.ensures.value, c.deref-else-self-eq1-3.ensures.value) at c.fibers_between.ensures in
    kept_between c.args.range.start c.args.range.end s.rows s.cols _ _ (held_stored s.rows s.cols s.lists.ends.items s.lists.inner.items s.lists.words.items c.self.invariant)
    (by_rows s.cols c.fibers_between.result.0.entries many ∙ whole ∙ ap (entries_in_rows c.args.range.start c.args.range.end) (sym (by_rows s.cols es many)))

pub returns-else-self-eq1-clause-entries : goal.returns-else-self-eq1-clause-entries
returns-else-self-eq1-clause-entries c = rw (← c.self.view_is) (fibers (search rules)).entries

pub returns-else-self-eq1-clause-order : goal.returns-else-self-eq1-clause-order
returns-else-self-eq1-clause-order c = rw (← c.self.view_is) (fibers (search rules)).order

pub returns-else-self-eq1-clause-inside : goal.returns-else-self-eq1-clause-inside
returns-else-self-eq1-clause-inside c = rw (← c.self.view_is) (fibers (search rules)).inside

pub returns-else-self-eq1-clause-words : goal.returns-else-self-eq1-clause-words
returns-else-self-eq1-clause-words c i j low high = rw (← c.self.view_is) (((fibers (search rules))).words i j low high)
