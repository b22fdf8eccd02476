-- Rows are what the map has in the rows of the range.
use Rattle.std.proofs.Common.{◌≡◌, ◌∙◌, ◌++◌, ap, rules, sym}
use Rattle.std.proofs.lemmas.Bool.{eq-eqb}
use Rattle.std.proofs.lemmas.List.{append-nil}
use Rattle.store.specs.Fibers.{entries_from}
use Rattle.store.specs.Stored.{along, entries_in_rows}
use Rattle.store.specs.Walks.{entries_down}
use Rattle.store.proofs.Contents.{AreBetween, held_stored, kept_between, one_column}
use Rattle.store.proofs.sparse.Sparse.rows_in.Goals as goal
use Rattle.store.proofs.sparse.Sparse.rows_in.Goals.{After-none-fibers}

pub column_between-requires-clause-rising : goal.column_between-requires-clause-rising
column_between-requires-clause-rising c =
    let s = c.self.inside in
    let one = one_column 0 s.rows s.cols s.lists.ends.items s.lists.inner.items s.lists.words.items (eq-eqb s.cols 1 c.if-self-eq1.true) c.self.invariant in
    rw c.deref.ensures.value one.rising

column : (c : After-none-fibers)
    → AreBetween c.args.range.start c.args.range.end c.self.inside.rows c.self.inside.cols (along c.self.inside.cols (entries_from 0 c.self.inside.lists.ends.items c.self.inside.lists.inner.items c.self.inside.lists.words.items)) (entries_down c.column_between.result.0.now c.column_between.result.1.now ++ c.none-fibers.result.entries)
column c =
    let s = c.self.inside in
    let one = one_column 0 s.rows s.cols s.lists.ends.items s.lists.inner.items s.lists.words.items (eq-eqb s.cols 1 c.if-self-eq1.true) c.self.invariant in
    let part = c.column_between.result in
    let whole : entries_down part.0.now part.1.now ≡ entries_in_rows c.args.range.start c.args.range.end (entries_down s.lists.inner.items s.lists.words.items) = rw (c.deref.ensures.value, c.deref-then-self-eq1.ensures.value) at c.column_between.ensures.whole in
    kept_between c.args.range.start c.args.range.end s.rows s.cols _ _ (held_stored s.rows s.cols s.lists.ends.items s.lists.inner.items s.lists.words.items c.self.invariant)
    (rw c.none-fibers.ensures (append-nil (entries_down part.0.now part.1.now) ∙ whole ∙ ap (entries_in_rows c.args.range.start c.args.range.end) (sym one.down)))

pub returns-then-self-eq1-clause-entries : goal.returns-then-self-eq1-clause-entries
returns-then-self-eq1-clause-entries c = rw (← c.self.view_is) (column (search rules)).entries

pub returns-then-self-eq1-clause-order : goal.returns-then-self-eq1-clause-order
returns-then-self-eq1-clause-order c = (column (search rules)).order

pub returns-then-self-eq1-clause-inside : goal.returns-then-self-eq1-clause-inside
returns-then-self-eq1-clause-inside c = rw (← c.self.view_is) (column (search rules)).inside
