-- The entry removed, in the order in which the lists have it.
use Rattle.std.proofs.Common.{rules}
use Rattle.std.proofs.lemmas.Bool.{eq-eqb, ne_eqb}
use Rattle.store.specs.Fibers.{entries_in}
use Rattle.store.specs.Stored.{AreHeld}
use Rattle.store.proofs.Contents.{held_stored}
use Rattle.store.proofs.StoreLaws.{column_removed, column_words_removed, rows_removed}
use Rattle.store.proofs.sparse.Sparse.remove.Goals as goal
use Rattle.store.proofs.sparse.Sparse.remove.Goals.{After-take_out, After-take_out-else-self-eq1}

column : (c : After-take_out) → AreHeld 0 c.self.inside.rows c.self.inside.cols c.take_out.new.lists.ends.items c.take_out.new.lists.inner.items c.take_out.new.lists.words.items
column c =
    let s = c.self.inside in
    column_removed s.rows s.cols c.args.i c.args.j s.lists c.take_out.new.lists (eq-eqb s.cols 1 c.if-self-eq1.true) c.self.invariant c.take_out.ensures.flat c.take_out.ensures.removed

pub invariant_of-self : goal.invariant_of-self
invariant_of-self c = column (search rules)

pub returns-then-self-eq1-clause-stored : goal.returns-then-self-eq1-clause-stored
returns-then-self-eq1-clause-stored c =
    let s = c.self.inside in
    let new = c.take_out.new.lists in
    held_stored s.rows s.cols new.ends.items new.inner.items new.words.items (column (search rules))

rows : (c : After-take_out-else-self-eq1) → AreHeld 0 c.self.inside.rows c.self.inside.cols c.take_out-else-self-eq1.new.lists.ends.items c.take_out-else-self-eq1.new.lists.inner.items c.take_out-else-self-eq1.new.lists.words.items
rows c =
    let s = c.self.inside in
    let gone = c.take_out-else-self-eq1 in
    rows_removed s.rows s.cols c.args.i c.args.j s.lists gone.new.lists (ne_eqb s.cols 1 c.if-self-eq1.false) c.self.invariant gone.ensures.flat gone.ensures.removed

pub invariant_of-self-else-self-eq1 : goal.invariant_of-self-else-self-eq1
invariant_of-self-else-self-eq1 c = rows (search rules)

pub returns-else-self-eq1-clause-stored : goal.returns-else-self-eq1-clause-stored
returns-else-self-eq1-clause-stored c =
    let s = c.self.inside in
    let new = c.take_out-else-self-eq1.new.lists in
    held_stored s.rows s.cols new.ends.items new.inner.items new.words.items (rows (search rules))

pub returns-then-self-eq1-clause-content : goal.returns-then-self-eq1-clause-content
returns-then-self-eq1-clause-content c =
    let s = c.self.inside in
    rw (← c.self.view_is) (column_words_removed s.cols c.args.i c.args.j (entries_in s.lists) (entries_in c.take_out.new.lists) (eq-eqb s.cols 1 c.if-self-eq1.true) c.take_out.ensures.removed)
