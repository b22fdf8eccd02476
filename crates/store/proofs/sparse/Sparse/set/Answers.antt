-- The entry set, in the order in which the lists have it.
use Rattle.std.proofs.Common.{ap, rules}
use Rattle.std.proofs.lemmas.Bool.{eq-eqb, ne_eqb}
use Rattle.store.specs.Fibers.{entries_in}
use Rattle.store.specs.Stored.{AreHeld}
use Rattle.store.proofs.Contents.{held_stored}
use Rattle.store.proofs.StoreLaws.{column_absent, column_set, column_words_set, rows_set}
use Rattle.store.proofs.sparse.Sparse.set.Goals as goal
use Rattle.store.proofs.sparse.Sparse.set.Goals.{After-put, After-put-else-self-eq1}

column : (c : After-put) → AreHeld 0 c.self.inside.rows c.self.inside.cols c.put.new.lists.ends.items c.put.new.lists.inner.items c.put.new.lists.words.items
column c =
    let s = c.self.inside in
    let rows = ap (λ s. s.rows) c.self.view_is in
    let cols = ap (λ s. s.cols) c.self.view_is in
    column_set s.rows s.cols c.args.i c.args.j c.args.word s.lists c.put.new.lists c.put.result (eq-eqb s.cols 1 c.if-self-eq1.true) (rw rows c.requires.row) (rw cols c.requires.col) c.self.invariant c.put.ensures.flat c.put.ensures.ok c.put.ensures.refused

pub invariant_of-self : goal.invariant_of-self
invariant_of-self c = column (search rules)

pub returns-then-self-eq1-clause-stored : goal.returns-then-self-eq1-clause-stored
returns-then-self-eq1-clause-stored c =
    let s = c.self.inside in
    let new = c.put.new.lists in
    held_stored s.rows s.cols new.ends.items new.inner.items new.words.items (column (search rules))

rows : (c : After-put-else-self-eq1) → AreHeld 0 c.self.inside.rows c.self.inside.cols c.put-else-self-eq1.new.lists.ends.items c.put-else-self-eq1.new.lists.inner.items c.put-else-self-eq1.new.lists.words.items
rows c =
    let s = c.self.inside in
    let rows = ap (λ s. s.rows) c.self.view_is in
    let cols = ap (λ s. s.cols) c.self.view_is in
    let put = c.put-else-self-eq1 in
    rows_set s.rows s.cols c.args.i c.args.j c.args.word s.lists put.new.lists put.result (ne_eqb s.cols 1 c.if-self-eq1.false) (rw rows c.requires.row) (rw cols c.requires.col) c.self.invariant put.ensures.flat put.ensures.ok put.ensures.refused

pub invariant_of-self-else-self-eq1 : goal.invariant_of-self-else-self-eq1
invariant_of-self-else-self-eq1 c = rows (search rules)

pub returns-else-self-eq1-clause-stored : goal.returns-else-self-eq1-clause-stored
returns-else-self-eq1-clause-stored c =
    let s = c.self.inside in
    let new = c.put-else-self-eq1.new.lists in
    held_stored s.rows s.cols new.ends.items new.inner.items new.words.items (rows (search rules))

pub returns-then-self-eq1-clause-content : goal.returns-then-self-eq1-clause-content
returns-then-self-eq1-clause-content c =
    let s = c.self.inside in
    rw (← c.self.view_is) (column_words_set s.cols c.args.i c.args.j c.args.word (entries_in s.lists) (entries_in c.put.new.lists) c.put.result (eq-eqb s.cols 1 c.if-self-eq1.true) c.put.ensures.ok)

pub returns-then-self-eq1-clause-absent : goal.returns-then-self-eq1-clause-absent
returns-then-self-eq1-clause-absent c =
    let s = c.self.inside in
    rw (← c.self.view_is) (column_absent s.cols c.args.i c.args.j (entries_in s.lists) c.put.result (eq-eqb s.cols 1 c.if-self-eq1.true) c.put.ensures.absent)
