use Rattle.store.specs.Fibers.{entries_from}
use Rattle.store.specs.Stored.{along}
use Rattle.store.proofs.Content.{nothing_outside}
use Rattle.store.proofs.Contents.{held_stored}
use Rattle.store.proofs.sparse.Sparse.rows.Goals as goal

pub returns-clause-within : goal.returns-clause-within
returns-clause-within c =
    let s = c.self.inside in
    let entries = along s.cols (entries_from 0 s.lists.ends.items s.lists.inner.items s.lists.words.items) in
    rw (← c.self.view_is) (λ i j outside. nothing_outside s.rows s.cols entries i j
    (held_stored s.rows s.cols s.lists.ends.items s.lists.inner.items s.lists.words.items c.self.invariant).inside outside)
