use Rattle.store.proofs.tuples.Tuples.into_rows.Goals as goal

pub returns-else-is_none_listed-clause-order : goal.returns-else-is_none_listed-clause-order
returns-else-is_none_listed-clause-order c order =
    c.self.invariant.unordered (rw (c.deref.ensures.value, c.deref-2.ensures.value) at c.is_none_listed.ensures.no c.if-is_none_listed.false) (rw (← c.self.view_is) at order)
