-- All rows of a store are in a range that has them.
use Rattle.std.proofs.Common.{◌≡◌, ◌≤◌, refl, rules, arith}
use Rattle.std.proofs.lemmas.Bool.Decides.{nat_tests}
use Rattle.store.specs.Fibers.{entries_from}
use Rattle.store.specs.Stored.{along}
use Rattle.store.proofs.Contents.{AreBetween, all_between, held_stored}
use Rattle.store.proofs.sparse.Sparse.fibers_in.Goals as goal
use Rattle.store.proofs.sparse.Sparse.fibers_in.Goals.{After-of_lists}

all : (c : After-of_lists)
    → AreBetween c.args.range.start c.args.range.end c.self.inside.rows c.self.inside.cols (along c.self.inside.cols (entries_from 0 c.self.inside.lists.ends.items c.self.inside.lists.inner.items c.self.inside.lists.words.items)) (along c.self.inside.cols c.of_lists.result.entries)
all c =
    let s = c.self.inside in
    let es = along s.cols (entries_from 0 s.lists.ends.items s.lists.inner.items s.lists.words.items) in
    let start : c.args.range.start ≡ 0 = grind (arith, nat_tests) in
    let end : s.rows ≤ c.args.range.end = grind (arith, nat_tests) in
    let is : along s.cols c.of_lists.result.entries ≡ es = rw (c.of_lists.ensures, c.deref.ensures.value, c.deref-then-self-range.ensures.value, c.deref-then-self-range-2.ensures.value) refl in
    rw (start, is) (all_between c.args.range.end s.rows s.cols es (held_stored s.rows s.cols s.lists.ends.items s.lists.inner.items s.lists.words.items c.self.invariant) end)

pub returns-then-self-range-clause-entries : goal.returns-then-self-range-clause-entries
returns-then-self-range-clause-entries c = rw (← c.self.view_is) (all (search rules)).entries

pub returns-then-self-range-clause-order : goal.returns-then-self-range-clause-order
returns-then-self-range-clause-order c = rw (← c.self.view_is) (all (search rules)).order
