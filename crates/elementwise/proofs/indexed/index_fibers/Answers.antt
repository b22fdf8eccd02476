-- The entries lie where they lay.
use Rattle.std.proofs.Common.{◌≡◌, ◌∙◌, ap, length, map, rules}
use Rattle.model.specs.declared.entry.Entry.{Entry}
use Rattle.store.specs.Fibers.{entries_from}
use Rattle.elementwise.specs.Mapped.{answer_by, as_they_lie, mapped}
use Rattle.elementwise.proofs.MappedLaws.{flat-mapped}
use Rattle.elementwise.proofs.indexed.index_fibers.Goals as goal
use Rattle.elementwise.proofs.indexed.index_fibers.Goals.{In_ok-words}

pub answers-requires : goal.answers-requires
answers-requires c = rw (c.deref.ensures.value, c.deref-2.ensures.value, c.words.ensures) c.in_ok-ends.ensures.flat

entries_made : (c : In_ok-words)
    → entries_from 0 c.in_ok-ends.ends.items c.in_ok-ends.inner.items c.in_ok-words.words.items ≡ mapped (as_they_lie c.args.is_column (answer_by c.args.op c.args.s)) (entries_from 0 c.in_ok-ends.ends.items c.in_ok-ends.inner.items (map (λ (e : Entry). e.word) c.args.fibers.now.entries))
entries_made c = rw (c.deref.ensures.value, c.deref-2.ensures.value, c.words.ensures) at c.in_ok-words.ensures.entries

pub returns-clause-flat : goal.returns-clause-flat
returns-clause-flat c =
    let old = map (λ (e : Entry). e.word) c.args.fibers.now.entries in
    flat-mapped (as_they_lie c.args.is_column (answer_by c.args.op c.args.s)) c.in_ok-ends.ends.items c.in_ok-ends.inner.items old c.in_ok-words.words.items c.in_ok-ends.ensures.flat
    (c.in_ok-words.ensures.length ∙ ap length c.words.ensures) (entries_made (search rules))

pub returns-clause-entries : goal.returns-clause-entries
returns-clause-entries c = entries_made (search rules) ∙ ap (mapped (as_they_lie c.args.is_column (answer_by c.args.op c.args.s))) c.in_ok-ends.ensures.entries
