use Rattle.model.specs.Entries.{word_at}
use Rattle.store.proofs.RowPuts.{HaveRows}
use Rattle.store.proofs.forms.rows_of.Given as goal

abbrev pub invariant-loop-i : goal.invariant-loop-i
invariant-loop-i l =
    HaveRows l.bitmap.cols (word_at l.bitmap.entries) l.i l.lists.ends.items l.lists.inner.items l.lists.words.items
