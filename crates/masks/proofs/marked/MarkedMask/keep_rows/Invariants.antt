use Rattle.store.specs.Stored.{transposed}
use Rattle.model.specs.declared.entry.Entry.{Entry}
use Rattle.model.specs.Entries.{word_at}
use Rattle.masks.specs.Masks.{lets_word}
use Rattle.masks.proofs.MarkedLaws.{IsMarked}
use Rattle.masks.proofs.marked.MarkedMask.keep_rows.Given as goal

abbrev pub invariant-loop-at : goal.invariant-loop-at
invariant-loop-at l = IsMarked (λ (e : Entry). lets_word l.self.test (word_at (transposed l.self.bitmap.now.entries) e.row e.col)) l.fn.rows l.fn.words l.rows l.words l.kept l.at
