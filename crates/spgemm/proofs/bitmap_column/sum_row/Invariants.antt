use Rattle.std.proofs.Common.{◌≡◌, take}
use Rattle.store.specs.Fibers.{entries_along}
use Rattle.store.specs.Forms.{of_bitmap}
use Rattle.terms.specs.Terms.{sum_at, terms_of_row}
use Rattle.spgemm.proofs.bitmap_column.sum_row.Given as goal

abbrev pub invariant-loop-k : goal.invariant-loop-k
invariant-loop-k l = l.sum ≡ sum_at l.semiring.add.op 0 (terms_of_row l.semiring.multiply (take l.k (entries_along l.row.index l.row.cols.now l.row.words.now)) (of_bitmap l.u))
