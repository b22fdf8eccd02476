use Rattle.std.proofs.Common.{length}
use Rattle.store.specs.Forms.{of_bitmap}
use Rattle.spgemm.proofs.RowSums.{AreSummedDown}
use Rattle.spgemm.proofs.bitmap_column.sum_rows_by.Given as goal

abbrev pub invariant-loop-row : goal.invariant-loop-row
invariant-loop-row l = AreSummedDown l.semiring l.a (of_bitmap l.u) l.bits l.sums l.rest.entries

abbrev pub decreases-loop-row : goal.decreases-loop-row
decreases-loop-row l = length l.rest.entries
