use Rattle.std.proofs.Common.{◌≡◌, ◌*◌, ◌/◌, ◌<◌, ◌≤◌, ◌⊎◌, ℕ, get_or, length, take, true}
use Rattle.store.specs.Fibers.{entries_along}
use Rattle.lanes.specs.Bits.{has_bit}
use Rattle.spgemm.specs.Dense.{AreColumnSums}
use Rattle.terms.specs.Terms.{terms_of_row}
use Rattle.spgemm.proofs.dense.add_rows_by.Given as goal

abbrev pub invariant-loop-k : goal.invariant-loop-k
invariant-loop-k l = record {
  sums : AreColumnSums l.semiring.add.op (terms_of_row l.semiring.multiply (take l.k (entries_along l.row.index l.row.cols.now l.row.words.now)) l.b) l.bits l.sums;
  others : (at : ℕ) → (at < l.ends.0 / 64) ⊎ (l.ends.1 / 64 < at) → get_or l.bits at 0 ≡ get_or l.initial.bits at 0;
  past : (past : ℕ) → 0 < past → l.b.cols ≤ past → l.ends.1 < past;
  bound : l.full ≤ length l.bits;
  full : (at : ℕ) → at < 64 * l.full → has_bit l.bits at ≡ true;
}
