use Rattle.std.proofs.Common.{◌≡◌, ◌≢◌, ◌/◌, ℕ, get_or, take}
use Rattle.std.specs.List.{All}
use Rattle.spgemm.specs.Dense.{AreColumnSums}
use Rattle.spgemm.proofs.dense.add_terms_by.Given as goal

abbrev pub invariant-loop-term : goal.invariant-loop-term
invariant-loop-term l = record {
  sums : AreColumnSums l.semiring.add.op (take l.term-index l.terms) l.bits l.sums;
  others : (at : ℕ) → All (λ t. t.col / 64 ≢ at) (take l.term-index l.terms) → get_or l.bits at 0 ≡ 0;
}
