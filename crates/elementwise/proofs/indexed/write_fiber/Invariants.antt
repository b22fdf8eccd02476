use Rattle.std.proofs.Common.{◌≡◌, ℕ, ◌<◌, ◌≤◌, get_or}
use Rattle.elementwise.specs.Mapped.{answer_by, as_they_lie}
use Rattle.elementwise.proofs.indexed.write_fiber.Given as goal

abbrev pub invariant-loop-k : goal.invariant-loop-k
invariant-loop-k l = record {
  made : (n : ℕ) → n < l.k
      → get_or l.words n 0 ≡ as_they_lie l.is_column (answer_by l.op l.s) l.outer (get_or l.inner n 0)
      (get_or l.fn.words n 0);
  left : (n : ℕ) → l.k ≤ n → get_or l.words n 0 ≡ get_or l.fn.words n 0;
}
