use Rattle.std.proofs.Common.{◌<◌, ◌≤◌, ◌/◌, ℕ, take}
use Rattle.std.specs.List.{All}
use Rattle.spgemm.proofs.span.span_of.Given as goal

abbrev pub invariant-loop-term : goal.invariant-loop-term
invariant-loop-term l = record {
  within : All (λ t. (l.ends.0 ≤ t.col) × (t.col ≤ l.ends.1)) (take l.term-index l.terms);
  bound : (words : ℕ) → 0 < words → All (λ t. t.col / 64 < words) (take l.term-index l.terms) → l.ends.1 / 64 < words;
}
