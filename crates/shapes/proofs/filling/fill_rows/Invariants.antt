use Rattle.std.proofs.Common.{ℕ, ◌<◌, ◌≤◌}
use Rattle.std.specs.List.{All}
use Rattle.shapes.proofs.FillLaws.{IsFilling}
use Rattle.shapes.proofs.filling.fill_rows.Given as goal

abbrev pub invariant-loop-k : goal.invariant-loop-k
invariant-loop-k l = (first past size : ℕ) → first ≤ past → All (λ x. (first ≤ x) × (x < past)) l.rows → All (λ x. x < size) l.cols → IsFilling l.rows l.cols l.word l.k first past size l.lists
