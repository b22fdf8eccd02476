use Rattle.std.proofs.Common.{◌≡◌, ◌≤◌, ℕ, Some, slice_get}
use Rattle.stages.proofs.ready.place_of.Given as goal

abbrev pub invariant-loop-place : goal.invariant-loop-place
invariant-loop-place l = (m k : ℕ) → l.place ≤ m → slice_get l.ready.items m ≡ Some k → l.number ≤ k
