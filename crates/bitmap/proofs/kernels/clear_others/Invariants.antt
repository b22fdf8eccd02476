use Rattle.std.proofs.Common.{◌≡◌, ◌<◌, ◌≤◌, ℕ, bit_and, get_or}
use Rattle.bitmap.proofs.kernels.clear_others.Given as goal

-- the words so far are cleared, and the others are as they were
abbrev pub invariant-loop-at : goal.invariant-loop-at
invariant-loop-at l = record {
  words : (k : ℕ) → k < l.at → get_or l.bits k 0 ≡ bit_and (get_or l.initial.bits k 0) (get_or l.keeps k 0);
  behind : (k : ℕ) → l.at ≤ k → get_or l.bits k 0 ≡ get_or l.initial.bits k 0;
}
