use Rattle.std.proofs.Common.{◌≡◌, ◌<◌, ◌≤◌, ℕ, bit_or, get_or}
use Rattle.spgemm.proofs.bitmap_truths.put_to.Given as goal

-- the words so far are put together, and the others are as they were
abbrev pub invariant-loop-at : goal.invariant-loop-at
invariant-loop-at l = record {
  words : (k : ℕ) → k < l.at → get_or l.bits k 0 ≡ bit_or (get_or l.initial.bits k 0) (get_or l.others k 0);
  behind : (k : ℕ) → l.at ≤ k → get_or l.bits k 0 ≡ get_or l.initial.bits k 0;
}
