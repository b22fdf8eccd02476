use Rattle.std.proofs.Common.{◌≡◌, ◌<◌, ◌≤◌, ◌||◌, ℕ, false, get_or}
use Rattle.spgemm.proofs.bitmap_words.put_marks.Given as goal

-- the marks so far are put together, and the others are as they were
abbrev pub invariant-loop-at : goal.invariant-loop-at
invariant-loop-at l = record {
  marks : (k : ℕ) → k < l.at → get_or l.marks k false ≡ (get_or l.initial.marks k false || get_or l.others k false);
  behind : (k : ℕ) → l.at ≤ k → get_or l.marks k false ≡ get_or l.initial.marks k false;
}
