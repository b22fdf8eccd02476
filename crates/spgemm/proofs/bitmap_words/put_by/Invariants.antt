use Rattle.std.proofs.Common.{◌≡◌, ◌<◌, ◌≤◌, ℕ, get_or}
use Rattle.terms.specs.Terms.{apply}
use Rattle.spgemm.proofs.bitmap_words.put_by.Given as goal

-- the words so far are put together, and the others are as they were
abbrev pub invariant-loop-at : goal.invariant-loop-at
invariant-loop-at l = record {
  words : (k : ℕ) → k < l.at → get_or l.words k 0 ≡ apply l.op (get_or l.initial.words k 0) (get_or l.others k 0);
  behind : (k : ℕ) → l.at ≤ k → get_or l.words k 0 ≡ get_or l.initial.words k 0;
}
