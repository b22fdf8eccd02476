use Rattle.std.proofs.Common.{◌≡◌, ◌<◌, ◌-◌, ℕ, get_or, length}
use Rattle.masks.proofs.full.join_beside.Given as goal

abbrev pub invariant-loop-k : goal.invariant-loop-k
invariant-loop-k l = record {
  long : length l.beside.items ≡ length l.other.inner.now;
  words : (k : ℕ) → k < l.k
      → get_or l.beside.items k 0 ≡ get_or l.full.words.now (get_or l.other.inner.now k 0 - get_or l.full.inner.now 0 0) 0;
}
