use Rattle.std.proofs.Common.{◌≡◌, ◌<◌, ◌-◌, ℕ, get_or, length, take}
use Rattle.store.specs.Fibers.{entries_along}
use Rattle.masks.specs.Joins.{IsJoinBy}
use Rattle.masks.proofs.full.put_words.Given as goal

abbrev pub invariant-loop-k : goal.invariant-loop-k
invariant-loop-k l = record {
  long : length l.words ≡ length l.full.inner.now;
  joined_are : (outer : ℕ) (f : ℕ → ℕ → ℕ) → ((k : ℕ) → k < length l.other.inner.now → get_or l.joined k 0
      ≡ f (get_or l.full.words.now (get_or l.other.inner.now k 0 - get_or l.full.inner.now 0 0) 0) (get_or l.other.words.now k 0))
      → IsJoinBy f (entries_along outer l.full.inner.now l.full.words.now)
      (entries_along outer (take l.k l.other.inner.now) (take l.k l.other.words.now)) (entries_along outer l.full.inner.now l.words);
}
