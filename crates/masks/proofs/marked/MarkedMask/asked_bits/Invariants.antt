use Rattle.std.proofs.Common.{◌≡◌, ◌+◌, ◌<◌, ◌≤◌, ℕ, eqb}
use Rattle.std.specs.Int.{bit_at}
use Rattle.model.specs.Entries.{word_at}
use Rattle.masks.specs.Masks.{lets_word}
use Rattle.masks.proofs.marked.MarkedMask.asked_bits.Given as goal

abbrev pub invariant-loop-k : goal.invariant-loop-k
invariant-loop-k l = record {
  done : (at : ℕ) → at < l.k → eqb (bit_at l.bits at) 1 ≡ lets_word l.self.test (word_at l.self.bitmap.now.entries (l.first + at) 0);
  left : (at : ℕ) → l.k ≤ at → bit_at l.bits at ≡ 0;
}
