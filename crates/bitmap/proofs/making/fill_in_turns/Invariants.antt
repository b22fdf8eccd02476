use Rattle.std.proofs.Common.{◌≡◌, ◌<◌, ◌+◌, ◌*◌, ℕ, length, min, slice_index}
use Rattle.bitmap.specs.Words.{IsMade}
use Rattle.bitmap.proofs.making.fill_in_turns.Given as goal

abbrev pub invariant-loop-turn : goal.invariant-loop-turn
invariant-loop-turn l = record {
  long : length l.part ≡ length l.fn.part;
  made : (k : ℕ) → k < min (length l.part) (4096 * l.turn) → IsMade l.words (l.start + k) (slice_index l.part k);
}
