use Rattle.std.proofs.Common.{◌≡◌, ◌<◌, ◌*◌, ℕ, length, min, slice_index}
use Rattle.bitmap.specs.Words.{IsMade, places_of}
use Rattle.bitmap.proofs.making.make_alone.Given as goal

abbrev pub invariant-loop-part : goal.invariant-loop-part
invariant-loop-part l =
    (length l.made.items ≡ min (places_of l.words) (4096 * l.part))
    × ((k : ℕ) → k < length l.made.items → IsMade l.words k (slice_index l.made.items k))
