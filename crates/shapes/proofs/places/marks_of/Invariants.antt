use Rattle.std.proofs.Common.{◌≡◌, ◌<◌, ◌+◌, ◌-◌, ◌^◌, ℕ, bit_and, false, get_or, length, true}
use Rattle.shapes.proofs.places.marks_of.Given as goal

-- the columns so far have their marks, and no others
abbrev pub invariant-loop-col : goal.invariant-loop-col
invariant-loop-col l = record {
  long : l.mask < 2 ^ 64 - 1 → length l.marks.items ≡ l.mask + 1;
  marked : (k : ℕ) → k < l.col-index → get_or l.marks.items (bit_and (get_or l.cols k 0) l.mask) true ≡ true;
  only : (n : ℕ) → get_or l.marks.items n false ≡ true
      → (k : ℕ) × (k < l.col-index) × (bit_and (get_or l.cols k 0) l.mask ≡ n);
}
