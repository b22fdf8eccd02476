use Rattle.std.proofs.Common.{◌≡◌, ◌<◌, ℕ, false, get_or, length, take}
use Rattle.shapes.specs.Lists.{has_index}
use Rattle.shapes.proofs.members.marks_of.Given as goal

-- so many marks say which indices the first part of the list has
abbrev pub invariant-loop-index : goal.invariant-loop-index
invariant-loop-index l = record {
  long : length l.marks.items ≡ l.count;
  exact : (i : ℕ) → i < length l.marks.items → get_or l.marks.items i false ≡ has_index (take l.index-index l.list) i;
}
