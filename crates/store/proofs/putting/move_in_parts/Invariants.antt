-- What is behind the end has its new place, and what is before the place is as it was.
use Rattle.std.proofs.Common.{◌≡◌, ◌≤◌, ℕ, List, length, take}
use Rattle.store.specs.Puts.{around}
use Rattle.store.proofs.putting.move_in_parts.Given as goal

pub record Moved (at left gap end : ℕ) (old new : List ℕ) : Type 0 where
  pub low : at ≤ end
  pub high : end ≤ left
  pub length_is : length new ≡ length old
  pub around_is : around end gap new ≡ around left gap old
  pub kept : take at new ≡ take at old

abbrev pub invariant-loop-end : goal.invariant-loop-end
invariant-loop-end l = Moved l.at l.left l.gap l.end l.fn.list l.list

abbrev pub decreases-loop-end : goal.decreases-loop-end
decreases-loop-end l = l.end
