use Rattle.std.proofs.Common.{◌+◌, ◌-◌, ◌<◌, ◌≤◌, length}
use Rattle.masks.proofs.KeptFiber.{IsKept}
use Rattle.masks.proofs.keep.keep_fiber.Given as goal

abbrev pub invariant-loop-at : goal.invariant-loop-at
invariant-loop-at l = IsKept l.test l.fn.inner l.fn.words l.from l.stored_inner l.stored_words l.inner l.words l.kept l.at l.next

abbrev pub decreases-loop-at : goal.decreases-loop-at
decreases-loop-at l = (length l.inner - l.at) + (length l.stored_inner - l.next)

abbrev pub invariant-loop-at-2 : goal.invariant-loop-at-2
invariant-loop-at-2 l = record {
  kept : IsKept l.test l.fn.inner l.fn.words l.from l.stored_inner l.stored_words l.inner l.words l.kept l.at l.next;
  over : l.at < length l.inner → length l.stored_inner ≤ l.next;
}

abbrev pub decreases-loop-at-2 : goal.decreases-loop-at-2
decreases-loop-at-2 l = length l.inner - l.at
