use Rattle.board.proofs.BoardLaws.{sound_empty}
use Rattle.board.proofs.slots.Slots.clear.Goals as goal

pub invariant_of-self : goal.invariant_of-self
invariant_of-self g c = record {
  sound =
      rw (c.clear.ensures.items, c.clear-2.ensures.items, c.clear-3.ensures.items, c.clear-4.ensures.items, c.clear-5.ensures.items, c.clear-6.ensures.items)
      (sound_empty _);
}
