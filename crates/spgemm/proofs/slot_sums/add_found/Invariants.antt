use Rattle.std.proofs.Common.{◌++◌, List, take}
use Rattle.store.specs.Fibers.{entries_along}
use Rattle.spgemm.specs.Slots.{AreSlotSums}
use Rattle.terms.specs.Terms.{times_row}
use Rattle.terms.specs.declared.term.Term.{Term}
use Rattle.spgemm.proofs.SlotSearch.{AreSearched}
use Rattle.spgemm.proofs.slot_sums.add_found.Given as goal

abbrev pub invariant-loop-at : goal.invariant-loop-at
invariant-loop-at l = record {
  searched : AreSearched l.slots l.cols l.at l.from;
  sums : (terms : List Term) → AreSlotSums l.semiring.add.op l.slots terms l.initial.sums
      → AreSlotSums l.semiring.add.op l.slots (terms ++ times_row l.semiring.multiply l.word (take l.from (entries_along 0 l.cols l.words))) l.sums;
}
