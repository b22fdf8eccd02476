-- Slots as they are seen.
use Rattle.std.specs.Prelude.{map}
use Rattle.stages.specs.Slots.{task_of}
use Rattle.stages.specs.Stages.{progress_of}
use Rattle.stages.specs.Views.{View}
use Rattle.board.specs.declared.slots.Slots.{Slots}

abbrev pub slots_view : {N : Type 0} → Slots N → View N
slots_view slots = record {
  tasks = map task_of slots.slots.items;
  notes = map (λ s. s.note) slots.slots.items;
  progress = map progress_of slots.stages.items;
  holds = slots.holds.items;
}
