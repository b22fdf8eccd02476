-- What never changes of a slot.
use Rattle.stages.specs.Tasks.{Task}
use Rattle.stages.specs.declared.slot.Slot.{Slot}

abbrev pub task_of : {N : Type 0} → Slot N → Task
task_of slot = record { recipe = slot.was.value; inputs = slot.inputs }
