-- Tasks on the objects that their inputs are.
use Rattle.kernel.specs.declared.task.Task.{Task}
use Rattle.kernel.specs.Inputs.{object_of}
use Rattle.model.specs.declared.call.Operation.{Operation}
use Rattle.model.specs.declared.call.Out.{Out}
use Rattle.model.specs.Lent.{operation_lent}
use Rattle.model.specs.Object.{Object}
use Rattle.model.specs.Renamed.{renamed_operation, renamed_out}

abbrev pub out_of : Task → Out Object
out_of task = renamed_out object_of task.out

abbrev pub operation_of : Task → Operation Object
operation_of task = renamed_operation object_of (operation_lent task.operation)
