-- The operator of an accepted operation's accumulator is offered.
use Rattle.std.proofs.Common.{◌∙◌, sym}
use Rattle.std.proofs.lemmas.Bool.{true≢false}
use Rattle.kernel.proofs.Accepted.{task-accumulator}
use Rattle.kernel.proofs.output.accumulator_of.Goals as goal

pub unreachable-requires : goal.unreachable-requires
unreachable-requires c = true≢false (sym (task-accumulator c.args.task.now c.in_ok-op.op c.in_ok-op.was) ∙ c.in-None.ensures)
