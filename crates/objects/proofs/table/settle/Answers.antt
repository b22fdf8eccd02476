-- One object after the other settles.
use Rattle.model.proofs.SettlesLaws.{settles-self, settles-then}
use Rattle.objects.specs.Tables.{state_in}
use Rattle.objects.proofs.table.settle.Goals as goal

pub loop-number-init : goal.loop-number-init
loop-number-init g c = settles-self (state_in c.args.table.now)

pub loop-number-preserved : goal.loop-number-preserved
loop-number-preserved g c =
    settles-then (state_in c.args.table.now) (state_in c.loop-number.table) (state_in c.settle_one.new.table) c.loop-number.invariant c.settle_one.ensures
