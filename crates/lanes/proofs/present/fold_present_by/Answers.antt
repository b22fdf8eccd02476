use Rattle.lanes.specs.Bits.{present_from}
use Rattle.lanes.proofs.present.fold_present_by.Goals as goal

pub loop-at-init : goal.loop-at-init
unfolding present_from
loop-at-init c = c.identity-sum.ensures
