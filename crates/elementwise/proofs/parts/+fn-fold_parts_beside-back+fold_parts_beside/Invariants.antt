use Rattle.std.proofs.Common.{◌+◌, ◌*◌, length}
use Rattle.elementwise.proofs.parts.+fn-fold_parts_beside-back+fold_parts_beside.Given as goal

-- the stores that are left; the closure comes between one round and the next
abbrev pub decreases-fold_parts_beside : goal.decreases-fold_parts_beside
decreases-fold_parts_beside g l = 2 * length l.parts.now + 1

abbrev pub decreases-back : goal.decreases-back
decreases-back g l = 2 * length l.high.now + 2
