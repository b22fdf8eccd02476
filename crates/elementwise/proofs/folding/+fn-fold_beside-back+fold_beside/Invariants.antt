use Rattle.std.proofs.Common.{◌+◌, ◌*◌, length}
use Rattle.elementwise.proofs.folding.+fn-fold_beside-back+fold_beside.Given as goal

-- the words that are left; the closure comes between one round and the next
abbrev pub decreases-fold_beside : goal.decreases-fold_beside
decreases-fold_beside g l = 2 * length l.words.now + 1

abbrev pub decreases-back : goal.decreases-back
decreases-back g l = 2 * length l.high.now + 2
