use Rattle.std.proofs.Common.{◌+◌, ◌*◌, length}
use Rattle.bitmap.proofs.making.+fill_beside+fn-fill_beside-back.Given as goal

-- the words that are left; the closure comes between one round and the next
abbrev pub decreases-fill_beside : goal.decreases-fill_beside
decreases-fill_beside g l = 2 * length l.part.now + 1

abbrev pub decreases-back : goal.decreases-back
decreases-back g l = 2 * length l.high.now + 2
