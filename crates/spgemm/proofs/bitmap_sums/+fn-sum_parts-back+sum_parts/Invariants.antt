use Rattle.std.proofs.Common.{◌+◌, ◌*◌}
use Rattle.spgemm.proofs.bitmap_sums.+fn-sum_parts-back+sum_parts.Given as goal

-- the parts that are left; the closure comes between one round and the next
abbrev pub decreases-back : goal.decreases-back
decreases-back g l = 2 * l.parts

abbrev pub decreases-sum_parts : goal.decreases-sum_parts
decreases-sum_parts g l = 2 * l.parts + 1
