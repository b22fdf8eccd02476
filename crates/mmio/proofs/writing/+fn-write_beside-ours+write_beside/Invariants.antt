use Rattle.std.proofs.Common.{◌+◌, ◌*◌}
use Rattle.mmio.proofs.writing.+fn-write_beside-ours+write_beside.Given as goal

-- the rows that are left; the closure comes between one round and the next
abbrev pub decreases-write_beside : goal.decreases-write_beside
decreases-write_beside g l = 2 * l.past + 1

abbrev pub decreases-ours : goal.decreases-ours
decreases-ours g l = 2 * l.middle + 2
