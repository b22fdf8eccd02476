use Rattle.std.proofs.Common.{◌+◌, ◌*◌, length}
use Rattle.gbrun.proofs.files.+fill+fn-fill-ours.Given as goal

-- the bytes that are left; the closure comes between one round and the next
abbrev pub decreases-fill : goal.decreases-fill
decreases-fill g l = 2 * length l.bytes.now + 1

abbrev pub decreases-ours : goal.decreases-ours
decreases-ours g l = 2 * length l.back.now + 2
