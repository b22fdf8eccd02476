use Rattle.std.proofs.Common.{◌+◌, ◌*◌, length}
use Rattle.mmio.proofs.parts.+fn-list_beside-ours+list_beside.Given as goal

-- the text that is left; the closure comes between one round and the next
abbrev pub decreases-list_beside : goal.decreases-list_beside
decreases-list_beside g l = 2 * length l.text.now + 1

abbrev pub decreases-ours : goal.decreases-ours
decreases-ours g l = 2 * length l.front.now + 2
