use Rattle.std.proofs.Common.{length}
use Rattle.agreement.proofs.scripts.is_small.Given as goal

abbrev pub decreases-loop-rest : goal.decreases-loop-rest
decreases-loop-rest l = length l.rest
