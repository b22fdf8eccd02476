-- The word gets shorter.
use Rattle.std.proofs.Common.{length}
use Rattle.lines.proofs.kinds.+flags_added.Given as goal

abbrev pub decreases-flags_added : goal.decreases-flags_added
decreases-flags_added l = length l.word.now
