use Rattle.std.proofs.Common.{◌≡◌}
use Rattle.trials.proofs.forms.settled.Given as goal

abbrev pub invariant-loop-i : goal.invariant-loop-i
invariant-loop-i l = record { rows : l.store.rows ≡ 64; cols : l.store.cols ≡ 1 }
