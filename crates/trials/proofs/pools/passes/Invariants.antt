-- The name is the log that was just made.
use Rattle.trials.proofs.pools.passes.Given as goal

abbrev pub ghosts-over_log : goal.ghosts-over_log
ghosts-over_log g a = record { log = a.log }
