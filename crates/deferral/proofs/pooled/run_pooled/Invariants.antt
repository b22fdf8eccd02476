-- The name is the log that was just made.
use Rattle.deferral.proofs.pooled.run_pooled.Given as goal

abbrev pub ghosts-run_over_pool : goal.ghosts-run_over_pool
ghosts-run_over_pool g a = record { log = a.log }
