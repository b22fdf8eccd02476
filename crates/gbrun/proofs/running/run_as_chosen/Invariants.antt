-- The names are the history that was just begun, and the log that was just made.
use Rattle.gbrun.proofs.running.run_as_chosen.Given as goal

abbrev pub ghosts-run_inline : goal.ghosts-run_inline
ghosts-run_inline g a = record { book = a.history }

abbrev pub ghosts-run_pooled : goal.ghosts-run_pooled
ghosts-run_pooled g a = record { log = a.log }
