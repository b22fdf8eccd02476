-- The name is the history that was just begun.
use Rattle.trials.proofs.scripts.tasks_of.Given as goal

abbrev pub ghosts-run_over : goal.ghosts-run_over
ghosts-run_over a = record { book = a.history }
