-- The name is the history that was just begun.
use Rattle.agreement.proofs.answers.of_keeping.Given as goal

abbrev pub ghosts-keep_over : goal.ghosts-keep_over
ghosts-keep_over a = record { book = a.history }
