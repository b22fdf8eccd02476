-- Inputs are lower slots.
use Rattle.desk.proofs.dropping.+give_up.Given as goal

abbrev pub decreases-give_up : goal.decreases-give_up
decreases-give_up g l = l.slot
