-- No line so far says anything.
use Rattle.std.proofs.Common.{◌≡◌, ◌≤◌, length}
use Rattle.mmio.specs.Listing.{told_in}
use Rattle.mmio.proofs.told.first_told.Given as goal

abbrev pub invariant-loop-rest : goal.invariant-loop-rest
invariant-loop-rest l = record { told : told_in l.text ≡ told_in l.rest; within : length l.rest ≤ length l.text }

abbrev pub decreases-loop-rest : goal.decreases-loop-rest
decreases-loop-rest l = length l.rest
