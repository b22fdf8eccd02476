-- What is listed and what is left make up the whole; what is left gets shorter.
use Rattle.std.proofs.Common.{length}
use Rattle.mmio.proofs.ListingLaws.{HasListed}
use Rattle.mmio.proofs.listing.list_lines.Given as goal

abbrev pub invariant-loop-said : goal.invariant-loop-said
invariant-loop-said g l = HasListed l.domain l.heading l.text l.rest (g.C.Collects.entries_of l.entries) l.lines

abbrev pub decreases-loop-said : goal.decreases-loop-said
decreases-loop-said g l = length l.rest
