use Rattle.std.proofs.Common.{Some}
use Rattle.terms.specs.Marked.{lets_marked}
use Rattle.spgemm.proofs.KeptBits.{AreKeptBits}
use Rattle.spgemm.proofs.keep.keep_bits.Given as goal

abbrev pub invariant-loop-at : goal.invariant-loop-at
invariant-loop-at l = record { kept : AreKeptBits (lets_marked (Some l.mask)) l.initial.bits l.bits l.at }
