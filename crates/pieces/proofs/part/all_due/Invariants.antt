use Rattle.std.proofs.Common.{◌≡◌, ◌≤◌, replicate}
use Rattle.std.specs.Prelude.{vec_capacity}
use Rattle.pieces.specs.declared.part.Part.TheVariants.{Due}
use Rattle.pieces.proofs.part.all_due.Given as goal

abbrev pub invariant-loop-piece : goal.invariant-loop-piece
invariant-loop-piece l = (l.parts.items ≡ replicate l._piece Due) × (l.count ≤ vec_capacity l.parts)
