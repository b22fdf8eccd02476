use Rattle.std.proofs.Common.{◌≡◌, ℕ, ◌<◌, None, get_or}
use Rattle.store.specs.Stored.{Stored, content_of}
use Rattle.store.proofs.blocks.part_with.Given as goal

abbrev pub invariant-loop-at : goal.invariant-loop-at
invariant-loop-at l = (k : ℕ) (d : Stored) → k < l.at → content_of (get_or l.parts k d) l.i l.j ≡ None
