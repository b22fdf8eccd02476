-- Stores that fit take the roles.
use Rattle.calls.specs.declared.role.Role.TheVariants as role
use Rattle.kernel.proofs.piece.eval_piece_by.Goals as goal

pub taking-requires : goal.taking-requires
taking-requires g c = rw c.deref-in-Patch-2.ensures (rw c.in-Patch.is at (c.requires.inputs role.Old))

pub taking-old-requires : goal.taking-old-requires
taking-old-requires g c = rw c.deref-in-Resized.ensures (rw c.in-Resized.is at (c.requires.inputs role.Old))

pub taking-a-requires : goal.taking-a-requires
taking-a-requires g c = rw c.deref-in-Transposed.ensures (rw c.in-Transposed.is at (c.requires.inputs role.First))
