-- Stores that fit take the roles.
use Rattle.calls.specs.declared.role.Role.TheVariants as role
use Rattle.kernel.proofs.TakenLaws.{old-store}
use Rattle.kernel.proofs.piece.taken.Goals as goal

pub input-requires : goal.input-requires
input-requires c = rw c.in-Some.is at (c.requires.inputs role.Mask)

pub invariant_of-out : goal.invariant_of-out
invariant_of-out c =
    let accepted = c.args.accepted.now in
    let is = old-store accepted.out accepted.operation c.args.stores c.args.unread c.requires.inputs c.requires.rows c.requires.cols c.requires.empty in
    rw c.unwrap_or.ensures (record { rows = is.rows; cols = is.cols; is_object = is.is_object })

pub input-requires-in-OfOne : goal.input-requires-in-OfOne
input-requires-in-OfOne c = rw c.in-OfOne.is at (c.requires.inputs role.First)

pub input-requires-in-OfTwo : goal.input-requires-in-OfTwo
input-requires-in-OfTwo c = rw c.in-OfTwo.is at (c.requires.inputs role.First)

pub input-requires-in-OfTwo-2 : goal.input-requires-in-OfTwo-2
input-requires-in-OfTwo-2 c = rw c.in-OfTwo.is at (c.requires.inputs role.Second)
