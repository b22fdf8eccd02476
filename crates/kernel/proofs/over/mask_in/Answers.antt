-- The mask has the output's shape.
use Rattle.std.proofs.Common.{refl}
use Rattle.kernel.proofs.OverLaws.{mask-taken}
use Rattle.kernel.proofs.over.mask_in.Goals as goal

pub returns-in-Some-clause-shape : goal.returns-in-Some-clause-shape
returns-in-Some-clause-shape c =
    let accepted = c.args.accepted.now in
    mask-taken accepted.out accepted.operation accepted.accepted accepted.out.mask refl c.in-Some.store.now (rw c.in-Some.is at c.requires)
