-- The scalar is the one that was handed on.
use Rattle.std.proofs.Common.{rules}
use Rattle.std.specs.Int.{w128}
use Rattle.std.specs.Int.RustNames.{FitsSigned}
use Rattle.std.proofs.lemmas.Int.{to_z-of_z}
use Rattle.plain.proofs.operations.one_at.Goals as goal

pub returns-in-Select : goal.returns-in-Select
returns-in-Select c =
    let fits : FitsSigned w128 c.in-Select.scalar = search rules in
    let selected = rw (to_z-of_z w128 c.in-Select.scalar fits) at c.selected.ensures in
    rw c.in-Select.is selected
