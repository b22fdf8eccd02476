-- A value at all positions is what a fill of all of them computes.
use Rattle.std.proofs.Common.{rules}
use Rattle.std.specs.Int.{w128}
use Rattle.std.specs.Int.RustNames.{FitsSigned}
use Rattle.std.proofs.lemmas.Int.{to_z-of_z}
use Rattle.model.specs.Operations.{operation}
use Rattle.kernel.proofs.bitmaps.operation_bitmap.Goals as goal

pub returns-in-Fill-clause-all : goal.returns-in-Fill-clause-all
unfolding operation
returns-in-Fill-clause-all g c =
    let fits : FitsSigned w128 c.in-Fill.value = search rules in
    rw c.in-Fill.is (rw (c.wrapped.ensures, to_z-of_z w128 c.in-Fill.value fits) at c.filled_bitmap.ensures.all)

pub returns-in-OfOne-clause-all : goal.returns-in-OfOne-clause-all
unfolding operation
returns-in-OfOne-clause-all g c = rw c.in-OfOne.is c.one_bitmap.ensures.all

pub returns-in-OfTwo-clause-all : goal.returns-in-OfTwo-clause-all
unfolding operation
returns-in-OfTwo-clause-all g c = rw c.in-OfTwo.is c.two_bitmap.ensures
