-- Operations whose lists are lent.
use Rattle.model.specs.declared.call.Operation.{Operation}
use Rattle.model.specs.declared.call.Operation.TheVariants.{Fill, OfOne, OfTwo}
use Rattle.model.specs.declared.found.Lent.{Lent}
use Rattle.model.specs.declared.found.Lent.TheVariants as lent

abbrev pub operation_lent : {K : Type 0} → Lent K → Operation K
operation_lent (lent.Fill value region) = Fill value region.now
operation_lent (lent.OfOne computes a) = OfOne computes.now a
operation_lent (lent.OfTwo computes a b) = OfTwo computes a b
