-- What of an operation doesn't depend on how its objects are named.
use Rattle.std.proofs.Common.{◌≡◌, refl}
use Rattle.model.specs.declared.call.Operation.{Operation}
use Rattle.model.specs.declared.call.Operation.TheVariants.{Fill, OfOne, OfTwo}
use Rattle.model.specs.Renamed.{renamed_operation}
use Rattle.model.specs.Table.{is_offered}

-- what the names of its operators say
pub offered-renamed : {K L : Type 0} (f : K → L) (op : Operation K)
    → is_offered (renamed_operation f op) ≡ is_offered op
offered-renamed f (Fill value region) = refl
offered-renamed f (OfOne computes a) = refl
offered-renamed f (OfTwo computes a b) = refl
