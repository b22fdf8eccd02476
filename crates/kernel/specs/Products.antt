-- Which operations are products.
use Rattle.std.specs.Prelude.{Bool, false, true}
use Rattle.model.specs.declared.call.Operation.{Operation}
use Rattle.model.specs.declared.call.Operation.TheVariants.{Fill, OfOne, OfTwo}
use Rattle.model.specs.declared.call.TwoInputs.{TwoInputs}
use Rattle.model.specs.declared.call.TwoInputs.TheVariants.{Combine, Multiply}

-- whether a combination of two inputs is a product
unfoldable pub is_product_of : TwoInputs → Bool
is_product_of (Multiply form semiring) = true
is_product_of (Combine positions op) = false

-- ..and whether an operation is one
unfoldable pub is_product : {K : Type 0} → Operation K → Bool
is_product (Fill value region) = false
is_product (OfOne computes a) = false
is_product (OfTwo computes a b) = is_product_of computes
