-- What an accepted operation says of its inputs and its output.
use Rattle.std.specs.Prelude.{◌≡◌, true}
use Rattle.model.specs.declared.call.Plan.{Plan}
use Rattle.model.specs.declared.shape.Signature.{Signature}
use Rattle.model.specs.Object.{same_shape}

-- its plan passes the checks, and is of the output's shape
pub record Accepts (plan : Plan) (c : Signature) : Type 0 where
  pub kinds : plan.kinds ≡ true
  pub fits : plan.fits ≡ true
  pub compatible : plan.compatible ≡ true
  pub inside : plan.inside ≡ true
  pub values : plan.values ≡ true
  pub shape : same_shape plan.shape c.shape ≡ true
