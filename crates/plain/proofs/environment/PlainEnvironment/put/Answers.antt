-- The object stands behind those of other names.
use Rattle.std.proofs.Common.{◌∙◌, ◌++◌, ◌∷◌, [], List, ap, refl}
use Rattle.plain.specs.declared.objects.PlainObject.{PlainObject}
use Rattle.plain.proofs.EnvironmentLaws.{environment-kept, environment-put, match_err}
use Rattle.plain.proofs.environment.PlainEnvironment.put.Goals as goal

pub returns-in_err-reserve : goal.returns-in_err-reserve
returns-in_err-reserve c =
    match_err c.from_residual.result _ c.from_residual.ensures.0
    (environment-kept c.args.self.now (record { objects = c.reserve.new.self; live = c.args.self.now.live }) c.in_err-reserve.ensures.items refl)

pub returns : goal.returns
returns c =
    let left = rw (c.as_str.ensures.value, c.reserve.ensures.items) at c.take_off.ensures.left in
    environment-put c.args.self.now (record { objects = c.push_reserved.new.self; live = c.args.live }) c.args.object c.args.live
    (c.push_reserved.ensures.items ∙ ap (λ (os : List PlainObject). os ++ c.args.object ∷ []) left) refl
