use Rattle.std.proofs.Common.{map, sym, subst}
use Rattle.std.proofs.lemmas.Bool.{cases_from_iff, iff_false}
use Rattle.calls.specs.declared.role.Role.TheVariants.{Old, Mask, First, Second}
use Rattle.calls.specs.declared.role.Roles.{Roles}
use Rattle.calls.specs.Roles.{lent_roles, role_of}
use Rattle.model.specs.declared.shape.Signature.{Signature}
use Rattle.board.specs.Fits.{IsThere}
use Rattle.stages.specs.Slots.{task_of}
use Rattle.board.proofs.FitLaws.{all_roles}
use Rattle.board.proofs.inputs.are_there.Goals as goal

pub returns-then-not-is_there : goal.returns-then-not-is_there
returns-then-not-is_there g c = λ all. iff_false c.is_there.ensures c.if-not-is_there.true
    (subst (λ (k : Roles Signature). IsThere (map (task_of {N = _}) c.args.slots.now) c.args.stages.now k.old c.args.inputs.now.old) (sym c.inputs_of-known.ensures) (all Old))

pub returns-then-not-is_there-2 : goal.returns-then-not-is_there-2
returns-then-not-is_there-2 g c = λ all. iff_false c.is_there-2.ensures c.if-not-is_there-2.true
    (subst (λ (k : Roles Signature). IsThere (map (task_of {N = _}) c.args.slots.now) c.args.stages.now k.mask c.args.inputs.now.mask) (sym c.inputs_of-known.ensures) (all Mask))

pub returns-then-not-is_there-3 : goal.returns-then-not-is_there-3
returns-then-not-is_there-3 g c = λ all. iff_false c.is_there-3.ensures c.if-not-is_there-3.true
    (subst (λ (k : Roles Signature). IsThere (map (task_of {N = _}) c.args.slots.now) c.args.stages.now k.first c.args.inputs.now.first) (sym c.inputs_of-known.ensures) (all First))

pub returns : goal.returns
returns g c = cases_from_iff (
  (λ last role. subst (λ (k : Roles Signature). IsThere (map (task_of {N = _}) c.args.slots.now) c.args.stages.now (role_of k role) (role_of c.args.inputs.now role)) c.inputs_of-known.ensures
      (all_roles _ _ (lent_roles c.inputs_of-known.result) c.args.inputs.now (c.is_there.ensures.0 c.if-not-is_there.false) (c.is_there-2.ensures.0 c.if-not-is_there-2.false) (c.is_there-3.ensures.0 c.if-not-is_there-3.false) (c.is_there-4.ensures.0 last) role)),
  (λ all. c.is_there-4.ensures.1 (subst (λ (k : Roles Signature). IsThere (map (task_of {N = _}) c.args.slots.now) c.args.stages.now k.second c.args.inputs.now.second) (sym c.inputs_of-known.ensures) (all Second))),
)
