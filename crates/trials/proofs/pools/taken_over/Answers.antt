use Rattle.std.proofs.Common.{◌∙◌, ap, refl}
use Rattle.calls.specs.Recipes.{known_by_role}
use Rattle.calls.specs.declared.recipe.Accepted.{Accepted}
use Rattle.calls.specs.declared.role.Role.TheVariants.{First}
use Rattle.model.specs.Fault.{operation_fault}
use Rattle.trials.proofs.pools.taken_over.Goals as goal

pub invariant_of-new : goal.invariant_of-new
unfolding operation_fault
invariant_of-new c = record { accepted = rw c.large_signature-of.ensures refl }

pub returns-clause-first : goal.returns-clause-first
returns-clause-first c =
    c.straight.ensures.known First
    ∙ ap (λ (a : Accepted). known_by_role a.out a.operation First) c.in_ok-accepted.ensures.ok
    ∙ rw c.large_signature-of.ensures refl
