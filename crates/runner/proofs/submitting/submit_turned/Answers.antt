-- The inputs take the roles of the recipe once they are transposed or exchanged, and what it makes of them is what the
-- operation leaves.
use Rattle.std.proofs.Common.{◌∙◌, ap}
use Rattle.std.proofs.lemmas.Result.{IfOk-weaker}
use Rattle.calls.specs.declared.recipe.Accepted.{Accepted}
use Rattle.calls.specs.Recipes.{known_by_role, meaning}
use Rattle.calls.specs.Stores.{object_with}
use Rattle.runner.proofs.SubmittingLaws.{fits-exchanged, fits-transposed, made-exchanged, made-transposed}
use Rattle.runner.specs.Tickets.{AreInputs, maps_by}
use Rattle.runner.proofs.submitting.submit_turned.Goals as goal

pub submit-requires : goal.submit-requires
submit-requires g c =
    let accepted = c.into_inner.result in
    let inputs : AreInputs g.R.Runner.object_of (known_by_role accepted.out accepted.operation) c.args.inputs = rw c.into_inner.ensures c.requires.inputs in
    let made = c.in_ok-recipe in
    rw c.exchanged.ensures (record { fits = fits-exchanged g.R.Runner.object_of c.args.inputs (known_by_role accepted.out accepted.operation) made.recipe made.turns accepted.out.c (meaning accepted.out accepted.operation) inputs made.ensures.makes made.ensures.known made.ensures.meaning c.in-Exchanged.is })

pub submit_transposed-requires-clause-inputs : goal.submit_transposed-requires-clause-inputs
submit_transposed-requires-clause-inputs g c =
    let accepted = c.into_inner.result in
    let inputs : AreInputs g.R.Runner.object_of (known_by_role accepted.out accepted.operation) c.args.inputs = rw c.into_inner.ensures c.requires.inputs in
    let made = c.in_ok-recipe in
    fits-transposed g.R.Runner.object_of c.args.inputs (known_by_role accepted.out accepted.operation) made.recipe made.turns accepted.out.c (meaning accepted.out accepted.operation) inputs made.ensures.makes made.ensures.known made.ensures.meaning c.in-Transposed.first c.in-Transposed.second c.in-Transposed.is

pub returns-in-Exchanged-clause-object : goal.returns-in-Exchanged-clause-object
returns-in-Exchanged-clause-object g c =
    let accepted = c.into_inner.result in
    let inputs : AreInputs g.R.Runner.object_of (known_by_role accepted.out accepted.operation) c.args.inputs = rw c.into_inner.ensures c.requires.inputs in
    let made = c.in_ok-recipe in
    let same = made-exchanged g.R.Runner.object_of c.args.inputs (known_by_role accepted.out accepted.operation) made.recipe made.turns accepted.out.c (meaning accepted.out accepted.operation) inputs made.ensures.makes made.ensures.known made.ensures.meaning c.in-Exchanged.is in
    IfOk-weaker c.submit.result _ _ (λ t is. is ∙ same ∙ ap (λ (a : Accepted). object_with a.out.c (meaning a.out a.operation (maps_by g.R.Runner.object_of c.args.inputs))) c.into_inner.ensures) (rw c.exchanged.ensures at c.submit.ensures.object)

pub returns-in-Transposed-clause-object : goal.returns-in-Transposed-clause-object
returns-in-Transposed-clause-object g c =
    let accepted = c.into_inner.result in
    let inputs : AreInputs g.R.Runner.object_of (known_by_role accepted.out accepted.operation) c.args.inputs = rw c.into_inner.ensures c.requires.inputs in
    let made = c.in_ok-recipe in
    let same = made-transposed g.R.Runner.object_of c.args.inputs (known_by_role accepted.out accepted.operation) made.recipe made.turns accepted.out.c (meaning accepted.out accepted.operation) inputs made.ensures.makes made.ensures.known made.ensures.meaning c.in-Transposed.first c.in-Transposed.second c.in-Transposed.is in
    IfOk-weaker c.submit_transposed.result _ _ (λ t is. is ∙ same ∙ ap (λ (a : Accepted). object_with a.out.c (meaning a.out a.operation (maps_by g.R.Runner.object_of c.args.inputs))) c.into_inner.ensures) c.submit_transposed.ensures.object
