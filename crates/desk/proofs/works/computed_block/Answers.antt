-- The old store is taken over, or all are lent.
use Rattle.std.proofs.Common.{◌≡◌, refl, subst, sym}
use Rattle.std.proofs.lemmas.Result.{IfOk-weaker}
use Rattle.board.specs.Pieces.{maps_in as maps_had}
use Rattle.calls.specs.declared.role.Role.{Role}
use Rattle.calls.specs.declared.role.Role.TheVariants.{Mask, First, Second}
use Rattle.calls.specs.Recipes.{known_by_role, known_of}
use Rattle.kernel.specs.Pieces.{IsPieceOf}
use Rattle.kernel.specs.Takes.{map_in, maps_in}
use Rattle.model.specs.Object.{Content, rows_of}
use Rattle.desk.proofs.OverLaws.{lent-kept, over-result, same-maps, takes-stores}
use Rattle.desk.proofs.works.computed_block.Goals as goal

pub computed_over-requires-clause-inputs : goal.computed_over-requires-clause-inputs
computed_over-requires-clause-inputs g c =
    let had = c.args.inputs.now in
    takes-stores c.in-Some.old c.lent.result had c.in-Some.ensures.taken (c.lent.ensures Mask) (c.lent.ensures First) (c.lent.ensures Second)
    (known_by_role c.deref.result.now.out c.deref.result.now.operation)
    (rw (c.requires.recipe, sym c.deref.ensures) at c.requires.takes)

pub returns-in_ok-store-in-Some : goal.returns-in_ok-store-in-Some
returns-in_ok-store-in-Some g c =
    let had = c.args.inputs.now in
    let made = rw c.deref.ensures at c.in_ok-store-in-Some.ensures in
    over-result c.args.recipe.now c.args.computation.now c.requires.recipe _ _
    (same-maps c.in-Some.old c.lent.result had c.in-Some.ensures.taken (c.lent.ensures Mask) (c.lent.ensures First) (c.lent.ensures Second))
    c.in_ok-store-in-Some.store made.rows made.cols made.content

pub returns-in-None : goal.returns-in-None
returns-in-None g c =
    let recipe = c.args.recipe.now in
    let had = c.args.inputs.now in
    let same = lent-kept c.lent-in-None.result had (record had { old = c.take_unshared.new.place }) c.lent-in-None.ensures (c.in-None.ensures.kept refl) refl refl refl in
    let maps : maps_in c.lent-in-None.result ≡ maps_had had = λ x role. map_in (same role x) in
    IfOk-weaker c.eval_piece_by.result _ _
    (λ block is. subst (λ (m : Role → Content). IsPieceOf recipe m 0 (rows_of (known_of recipe).shape) block) maps is)
    (rw (c.rows-rows.ensures, c.signature.ensures) at c.eval_piece_by.ensures.piece)
