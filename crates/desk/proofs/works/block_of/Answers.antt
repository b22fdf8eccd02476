-- A patch reads the old content, and the stores that are lent are those of the piece.
use Rattle.std.proofs.Common.{◌≡◌, ◌∙◌, subst, sym}
use Rattle.std.proofs.lemmas.Result.{IfOk-weaker}
use Rattle.board.specs.Pieces.{maps_in as maps_had}
use Rattle.calls.specs.declared.role.Role.{Role}
use Rattle.calls.specs.declared.role.Role.TheVariants.{Old}
use Rattle.kernel.specs.Pieces.{IsPieceOf}
use Rattle.kernel.specs.Takes.{map_in, maps_in}
use Rattle.model.specs.Object.{Content}
use Rattle.desk.proofs.works.block_of.Goals as goal

pub unreachable-requires : goal.unreachable-requires
unreachable-requires g c = rw (c.in-Patch.is, sym c.take.ensures.value ∙ c.in_default-take.is) at (c.requires.takes Old)

pub patch_over-requires : goal.patch_over-requires
patch_over-requires g c = rw c.deref.ensures (rw (c.in-Patch.is, sym c.take.ensures.value ∙ c.in-Some.is) at (c.requires.takes Old))

pub returns-in_default : goal.returns-in_default
returns-in_default g c =
    let maps : maps_in c.lent-in_default.result ≡ maps_had c.args.inputs.now = λ x role. map_in (c.lent-in_default.ensures role x) in
    IfOk-weaker c.eval_piece-in_default.result _ _ (λ block is. subst (λ (m : Role → Content). IsPieceOf c.args.recipe.now m c.args.rows.start c.args.rows.end block) maps is) c.eval_piece-in_default.ensures.piece

pub returns-else-rows-eq0 : goal.returns-else-rows-eq0
returns-else-rows-eq0 g c =
    let maps : maps_in c.lent.result ≡ maps_had c.args.inputs.now = λ x role. map_in (c.lent.ensures role x) in
    IfOk-weaker c.eval_piece.result _ _ (λ block is. subst (λ (m : Role → Content). IsPieceOf c.args.recipe.now m c.args.rows.start c.args.rows.end block) maps is) c.eval_piece.ensures.piece
