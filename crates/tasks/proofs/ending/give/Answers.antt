-- The last block of a task was accepted.
use Rattle.std.proofs.Common.{◌≡◌, ◌∙◌, Ok, Some, ap, subst}
use Rattle.board.specs.Boards.{cuts_of, view_of}
use Rattle.board.specs.Cuts.{IsLeftBy, at_slot, blocks_of, told_blocks, told_on}
use Rattle.board.specs.declared.piece.Given.{Given}
use Rattle.board.specs.declared.piece.Given.TheVariants.{Last}
use Rattle.tasks.proofs.EndLaws.{after_cuts, after_view, left_is}
use Rattle.tasks.proofs.ending.give.Goals as goal

pub returns-in-Ok-Last-clause-view : goal.returns-in-Ok-Last-clause-view
returns-in-Ok-Last-clause-view g c =
    let told = Some (blocks_of c.in-Ok-Last.blocks) in
    let v = view_of c.args.board.now in
    let cs = cuts_of c.args.board.now in
    let is : c.in-Ok-Last.field-0 ≡ Last c.in-Ok-Last.blocks = cc in
    after_view v (view_of c.give.new.self) (view_of c.kept.new.board) c.args.slot
    (told_on v cs c.args.slot c.args.piece c.args.block) told
    (c.in-Ok-Last.ensures.answer ∙ ap (λ (given : Given). Ok (told_blocks given)) is)
    (left_is v (view_of c.give.new.self) cs (cuts_of c.give.new.self) c.args.slot c.args.piece c.args.block (at_slot cs c.args.slot) told
    (subst (λ (given : Given). IsLeftBy v cs c.args.slot c.args.piece c.args.block (at_slot cs c.args.slot) (told_blocks given) (view_of c.give.new.self) (cuts_of c.give.new.self))
    is c.in-Ok-Last.ensures.left)) c.kept.ensures.view

pub returns-in-Ok-Last-clause-cuts : goal.returns-in-Ok-Last-clause-cuts
returns-in-Ok-Last-clause-cuts g c =
    let v = view_of c.args.board.now in
    let cs = cuts_of c.args.board.now in
    let is : c.in-Ok-Last.field-0 ≡ Last c.in-Ok-Last.blocks = cc in
    after_cuts v (view_of c.give.new.self) cs (cuts_of c.give.new.self) (cuts_of c.kept.new.board)
    c.args.slot c.args.piece c.args.block
    (told_on v cs c.args.slot c.args.piece c.args.block) (Some (blocks_of c.in-Ok-Last.blocks))
    (c.in-Ok-Last.ensures.answer ∙ ap (λ (given : Given). Ok (told_blocks given)) is)
    (subst (λ (given : Given). IsLeftBy v cs c.args.slot c.args.piece c.args.block (at_slot cs c.args.slot) (told_blocks given) (view_of c.give.new.self) (cuts_of c.give.new.self))
    is c.in-Ok-Last.ensures.left) c.kept.ensures.cuts
