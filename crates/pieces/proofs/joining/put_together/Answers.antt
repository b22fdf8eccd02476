-- One block more.
use Rattle.std.proofs.Common.{◌≡◌, ◌∙◌, ◌∷◌, ap, arith, refl}
use Rattle.calls.specs.Recipes.{known_of}
use Rattle.model.specs.Entries.{word_at}
use Rattle.model.specs.Object.{cols_of}
use Rattle.pieces.proofs.JoiningLaws.{fibers_behind, next_cols, no_fibers, up_all, up_front, up_more, up_start, up_whole}
use Rattle.pieces.specs.Joints.{entries_of}
use Rattle.store.specs.Fibers.{entries_in}
use Rattle.store.specs.Stored.{along}
use Rattle.pieces.proofs.joining.put_together.Goals as goal

pub loop-block-init : goal.loop-block-init
loop-block-init g c =
    let none = c.new-joint.ensures in
    let given = c.into_iter-block-iterator in
    let cols = cols_of (known_of c.args.recipe.now).shape in
    let empty = no_fibers cols c.new-joint.result none.ends none.count none.inner none.words in
    record {
      fibers = empty.0;
      up = up_start _ _ c.args.blocks.items given.result.rest.items (along cols (entries_of c.new-joint.result)) c.requires.covers c.requires.cols given.ensures.into_iter_gives.0 empty.1;
    }

pub unreachable-requires : goal.unreachable-requires
unreachable-requires g c =
    let left = c.next.new.self.rest.items in
    up_whole _ _ c.args.blocks.items c.loop-block.block-iterator.rest.items left c.in_default.field-0 _ c.loop-block.invariant.up
    (c.in-Some.ensures.steps.0 ∙ ap (λ block. block ∷ left) c.in_default.is)

pub put-requires-clause-fibers : goal.put-requires-clause-fibers
put-requires-clause-fibers g c = c.loop-block.invariant.fibers

pub put-requires-clause-front : goal.put-requires-clause-front
put-requires-clause-front g c =
    let left = c.next.new.self.rest.items in
    let rest = c.loop-block.block-iterator.rest.items in
    let block = c.in-Rows.rows in
    let is = c.in-Some.ensures.steps.0 ∙ ap (λ block. block ∷ left) c.in-Rows.is in
    rw (next_cols _ _ c.args.blocks.items rest left block _ c.loop-block.invariant.up is) (up_front _ _ c.args.blocks.items rest left block _ c.loop-block.invariant.up is)

pub loop-block-preserved : goal.loop-block-preserved
loop-block-preserved g c =
    let left = c.next.new.self.rest.items in
    let rest = c.loop-block.block-iterator.rest.items in
    let block = c.in-Rows.rows in
    let is = c.in-Some.ensures.steps.0 ∙ ap (λ block. block ∷ left) c.in-Rows.is in
    let behind = c.in_ok-put.ensures in
    let cols = cols_of (known_of c.args.recipe.now).shape in
    let same = next_cols _ _ c.args.blocks.items rest left block _ c.loop-block.invariant.up is in
    record {
      fibers = behind.fibers;
      up = up_more _ _ c.args.blocks.items rest left block _ _ c.loop-block.invariant.up is (fibers_behind cols block c.loop-block.joint c.put.new.self same behind) behind.inside;
    }

pub of_fibers-rows-requires-clause-inside : goal.of_fibers-rows-requires-clause-inside
of_fibers-rows-requires-clause-inside g c =
    let rest = c.loop-block.block-iterator.rest in
    let lists = c.in_ok-lists.ensures in
    let all = up_all _ _ c.args.blocks.items rest.items _ c.loop-block.invariant.up (omega (arith, c.in-None.ensures.steps.0, rest.ok)) in
    rw (c.rows.ensures, c.cols.ensures, c.signature-shape.ensures, lists.ends, lists.inner, lists.words) all.inside

pub returns-clause-content : goal.returns-clause-content
returns-clause-content g c = λ map are i j below.
    let rest = c.loop-block.block-iterator.rest in
    let lists = c.in_ok-lists.ensures in
    let all = up_all _ _ c.args.blocks.items rest.items _ c.loop-block.invariant.up (omega (arith, c.in-None.ensures.steps.0, rest.ok)) in
    let is = rw (c.cols.ensures, c.signature-shape.ensures) at c.of_fibers-rows.ensures.entries in
    let same : entries_in c.in_ok-lists.lists ≡ entries_of c.loop-block.joint = rw (lists.ends, lists.inner, lists.words) refl in
    c.join.ensures.content i j
    ∙ ap (λ es. word_at es i j) (is ∙ ap (along (cols_of (known_of c.args.recipe.now).shape)) same)
    ∙ all.words map are i j below
