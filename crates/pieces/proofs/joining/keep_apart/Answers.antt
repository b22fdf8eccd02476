-- One block more.
use Rattle.std.proofs.Common.{◌≡◌, ◌∙◌, ◌∷◌, ◌≤◌, ap, arith, length, rules, sym}
use Rattle.calls.specs.Recipes.{known_of}
use Rattle.model.specs.Object.{cols_of, rows_of}
use Rattle.pieces.proofs.JoiningLaws.{AreAll, next_cols, up_all, up_empty, up_front, up_more, up_past, up_start, up_whole}
use Rattle.store.specs.Stored.{Stored, content_of}
use Rattle.store.proofs.Content.{nothing_outside}
use Rattle.store.proofs.Contents.{in_inside, length_along}
use Rattle.pieces.proofs.joining.keep_apart.Goals as goal
use Rattle.pieces.proofs.joining.keep_apart.Goals.{After-from_blocks}

pub loop-block-init : goal.loop-block-init
loop-block-init c =
    let none = c.new-kept.ensures in
    let given = c.into_iter-block-iterator in
    let shape = c.signature-shape.ensures in
    record {
      rows = none.rows ∙ c.rows.ensures ∙ ap (λ s. rows_of s.shape) shape;
      cols = none.cols ∙ c.cols.ensures ∙ ap (λ s. cols_of s.shape) shape;
      up = up_start _ _ c.args.blocks.items given.result.rest.items c.new-kept.result.entries c.requires.covers c.requires.cols given.ensures.into_iter_gives.0 none.entries;
    }

pub unreachable-requires : goal.unreachable-requires
unreachable-requires c =
    let left = c.next.new.self.rest.items in
    up_whole _ _ c.args.blocks.items c.loop-block.block-iterator.rest.items left c.in_default.field-0 _ c.loop-block.invariant.up
    (c.in-Some.ensures.steps.0 ∙ ap (λ block. block ∷ left) c.in_default.is)

pub push-requires-clause-cols : goal.push-requires-clause-cols
push-requires-clause-cols c =
    let left = c.next.new.self.rest.items in
    let is = c.in-Some.ensures.steps.0 ∙ ap (λ block. block ∷ left) c.in-Rows.is in
    next_cols _ _ c.args.blocks.items c.loop-block.block-iterator.rest.items left c.in-Rows.rows _ c.loop-block.invariant.up is ∙ sym c.loop-block.invariant.cols

pub push-requires-clause-past : goal.push-requires-clause-past
push-requires-clause-past c =
    let left = c.next.new.self.rest.items in
    let is = c.in-Some.ensures.steps.0 ∙ ap (λ block. block ∷ left) c.in-Rows.is in
    rw c.loop-block.invariant.rows (up_past _ _ c.args.blocks.items c.loop-block.block-iterator.rest.items left c.in-Rows.rows _ c.loop-block.invariant.up is)

pub push-requires-clause-front : goal.push-requires-clause-front
push-requires-clause-front c =
    let left = c.next.new.self.rest.items in
    let is = c.in-Some.ensures.steps.0 ∙ ap (λ block. block ∷ left) c.in-Rows.is in
    rw c.loop-block.invariant.cols (up_front _ _ c.args.blocks.items c.loop-block.block-iterator.rest.items left c.in-Rows.rows _ c.loop-block.invariant.up is)

pub loop-block-preserved-in-Continue-1 : goal.loop-block-preserved-in-Continue-1
loop-block-preserved-in-Continue-1 c =
    let left = c.next.new.self.rest.items in
    let is = c.in-Some.ensures.steps.0 ∙ ap (λ block. block ∷ left) c.in-Rows.is in
    let put = c.in_ok-push.ensures in
    let here = c.loop-block.invariant in
    record {
      rows = put.rows ∙ here.rows;
      cols = put.cols ∙ here.cols;
      up = up_more _ _ c.args.blocks.items c.loop-block.block-iterator.rest.items left c.in-Rows.rows _ _ here.up is put.entries c.fibers.ensures.inside;
    }

pub loop-block-preserved : goal.loop-block-preserved
loop-block-preserved c =
    let left = c.next.new.self.rest.items in
    let is = c.in-Some.ensures.steps.0 ∙ ap (λ block. block ∷ left) c.in-Rows.is in
    let here = c.loop-block.invariant in
    let block = c.in-Rows.rows in
    let few : c.len.result ≤ 0 = c.if-len-gt0.false in
    let count = c.len.ensures.count in
    let none : length block.entries ≡ 0 = ap length (sym c.fibers.ensures.entries) ∙ length_along block.cols c.fibers.result.entries ∙ sym count ∙ omega arith in
    record {
      rows = here.rows;
      cols = here.cols;
      up = up_empty _ _ c.args.blocks.items c.loop-block.block-iterator.rest.items left block _ here.up is none c.fibers.ensures.inside;
    }

all : (c : After-from_blocks) → AreAll (rows_of (known_of c.args.recipe.now).shape) (cols_of (known_of c.args.recipe.now).shape) c.args.blocks.items c.loop-block.kept.entries
all c =
    let rest = c.loop-block.block-iterator.rest in
    up_all _ _ c.args.blocks.items rest.items _ c.loop-block.invariant.up (omega (arith, c.in-None.ensures.steps.0, rest.ok))

pub returns-clause-content : goal.returns-clause-content
returns-clause-content c = λ map are i j below.
    ap (λ (s : Stored). content_of s i j) c.from_blocks.ensures ∙ (all (search rules)).words map are i j below

pub returns-clause-within : goal.returns-clause-within
returns-clause-within c = rw c.from_blocks.ensures (λ i j outside.
    let here = c.loop-block.invariant in
    nothing_outside c.loop-block.kept.rows c.loop-block.kept.cols c.loop-block.kept.entries i j
    (rw (here.rows, here.cols) (in_inside 0 _ _ c.loop-block.kept.entries (all (search rules)).inside)) outside)
