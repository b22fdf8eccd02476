use Rattle.std.proofs.Common.{◌≡◌, ◌∙◌, ◌+◌, ◌<◌, ◌≤◌, ℕ, None, arith, get_or, length, refl}
use Rattle.model.specs.Builds.{gathered}
use Rattle.model.specs.Indices.{These}
use Rattle.model.specs.Regions.{extracted}
use Rattle.store.specs.Stored.{Block, block_content, content_of}
use Rattle.shapes.proofs.ColumnPlaces.{collected_more, collected_none, permuted}
use Rattle.shapes.proofs.Extracts.{row_of_these}
use Rattle.shapes.proofs.Gathering.{gathered_is}
use Rattle.shapes.proofs.Going.{if_ok}
use Rattle.shapes.proofs.collecting.collect_listed.Goals as goal

pub loop-index-init : goal.loop-index-init
loop-index-init c =
    let a = c.args.a.now in
    collected_none (extracted a.rows a.cols (These c.args.rows.now) (These c.args.cols.now) (content_of a)) c.args.range.start c.args.range.end (length c.args.cols.now) c.new-entries.result.items c.new-entries.ensures.items

pub loop-index-preserved : goal.loop-index-preserved
loop-index-preserved c =
    let a = c.args.a.now in
    let rows = c.args.rows.now in
    let cols = c.args.cols.now in
    let made = extracted a.rows a.cols (These rows) (These cols) (content_of a) in
    let index = c.loop-index.index in
    let places = c.in_ok-places.places in
    let is = rw c.in_ok-places.ensures.cols at c.in_ok-collect_row.ensures in
    permuted made c.args.range.start (index + 1) c.args.range.end (length cols) _ _ is (collected_more (content_of a) made c.args.range.start index c.args.range.end (get_or rows index 0) a.cols (length cols) (content_of places.store) cols c.find_row.result.0.now c.find_row.result.1.now c.loop-index.entries.items
    (record { fits = refl; agree = c.in_ok-places.ensures.content }) c.loop-index-test.true c.find_row.ensures
    (λ j. row_of_these a.rows a.cols rows (These cols) (content_of a) index j (omega (arith, c.loop-index-test.true, c.requires.end))) c.loop-index.invariant)

pub gather-requires : goal.gather-requires
gather-requires c = c.loop-index.invariant.inside

pub returns-clause-words : goal.returns-clause-words
returns-clause-words c =
    let a = c.args.a.now in
    let made = extracted a.rows a.cols (These c.args.rows.now) (These c.args.cols.now) (content_of a) in
    let es = c.loop-index.entries.items in
    let all = c.loop-index.invariant in
    if_ok (λ (block : Block). (i j : ℕ) → block_content block i j ≡ gathered None es i j)
    (λ (block : Block). (i j : ℕ) → c.args.range.start ≤ i → i < c.args.range.end → block_content block i j ≡ made i j) c.gather.result
    (λ block is i j low high. is i j ∙ gathered_is made i j es all.are (all.whole i j low (omega (arith, high, c.loop-index-test.false)))) c.gather.ensures.words
