use Rattle.std.proofs.Common.{◌≡◌, ◌∙◌, ◌<◌, ◌≤◌, ℕ, None, arith, length, refl}
use Rattle.model.specs.Builds.{gathered}
use Rattle.model.specs.Indices.{All, These}
use Rattle.model.specs.Regions.{extracted}
use Rattle.store.specs.Stored.{Block, block_content, content_of}
use Rattle.store.proofs.Walks.{rest_shorter}
use Rattle.shapes.proofs.ColumnPlaces.{collecting_end, collecting_from, collecting_more, collecting_permuted}
use Rattle.shapes.proofs.Extracts.{all_empty, row_of_all}
use Rattle.shapes.proofs.Gathering.{gathered_is}
use Rattle.shapes.proofs.Going.{if_ok}
use Rattle.shapes.proofs.collecting.collect_all.Goals as goal

pub loop-row-init : goal.loop-row-init
loop-row-init c =
    let a = c.args.a.now in
    collecting_from (content_of a) (extracted a.rows a.cols All (These c.args.cols.now) (content_of a)) c.args.range.start c.args.range.end a.cols (length c.args.cols.now) c.walk_rows-rest.result.entries c.new-entries.result.items c.requires.start c.walk_rows-rest.ensures c.new-entries.ensures.items

pub loop-row-smaller : goal.loop-row-smaller
loop-row-smaller c =
    let row = c.in-Some.row in
    rest_shorter row.index row.cols.now row.words.now c.loop-row.rest.entries c.in-Some.others.entries c.in-Some.ensures

pub loop-row-preserved : goal.loop-row-preserved
loop-row-preserved c =
    let a = c.args.a.now in
    let cols = c.args.cols.now in
    let row = c.in-Some.row in
    let places = c.in_ok-places.places in
    let is = rw c.in_ok-places.ensures.cols at c.in_ok-collect_row.ensures in
    collecting_permuted (content_of a) (extracted a.rows a.cols All (These cols) (content_of a)) c.args.range.start c.args.range.end a.cols (length cols) c.in-Some.others.entries _ _ is (collecting_more (content_of a) (extracted a.rows a.cols All (These cols) (content_of a)) c.args.range.start c.args.range.end a.cols (length cols) row.index (content_of places.store) cols row.cols.now row.words.now c.loop-row.rest.entries c.in-Some.others.entries c.loop-row.entries.items
    (all_empty a.rows a.cols (These cols) (content_of a)) (record { fits = refl; agree = c.in_ok-places.ensures.content }) c.in-Some.ensures
    (λ j high. row_of_all a.rows a.cols (These cols) (content_of a) row.index j (omega (arith, c.requires.end))) c.loop-row.invariant)

pub gather-requires : goal.gather-requires
gather-requires c =
    let a = c.args.a.now in
    let cols = c.args.cols.now in
    (collecting_end (content_of a) (extracted a.rows a.cols All (These cols) (content_of a)) c.args.range.start c.args.range.end a.cols (length cols) c.loop-row.rest.entries c.loop-row.entries.items (all_empty a.rows a.cols (These cols) (content_of a)) c.loop-row.invariant c.in_default.ensures).inside

pub returns-clause-words : goal.returns-clause-words
returns-clause-words c =
    let a = c.args.a.now in
    let cols = c.args.cols.now in
    let made = extracted a.rows a.cols All (These cols) (content_of a) in
    let es = c.loop-row.entries.items in
    let all = collecting_end (content_of a) made c.args.range.start c.args.range.end a.cols (length cols) c.loop-row.rest.entries es (all_empty a.rows a.cols (These cols) (content_of a)) c.loop-row.invariant c.in_default.ensures in
    if_ok (λ (block : Block). (i j : ℕ) → block_content block i j ≡ gathered None es i j)
    (λ (block : Block). (i j : ℕ) → c.args.range.start ≤ i → i < c.args.range.end → block_content block i j ≡ made i j) c.gather.result
    (λ block is i j low high. is i j ∙ gathered_is made i j es all.are (all.whole i j low high)) c.gather.ensures.words
