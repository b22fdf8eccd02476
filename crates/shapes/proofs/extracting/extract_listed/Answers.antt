use Rattle.std.proofs.Common.{get_or, arith}
use Rattle.model.specs.Indices.{These, count_of}
use Rattle.model.specs.Regions.{extracted}
use Rattle.store.specs.Stored.{content_of}
use Rattle.shapes.proofs.Made.{made_more, made_none}
use Rattle.shapes.proofs.Extracts.{row_of_these}
use Rattle.shapes.proofs.extracting.extract_listed.Goals as goal

pub loop-index-init : goal.loop-index-init
loop-index-init c =
    let a = c.args.a.now in
    made_none (extracted a.rows a.cols (These c.args.rows.now) c.args.cols.now (content_of a)) c.args.range.start (count_of a.cols c.args.cols.now) c.new-lists.result c.new-lists.ensures.ends c.new-lists.ensures.inner c.new-lists.ensures.words

pub loop-index-preserved : goal.loop-index-preserved
loop-index-preserved c =
    let a = c.args.a.now in
    let made = extracted a.rows a.cols (These c.args.rows.now) c.args.cols.now (content_of a) in
    let index = c.loop-index.index in
    made_more made c.args.range.start index (count_of a.cols c.args.cols.now) c.loop-index.lists c.take_row.new.lists c.loop-index.invariant
    (c.in_ok-take_row.ensures (content_of a) made (get_or c.args.rows.now index 0) a.cols c.find_row.ensures (λ j. row_of_these a.rows a.cols c.args.rows.now c.args.cols.now (content_of a) index j (omega arith)))
