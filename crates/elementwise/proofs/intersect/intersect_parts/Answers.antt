-- One part more.
use Rattle.std.proofs.Common.{◌≤◌, arith}
use Rattle.store.specs.Stored.{content_of}
use Rattle.store.proofs.PartLaws.{rows_front, rows_more, rows_none}
use Rattle.elementwise.specs.Meets.{met_content}
use Rattle.elementwise.proofs.intersect.intersect_parts.Goals as goal

pub loop-row-init : goal.loop-row-init
loop-row-init c = record {
  rows = rows_none (met_content c.args.op (content_of c.args.a.now) (content_of c.args.b.now)) c.args.range.start c.args.a.now.cols c.in_ok-lists.lists c.in_ok-lists.ensures.ends c.in_ok-lists.ensures.inner c.in_ok-lists.ensures.words;
  low = omega arith;
  high = c.requires.range;
}

pub loop-row-preserved : goal.loop-row-preserved
loop-row-preserved c =
    let here = c.loop-row.invariant in
    let low = c.part_end.ensures.low in
    let low' = c.part_end-in-loop-row.ensures.low in
    let high = c.part_end.ensures.high in
    let next = c.min-next.ensures in
    let start = here.low in
    let up : c.loop-row.row ≤ c.min-next.result = omega arith in
    record {
      rows = rows_more (met_content c.args.op (content_of c.args.a.now) (content_of c.args.b.now)) c.args.range.start c.loop-row.row c.min-next.result c.args.a.now.cols c.loop-row.lists c.intersect_part.new.lists here.rows c.in_ok-intersect_part.ensures start up;
      low = omega arith;
      high = omega arith;
    }

pub intersect_part-requires-clause-front : goal.intersect_part-requires-clause-front
intersect_part-requires-clause-front c = rows_front (met_content c.args.op (content_of c.args.a.now) (content_of c.args.b.now)) c.args.range.start c.loop-row.row c.args.a.now.cols c.loop-row.lists c.loop-row.invariant.rows
