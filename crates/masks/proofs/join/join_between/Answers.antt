-- The rows that one side has alone, and then one of both.
use Rattle.std.proofs.Common.{◌≤◌, arith, rules}
use Rattle.store.specs.Parts.{HasRows}
use Rattle.store.specs.Stored.{content_of}
use Rattle.store.proofs.PartLaws.{rows_front, rows_more, rows_none}
use Rattle.masks.specs.Joins.{joined}
use Rattle.masks.proofs.join.join_between.Goals as goal
use Rattle.masks.proofs.join.join_between.Goals.{After-saturating_add}

pub loop-row-init : goal.loop-row-init
loop-row-init c = record {
  rows = rows_none (joined c.args.by (content_of c.args.left.now) (content_of c.args.right.now)) c.args.range.start c.args.left.now.cols c.in_ok-lists.lists c.in_ok-lists.ensures.ends c.in_ok-lists.ensures.inner c.in_ok-lists.ensures.words;
  low = omega arith;
  high = c.requires.range;
}

-- the rows up to the one that both may have
between : (c : After-saturating_add)
    → HasRows (joined c.args.by (content_of c.args.left.now) (content_of c.args.right.now)) c.args.range.start c.in_ok-next.next c.args.left.now.cols c.copy_between.new.lists
between c =
    let here = c.loop-row.invariant in
    let made = c.in_ok-next.ensures in
    rows_more (joined c.args.by (content_of c.args.left.now) (content_of c.args.right.now)) c.args.range.start c.loop-row.row c.in_ok-next.next c.args.left.now.cols c.loop-row.lists c.copy_between.new.lists here.rows made.part here.low made.low

pub join_part-requires-clause-front : goal.join_part-requires-clause-front
join_part-requires-clause-front c =
    rows_front (joined c.args.by (content_of c.args.left.now) (content_of c.args.right.now)) c.args.range.start c.in_ok-next.next c.args.left.now.cols c.copy_between.new.lists (between (search rules))

pub loop-row-preserved : goal.loop-row-preserved
loop-row-preserved c =
    let start = c.loop-row.invariant.low in
    let low = c.in_ok-next.ensures.low in
    let high = c.in_ok-next.ensures.high in
    let more = c.saturating_add.ensures in
    let is = c.min-row.ensures in
    let from : c.args.range.start ≤ c.in_ok-next.next = omega arith in
    let up : c.in_ok-next.next ≤ c.min-row.result = omega arith in
    record {
      rows = rows_more (joined c.args.by (content_of c.args.left.now) (content_of c.args.right.now)) c.args.range.start c.in_ok-next.next c.min-row.result c.args.left.now.cols c.copy_between.new.lists c.join_part.new.lists (between (search rules)) c.in_ok-join_part.ensures from up;
      low = omega arith;
      high = omega arith;
    }
