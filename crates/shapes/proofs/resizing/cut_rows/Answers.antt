use Rattle.std.proofs.Common.{◌∙◌, ap, arith}
use Rattle.model.specs.Entries.{word_at}
use Rattle.model.specs.Regions.{cut_to}
use Rattle.store.specs.Stored.{content_of}
use Rattle.store.proofs.Walks.{rest_shorter}
use Rattle.shapes.proofs.Going.{going_end, going_from, going_more}
use Rattle.shapes.proofs.Walked.{walk_step}
use Rattle.shapes.proofs.RowWords.{cut_empty}
use Rattle.shapes.proofs.resizing.cut_rows.Goals as goal

pub loop-row-init : goal.loop-row-init
loop-row-init c =
    let a = c.args.a.now in
    going_from (content_of a) (cut_to c.args.rows c.args.cols (content_of a)) 0 c.args.rows a.cols c.args.cols c.walk_rows-rest.result.entries c.new-lists.result (omega arith) c.walk_rows-rest.ensures c.new-lists.ensures.ends c.new-lists.ensures.inner c.new-lists.ensures.words

pub loop-row-smaller : goal.loop-row-smaller
loop-row-smaller c =
    let row = c.in-Some.row in
    rest_shorter row.index row.cols.now row.words.now c.loop-row.rest.entries c.in-Some.others.entries c.in-Some.ensures

pub loop-row-preserved : goal.loop-row-preserved
loop-row-preserved c =
    let a = c.args.a.now in
    let row = c.in-Some.row in
    let here = c.loop-row.invariant in
    let step = walk_step (content_of a) here.next c.args.rows a.cols row.index row.cols.now row.words.now c.loop-row.rest.entries c.in-Some.others.entries here.walk c.in-Some.ensures in
    going_more (content_of a) (cut_to c.args.rows c.args.cols (content_of a)) 0 c.args.rows a.cols c.args.cols row.index row.cols.now row.words.now c.loop-row.rest.entries c.in-Some.others.entries c.loop-row.lists c.cut_row.new.lists (cut_empty c.args.rows c.args.cols (content_of a)) here c.in-Some.ensures
    (c.in_ok-cut_row.ensures (content_of a) c.args.rows step.high step.words)

pub of_rows-requires-clause-inside : goal.of_rows-requires-clause-inside
of_rows-requires-clause-inside c =
    let a = c.args.a.now in
    (going_end (content_of a) (cut_to c.args.rows c.args.cols (content_of a)) 0 c.args.rows a.cols c.args.cols c.loop-row.rest.entries c.loop-row.lists (cut_empty c.args.rows c.args.cols (content_of a)) c.loop-row.invariant c.in_default.ensures).inside

pub returns-clause-words : goal.returns-clause-words
returns-clause-words c i j inside =
    let a = c.args.a.now in
    let made = going_end (content_of a) (cut_to c.args.rows c.args.cols (content_of a)) 0 c.args.rows a.cols c.args.cols c.loop-row.rest.entries c.loop-row.lists (cut_empty c.args.rows c.args.cols (content_of a)) c.loop-row.invariant c.in_default.ensures in
    ap (λ es. word_at es i j) c.of_rows.ensures.entries ∙ made.words i j (omega arith) inside
