use Rattle.std.proofs.Common.{◌∙◌, ap, arith}
use Rattle.model.specs.Entries.{word_at}
use Rattle.store.specs.Stored.{content_of}
use Rattle.store.proofs.Walks.{rest_shorter}
use Rattle.shapes.specs.Sides.{one_side}
use Rattle.shapes.proofs.Going.{going_end, going_from, going_more}
use Rattle.shapes.proofs.SideLaws.{side_empty}
use Rattle.shapes.proofs.Walked.{walk_step}
use Rattle.shapes.proofs.putting.keep_side.Goals as goal

pub loop-row-init : goal.loop-row-init
loop-row-init c rows cols size named within =
    let a = c.args.a.now in
    going_from (content_of a) (one_side c.args.inside size a.cols rows cols (content_of a)) c.args.range.start c.args.range.end a.cols a.cols c.walk_rows-rest.result.entries c.in_ok-lists.lists c.requires.range c.walk_rows-rest.ensures c.in_ok-lists.ensures.ends c.in_ok-lists.ensures.inner c.in_ok-lists.ensures.words

pub loop-row-smaller : goal.loop-row-smaller
loop-row-smaller c =
    let row = c.in-Some.row in
    rest_shorter row.index row.cols.now row.words.now c.loop-row.rest.entries c.in-Some.others.entries c.in-Some.ensures

pub loop-row-preserved : goal.loop-row-preserved
loop-row-preserved c rows cols size named within =
    let a = c.args.a.now in
    let row = c.in-Some.row in
    let starts = c.in-Some.ensures in
    let here = c.loop-row.invariant rows cols size named within in
    let step = walk_step (content_of a) here.next c.args.range.end a.cols row.index row.cols.now row.words.now c.loop-row.rest.entries c.in-Some.others.entries here.walk starts in
    let high = step.high in
    going_more (content_of a) (one_side c.args.inside size a.cols rows cols (content_of a)) c.args.range.start c.args.range.end a.cols a.cols row.index row.cols.now row.words.now c.loop-row.rest.entries c.in-Some.others.entries c.loop-row.lists c.keep_row.new.lists (side_empty c.args.inside size a.cols rows cols (content_of a)) here starts
    (c.in_ok-keep_row.ensures rows cols (content_of a) size a.cols named (omega arith) (record { lengths = starts.lengths; rising = starts.rising; inside = step.inside; words = step.words }))

pub of_rows-requires-clause-flat : goal.of_rows-requires-clause-flat
of_rows-requires-clause-flat c =
    let names = c.requires.named in
    (c.loop-row.invariant names.0 names.1 c.args.range.end names.2 (omega arith)).rows.flat

pub of_rows-requires-clause-inside : goal.of_rows-requires-clause-inside
of_rows-requires-clause-inside c =
    let a = c.args.a.now in
    let names = c.requires.named in
    let rows = names.0 in
    let cols = names.1 in
    rw c.cols.ensures (going_end (content_of a) (one_side c.args.inside c.args.range.end a.cols rows cols (content_of a)) c.args.range.start c.args.range.end a.cols a.cols c.loop-row.rest.entries c.loop-row.lists (side_empty c.args.inside c.args.range.end a.cols rows cols (content_of a)) (c.loop-row.invariant rows cols c.args.range.end names.2 (omega arith)) c.in_default.ensures).inside

pub returns-clause-words : goal.returns-clause-words
returns-clause-words c rows cols size i j named within low high =
    let a = c.args.a.now in
    let made = going_end (content_of a) (one_side c.args.inside size a.cols rows cols (content_of a)) c.args.range.start c.args.range.end a.cols a.cols c.loop-row.rest.entries c.loop-row.lists (side_empty c.args.inside size a.cols rows cols (content_of a)) (c.loop-row.invariant rows cols size named within) c.in_default.ensures in
    ap (λ es. word_at es i j) c.of_rows.ensures.entries ∙ made.words i j low high
