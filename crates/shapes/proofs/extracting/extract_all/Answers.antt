use Rattle.std.proofs.Common.{◌∙◌, ap, arith, length}
use Rattle.std.specs.Option.{option_and_then}
use Rattle.model.specs.Entries.{word_at}
use Rattle.model.specs.Indices.{All, index_at}
use Rattle.model.specs.Regions.{extracted}
use Rattle.store.specs.Stored.{content_of}
use Rattle.store.proofs.Walks.{rest_shorter}
use Rattle.shapes.proofs.Going.{going_end, going_from, going_more}
use Rattle.shapes.proofs.Walked.{walk_step}
use Rattle.shapes.proofs.Extracts.{all_empty, row_of_all}
use Rattle.shapes.proofs.extracting.extract_all.Goals as goal

pub loop-row-init : goal.loop-row-init
loop-row-init c =
    let a = c.args.a.now in
    going_from (content_of a) (extracted a.rows a.cols All c.args.cols.now (content_of a)) c.args.range.start c.args.range.end a.cols (length c.in-Some.listed.now) c.walk_rows-rest.result.entries c.new-lists.result c.requires.start c.walk_rows-rest.ensures c.new-lists.ensures.ends c.new-lists.ensures.inner c.new-lists.ensures.words

pub loop-row-smaller : goal.loop-row-smaller
loop-row-smaller c =
    let here = c.in-Some-split_first in
    rest_shorter here.row.index here.row.cols.now here.row.words.now c.loop-row.rest.entries here.others.entries here.ensures

pub loop-row-preserved : goal.loop-row-preserved
loop-row-preserved c =
    let a = c.args.a.now in
    let cols = c.args.cols.now in
    let made = extracted a.rows a.cols All cols (content_of a) in
    let listed = c.in-Some.listed.now in
    let row = c.in-Some-split_first.row in
    let others = c.in-Some-split_first.others.entries in
    let starts = c.in-Some-split_first.ensures in
    let here = c.loop-row.invariant in
    let step = walk_step (content_of a) here.next c.args.range.end a.cols row.index row.cols.now row.words.now c.loop-row.rest.entries others here.walk starts in
    going_more (content_of a) made c.args.range.start c.args.range.end a.cols (length listed) row.index row.cols.now row.words.now c.loop-row.rest.entries others c.loop-row.lists c.pick_row.new.lists (all_empty a.rows a.cols cols (content_of a)) here starts
    (c.in_ok-pick_row.ensures (content_of a) made row.index a.cols
    (record { lengths = starts.lengths; rising = starts.rising; inside = step.inside; words = step.words })
    (λ j. let high = step.high in row_of_all a.rows a.cols cols (content_of a) row.index j (omega (arith, c.requires.end)) ∙ ap (λ cols. option_and_then (content_of a row.index) (index_at a.cols cols j)) c.in-Some.ensures))

pub of_rows-requires-clause-inside : goal.of_rows-requires-clause-inside
of_rows-requires-clause-inside c =
    let a = c.args.a.now in
    let cols = c.args.cols.now in
    (going_end (content_of a) (extracted a.rows a.cols All cols (content_of a)) c.args.range.start c.args.range.end a.cols (length c.in-Some.listed.now) c.loop-row.rest.entries c.loop-row.lists (all_empty a.rows a.cols cols (content_of a)) c.loop-row.invariant c.in_default-split_first.ensures).inside

pub returns-clause-words : goal.returns-clause-words
returns-clause-words c i j low high =
    let a = c.args.a.now in
    let cols = c.args.cols.now in
    let made = going_end (content_of a) (extracted a.rows a.cols All cols (content_of a)) c.args.range.start c.args.range.end a.cols (length c.in-Some.listed.now) c.loop-row.rest.entries c.loop-row.lists (all_empty a.rows a.cols cols (content_of a)) c.loop-row.invariant c.in_default-split_first.ensures in
    ap (λ es. word_at es i j) c.of_rows.ensures.entries ∙ made.words i j low high
