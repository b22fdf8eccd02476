-- What is outside in each row that is listed, and nothing between them.
use Rattle.std.proofs.Common.{◌∙◌, ap, false, None, get_or, arith}
use Rattle.model.specs.Entries.{word_at}
use Rattle.store.specs.Stored.{content_of}
use Rattle.shapes.specs.Lists.{with_rows}
use Rattle.shapes.specs.Sides.{one_side}
use Rattle.shapes.proofs.FewLaws.{made_between, made_listed, none_to_end, none_to_place, up_to_again, up_to_more, up_to_none}
use Rattle.shapes.proofs.Made.{made_none}
use Rattle.shapes.proofs.few.keep_named.Goals as goal
use Rattle.shapes.proofs.few.keep_named.Goals.{then-row-index+in_ok-keep_row, else-row-index}

pub loop-index-init : goal.loop-index-init
loop-index-init c = record {
  up_to = up_to_none c.args.listed.now c.args.range.start c.args.range.end c.requires.range;
  made = λ rows cols size named fits.
      let a = c.args.a.now in
      made_none (with_rows c.args.listed.now (one_side false size a.cols rows cols (content_of a)) (λ i j. None)) c.args.range.start a.cols c.new-lists.result c.new-lists.ensures.ends c.new-lists.ensures.inner c.new-lists.ensures.words;
}

pub loop-index-preserved : goal.loop-index-preserved
loop-index-preserved c =
    let a = c.args.a.now in
    let listed = c.args.listed.now in
    let first = c.args.range.start in
    let past = c.args.range.end in
    let k = c.loop-index.index-index in
    let row = c.loop-index.row in
    let index = get_or listed k 0 in
    let here = c.loop-index.invariant in
    let within = c.loop-index-test.true in
    elim c.if-row-index.branch [
      | then-row-index+in_ok-keep_row w ↦
          let up = w.if-row-index.true in
          let high = (c.requires.inside k 0 within).1 in
          rw (w.row-is, w.lists-is) (record {
            up_to = up_to_more listed first past k row c.requires.inside within up here.up_to;
            made = λ rows cols size named fits.
                made_listed (one_side false size a.cols rows cols (content_of a)) listed k first row a.cols c.loop-index.lists w.keep_row.new.lists within
                (none_to_place listed first past k row c.requires.rises within here.up_to) up (here.made rows cols size named fits)
                (w.in_ok-keep_row.ensures rows cols (content_of a) size a.cols named (omega arith) w.find_row.ensures);
          })
      | else-row-index w ↦
          let down = w.if-row-index.false in
          rw (w.row-is, w.lists-is) (record { up_to = up_to_again listed first past k row (omega arith) here.up_to; made = here.made })
    ]

pub of_rows-requires-clause-flat : goal.of_rows-requires-clause-flat
of_rows-requires-clause-flat c =
    let names = c.requires.named in
    (c.loop-index.invariant.made names.0 names.1 c.args.range.end names.2 (omega arith)).flat

pub of_rows-requires-clause-inside : goal.of_rows-requires-clause-inside
of_rows-requires-clause-inside c =
    let a = c.args.a.now in
    let listed = c.args.listed.now in
    let first = c.args.range.start in
    let past = c.args.range.end in
    let row = c.loop-index.row in
    let here = c.loop-index.invariant in
    let names = c.requires.named in
    rw c.cols.ensures
    (made_between (one_side false past a.cols names.0 names.1 (content_of a)) listed first row past a.cols c.loop-index.lists (none_to_end listed first past c.loop-index.index-index row (omega arith) here.up_to) here.up_to.high
    (here.made names.0 names.1 past names.2 (omega arith))).inside

pub returns-clause-words : goal.returns-clause-words
returns-clause-words c rows cols size i j named fits low high =
    let a = c.args.a.now in
    let listed = c.args.listed.now in
    let first = c.args.range.start in
    let past = c.args.range.end in
    let row = c.loop-index.row in
    let here = c.loop-index.invariant in
    ap (λ es. word_at es i j) c.of_rows.ensures.entries
    ∙ (made_between (one_side false size a.cols rows cols (content_of a)) listed first row past a.cols c.loop-index.lists (none_to_end listed first past c.loop-index.index-index row (omega arith) here.up_to) here.up_to.high
    (here.made rows cols size named fits)).words i j low high
