-- Rows of the old store up to one that is listed, that one of the new, and those of the old behind the last of them.
use Rattle.std.proofs.Common.{◌∙◌, ap, get_or, arith}
use Rattle.model.specs.Entries.{word_at}
use Rattle.store.specs.Stored.{along, content_of}
use Rattle.store.specs.Fibers.{entries_in}
use Rattle.store.proofs.PartLaws.{rows_front, rows_none}
use Rattle.shapes.specs.Lists.{with_rows}
use Rattle.shapes.proofs.FewLaws.{none_to_end, none_to_place, rows_between, rows_listed, up_to_again, up_to_more, up_to_none}
use Rattle.shapes.proofs.few.replace_rows.Goals as goal
use Rattle.shapes.proofs.few.replace_rows.Goals.{then-row-index+in_ok-append_rows+in_ok-append_rows-2, else-row-index}

pub loop-index-init : goal.loop-index-init
loop-index-init c = record {
  up_to = up_to_none c.args.listed.now c.args.range.start c.args.range.end c.requires.range;
  made = rows_none (with_rows c.args.listed.now (content_of c.args.new.now) (content_of c.args.old.now)) c.args.range.start c.args.old.now.cols c.in_ok-lists.lists c.in_ok-lists.ensures.ends c.in_ok-lists.ensures.inner c.in_ok-lists.ensures.words;
}

pub append_rows-requires-clause-front : goal.append_rows-requires-clause-front
append_rows-requires-clause-front c = rows_front (with_rows c.args.listed.now (content_of c.args.new.now) (content_of c.args.old.now)) c.args.range.start c.loop-index.row c.args.old.now.cols c.loop-index.lists c.loop-index.invariant.made

pub append_rows-requires-then-row-index-clause-front : goal.append_rows-requires-then-row-index-clause-front
append_rows-requires-then-row-index-clause-front c =
    let listed = c.args.listed.now in
    let new = content_of c.args.new.now in
    let old = content_of c.args.old.now in
    let first = c.args.range.start in
    let k = c.loop-index.index-index in
    let row = c.loop-index.row in
    let index = get_or listed k 0 in
    let here = c.loop-index.invariant in
    let cols = c.args.old.now.cols in
    rw c.requires.cols
    (rows_front (with_rows listed new old) first index cols c.append_rows.new.lists
    (rows_between new old listed first row index cols c.loop-index.lists c.append_rows.new.lists (none_to_place listed first c.args.range.end k row c.requires.rises c.loop-index-test.true here.up_to)
    here.up_to.low c.if-row-index.true here.made c.in_ok-append_rows.ensures))

pub loop-index-preserved : goal.loop-index-preserved
loop-index-preserved c =
    let listed = c.args.listed.now in
    let new = content_of c.args.new.now in
    let old = content_of c.args.old.now in
    let first = c.args.range.start in
    let past = c.args.range.end in
    let k = c.loop-index.index-index in
    let row = c.loop-index.row in
    let index = get_or listed k 0 in
    let here = c.loop-index.invariant in
    let within = c.loop-index-test.true in
    let cols = c.args.old.now.cols in
    elim c.if-row-index.branch [
      | then-row-index+in_ok-append_rows+in_ok-append_rows-2 w ↦
          let up = w.if-row-index.true in
          let start = here.up_to.low in
          let between = rows_between new old listed first row index cols c.loop-index.lists w.append_rows.new.lists (none_to_place listed first past k row c.requires.rises within here.up_to) start up here.made w.in_ok-append_rows.ensures in
          rw (w.row-is, w.lists-is) (record {
            up_to = up_to_more listed first past k row c.requires.inside within up here.up_to;
            made = rows_listed new old listed k first cols w.append_rows.new.lists w.append_rows-then-row-index.new.lists within (omega arith) between (rw c.requires.cols at w.in_ok-append_rows-2.ensures);
          })
      | else-row-index w ↦
          let down = w.if-row-index.false in
          rw (w.row-is, w.lists-is) (record { up_to = up_to_again listed first past k row (omega arith) here.up_to; made = here.made })
    ]

pub of_fibers-requires-clause-inside : goal.of_fibers-requires-clause-inside
of_fibers-requires-clause-inside c =
    let listed = c.args.listed.now in
    let new = content_of c.args.new.now in
    let old = content_of c.args.old.now in
    let first = c.args.range.start in
    let past = c.args.range.end in
    let row = c.loop-index.row in
    let here = c.loop-index.invariant in
    rw c.cols.ensures
    (rows_between new old listed first row past c.args.old.now.cols c.loop-index.lists c.append_rows-2.new.lists (none_to_end listed first past c.loop-index.index-index row (omega arith) here.up_to) here.up_to.low here.up_to.high here.made c.in_ok-append_rows-3.ensures).inside

pub returns-clause-words : goal.returns-clause-words
returns-clause-words c i j low high =
    let listed = c.args.listed.now in
    let new = content_of c.args.new.now in
    let old = content_of c.args.old.now in
    let first = c.args.range.start in
    let past = c.args.range.end in
    let row = c.loop-index.row in
    let here = c.loop-index.invariant in
    ap (λ es. word_at es i j) (c.of_fibers.ensures.entries ∙ ap (λ n. along n (entries_in c.append_rows-2.new.lists)) c.cols.ensures)
    ∙ (rows_between new old listed first row past c.args.old.now.cols c.loop-index.lists c.append_rows-2.new.lists (none_to_end listed first past c.loop-index.index-index row (omega arith) here.up_to) here.up_to.low here.up_to.high here.made c.in_ok-append_rows-3.ensures).words i j low high
