use Rattle.std.proofs.Common.{◌<◌, ◌++◌, ◌∙◌, ap, rules, subst, sym}
use Rattle.std.specs.Option.{option_or}
use Rattle.bitmap.proofs.OverLaws.{over}
use Rattle.model.specs.declared.entry.Entry.{Entry}
use Rattle.model.specs.Entries.{IsInside, word_at}
use Rattle.store.specs.Fibers.{entries_along}
use Rattle.store.proofs.FlatLaws.{all_rows}
use Rattle.store.proofs.Order.{all_append_left, all_append_right}
use Rattle.store.proofs.RowPuts.{rows_put}
use Rattle.store.proofs.Walks.{rest_shorter}
use Rattle.store.proofs.forms.put_rows.Goals as goal
use Rattle.store.proofs.forms.put_rows.Goals.{In-Some}

-- the first row and the others lie inside
parts : (c : In-Some) → let row = c.in-Some.row in
    IsInside c.args.bitmap.now.rows c.args.bitmap.now.cols (entries_along row.index row.cols.now row.words.now ++ c.in-Some.others.entries)
parts c = subst (IsInside c.args.bitmap.now.rows c.args.bitmap.now.cols) c.in-Some.ensures.whole c.loop-row.invariant.inside

pub put_row-requires-clause-inside : goal.put_row-requires-clause-inside
put_row-requires-clause-inside c =
    let row = c.in-Some.row in
    let s = c.loop-row in
    rw (s.invariant.rows, s.invariant.cols)
    (all_append_left (λ (e : Entry). (e.row < c.args.bitmap.now.rows) × (e.col < c.args.bitmap.now.cols)) (entries_along row.index row.cols.now row.words.now) c.in-Some.others.entries (parts (search rules)))

pub loop-row-smaller : goal.loop-row-smaller
loop-row-smaller c =
    let row = c.in-Some.row in
    rest_shorter row.index row.cols.now row.words.now c.loop-row.rest.entries c.in-Some.others.entries c.in-Some.ensures

pub loop-row-preserved : goal.loop-row-preserved
loop-row-preserved c =
    let s = c.loop-row in
    let row = c.in-Some.row in
    let here = entries_along row.index row.cols.now row.words.now in
    let others = c.in-Some.others.entries in
    record {
      content = λ i j.
          ap (option_or (word_at others i j)) (c.put_row.ensures.content i j)
          ∙ rows_put (word_at s.bitmap.entries) row.index here others i j (all_rows row.index row.cols.now row.words.now) c.in-Some.ensures.behind
          ∙ ap (λ es. over (word_at es) (word_at s.bitmap.entries) i j) (sym c.in-Some.ensures.whole)
          ∙ s.invariant.content i j;
      inside = all_append_right (λ (e : Entry). (e.row < c.args.bitmap.now.rows) × (e.col < c.args.bitmap.now.cols)) here others (parts (search rules));
      rows = c.put_row.ensures.rows ∙ s.invariant.rows;
      cols = c.put_row.ensures.cols ∙ s.invariant.cols;
    }

pub returns-clause-content : goal.returns-clause-content
unfolding word_at
returns-clause-content c i j =
    ap (λ (es : _). over (word_at es) (word_at c.loop-row.bitmap.entries) i j) (sym c.in_default.ensures) ∙ c.loop-row.invariant.content i j
