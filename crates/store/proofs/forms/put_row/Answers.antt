use Rattle.std.proofs.Common.{◌∙◌, ◌<◌, ap, arith, cond, eqb, ◌&&◌, get_or, refl, rules, Some}
use Rattle.std.proofs.lemmas.List.{take_all}
use Rattle.model.specs.Entries.{word_at}
use Rattle.bitmap.proofs.OverLaws.{over}
use Rattle.store.specs.Fibers.{entries_along}
use Rattle.store.proofs.Places.{length_row}
use Rattle.store.proofs.RowPuts.{next_put, place_in}
use Rattle.store.proofs.forms.put_row.Goals as goal
use Rattle.store.proofs.forms.put_row.Goals.{In-loop-k}

pub loop-k-init : goal.loop-k-init
unfolding word_at
loop-k-init c = record { content = λ p q. refl; rows = refl; cols = refl }

inside : (c : In-loop-k) → (c.args.row.index < c.loop-k.bitmap.rows) × (get_or c.args.row.cols.now c.loop-k.k 0 < c.loop-k.bitmap.cols)
inside c =
    let s = c.loop-k in
    let row = c.args.row in
    rw (s.invariant.rows, s.invariant.cols) (place_in c.args.bitmap.now.rows c.args.bitmap.now.cols row.index row.cols.now row.words.now s.k c.requires.lengths c.loop-k-test.true c.requires.inside)

pub set-requires-clause-row : goal.set-requires-clause-row
set-requires-clause-row c = (inside (search rules)).0

pub set-requires-clause-col : goal.set-requires-clause-col
set-requires-clause-col c = (inside (search rules)).1

pub loop-k-preserved : goal.loop-k-preserved
loop-k-preserved c =
    let s = c.loop-k in
    let row = c.args.row in
    let cols = row.cols.now in
    let words = row.words.now in
    record {
      content = λ p q.
          c.set.ensures.content p q
          ∙ ap (cond (eqb p row.index && eqb q (get_or cols s.k 0)) (Some (get_or words s.k 0))) (s.invariant.content p q)
          ∙ next_put (word_at c.args.bitmap.now.entries) row.index cols words s.k p q c.requires.lengths c.requires.rising c.loop-k-test.true;
      rows = c.set.ensures.rows ∙ s.invariant.rows;
      cols = c.set.ensures.cols ∙ s.invariant.cols;
    }

pub returns-clause-content : goal.returns-clause-content
returns-clause-content c = λ p q.
    let row = c.args.row in
    let es = entries_along row.index row.cols.now row.words.now in
    let long = length_row row.index row.cols.now row.words.now c.requires.lengths in
    c.loop-k.invariant.content p q
    ∙ ap (λ es. over (word_at es) (word_at c.args.bitmap.now.entries) p q) (take_all c.loop-k.k es (omega (arith, c.loop-k-test.false)))
