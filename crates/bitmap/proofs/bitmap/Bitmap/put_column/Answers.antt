use Rattle.std.proofs.Common.{◌∙◌, ap, arith, cond, eqb, ◌&&◌, get_or, refl, Some}
use Rattle.std.proofs.lemmas.List.{take_all}
use Rattle.model.specs.Entries.{word_at}
use Rattle.bitmap.specs.Bitmaps.{entries_down}
use Rattle.bitmap.proofs.ColumnLaws.{long_down}
use Rattle.bitmap.proofs.OverLaws.{next_over, over}
use Rattle.bitmap.proofs.bitmap.Bitmap.put_column.Goals as goal

pub loop-k-init : goal.loop-k-init
unfolding word_at
loop-k-init c = record { content = λ p q. refl; rows = refl; cols = refl }

pub loop-k-preserved : goal.loop-k-preserved
loop-k-preserved c =
    let s = c.loop-k in
    let rows = c.args.rows.now in
    let words = c.args.words.now in
    record {
      content = λ p q.
          c.set.ensures.content p q
          ∙ ap (cond (eqb p (get_or rows s.k 0) && eqb q 0) (Some (get_or words s.k 0))) (s.invariant.content p q)
          ∙ next_over (word_at c.args.self.now.entries) rows words s.k p q c.requires.lengths c.requires.rising c.loop-k-test.true;
      rows = c.set.ensures.rows ∙ s.invariant.rows;
      cols = c.set.ensures.cols ∙ s.invariant.cols;
    }

pub returns-clause-content : goal.returns-clause-content
returns-clause-content c = λ p q.
    let rows = c.args.rows.now in
    let words = c.args.words.now in
    let long = long_down rows words c.requires.lengths in
    c.loop-k.invariant.content p q ∙ ap (λ es. over (word_at es) (word_at c.args.self.now.entries) p q) (take_all c.loop-k.k (entries_down rows words) (omega (arith, c.loop-k-test.false)))
