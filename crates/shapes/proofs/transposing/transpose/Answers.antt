-- Behind the last column neither has an entry.
use Rattle.std.proofs.Common.{◌∙◌, ltb, refl, sym, inl, inr}
use Rattle.std.proofs.lemmas.Bool.{cases_lt, le-ltb}
use Rattle.store.proofs.RowWords.{no_column}
use Rattle.shapes.proofs.transposing.transpose.Goals as goal

pub returns-clause-content : goal.returns-clause-content
returns-clause-content c i j =
    let a = c.args.a.now in
    let made = c.from_block.ensures in
    elim (cases_lt i a.cols) [
      | inl less ↦ made.content i j ∙ c.in_ok-block.ensures.words i j less
      | inr past ↦
          made.within i j (rw (made.rows, c.cols.ensures, le-ltb i a.cols past) refl)
          ∙ sym (c.rows-rows.ensures.within j i (no_column (ltb j a.rows) (ltb i a.cols) (le-ltb i a.cols past)))
    ]
