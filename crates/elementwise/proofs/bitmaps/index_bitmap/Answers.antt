use Rattle.std.proofs.Common.{◌∙◌}
use Rattle.std.proofs.lemmas.Result.{IfOk-weaker}
use Rattle.elementwise.specs.Mapped.{answer_by}
use Rattle.elementwise.proofs.BitmapLaws.{AreWordsOf, made_at}
use Rattle.elementwise.proofs.bitmaps.index_bitmap.Goals as goal

pub returns-clause-content : goal.returns-clause-content
returns-clause-content g c =
    let a = c.args.a.now in
    let old = c.words-words.result.now in
    let f = answer_by c.args.op c.args.s in
    let are : AreWordsOf a.rows a.cols a.entries old = record {
      inside = c.rows-rows.ensures.inside;
      long = c.words-words.ensures.length;
      here = c.words-words.ensures.words;
    } in
    let each = rw c.cols-cols.ensures at c.in_ok-answers.ensures.words in
    IfOk-weaker c.with_words.result _ _
    (λ b content i j. content i j ∙ made_at a.rows a.cols a.entries old are f c.in_ok-answers.answers.items each i j)
    c.with_words.ensures.content
