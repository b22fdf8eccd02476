use Rattle.std.proofs.Common.{◌∙◌}
use Rattle.std.proofs.lemmas.Result.{IfOk-weaker}
use Rattle.lanes.specs.Functions.{word_made}
use Rattle.elementwise.proofs.BitmapLaws.{AreWordsOf, made_at}
use Rattle.elementwise.proofs.bitmaps.map_bitmap.Goals as goal

pub returns-clause-content : goal.returns-clause-content
returns-clause-content g c =
    let a = c.args.a.now in
    let old = c.words.result.now in
    let f = word_made c.args.function in
    let are : AreWordsOf a.rows a.cols a.entries old = record {
      inside = c.rows-rows.ensures.inside;
      long = c.words.ensures.length;
      here = c.words.ensures.words;
    } in
    IfOk-weaker c.with_words.result _ _
    (λ b content i j. content i j ∙ made_at a.rows a.cols a.entries old are (λ _ _. f) c.in_ok-words.words.items
    c.in_ok-words.ensures.words i j)
    c.with_words.ensures.content
