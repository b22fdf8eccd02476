-- Bit k % 64 of word k / 64 is that of place k.
use Rattle.std.proofs.Common.{◌≡◌, ℕ, ◌<◌, ◌+◌, ◌*◌, ◌/◌, ◌%◌, ◌∙◌, ap, arith, get_or, length}
use Rattle.std.proofs.lemmas.Result.{IfOk-weaker}
use Rattle.lanes.specs.Bits.{has_bit}
use Rattle.elementwise.specs.Tests.{passes_by}
use Rattle.elementwise.proofs.BitmapLaws.{AreWordsOf, kept_at}
use Rattle.elementwise.proofs.bitmaps.select_bitmap.Goals as goal

pub returns-clause-content : goal.returns-clause-content
returns-clause-content g c =
    let a = c.args.a.now in
    let old = c.words-words.result.now in
    let test = passes_by c.args.op c.args.s in
    let are : AreWordsOf a.rows a.cols a.entries old = record {
      inside = c.rows-rows.ensures.inside;
      long = c.words-words.ensures.length;
      here = c.words-words.ensures.words;
    } in
    let bits = c.deref.result.now in
    let made = rw (← c.deref.ensures.value, c.cols-cols.ensures) at c.in_ok-passing.ensures.words in
    let each : (at : ℕ) → at < length old → has_bit bits at ≡ test (at / a.cols) (at % a.cols) (get_or old at 0) = λ at within.
    let there : 64 * (at / 64) + at % 64 ≡ at = omega arith in
    made (at / 64) (omega arith) (at % 64) (omega arith) (omega arith)
    ∙ ap (λ i. test (i / a.cols) (i % a.cols) (get_or old i 0)) there in
    IfOk-weaker c.keep.result _ _
    (λ b content i j. content i j ∙ kept_at a.rows a.cols a.entries old are test bits each i j)
    c.keep.ensures.content
