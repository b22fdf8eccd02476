-- A function of the words as they are stored is the function of the values in its domain.
use Rattle.std.proofs.Common.{◌≡◌, ◌∙◌, ap}
use Rattle.kernel.proofs.Computed.{applied-computed}
use Rattle.model.specs.ElementWise.{applied}
use Rattle.store.specs.Forms.{of_bitmap}
use Rattle.store.specs.Stored.{Stored, content_of}
use Rattle.kernel.proofs.bitmaps.applied_bitmap.Goals as goal

pub returns : goal.returns
returns g c =
    let a = c.args.a in
    let lent : of_bitmap c.in-Bitmap.bitmap.now ≡ a.store.now = rw c.in-Bitmap.is at c.form.ensures in
    let made = rw c.in-Some.ensures.1 at c.in_ok-made.ensures in
    record {
      rows_are = made.rows ∙ ap (λ (s : Stored). s.rows) lent ∙ a.rows;
      cols_are = made.cols ∙ ap (λ (s : Stored). s.cols) lent ∙ a.cols;
      words = λ i j.
          made.content i j ∙ ap (λ (s : Stored). applied c.args.function (content_of s) i j) lent
          ∙ applied-computed a c.args.function c.requires.takes i j;
    }
