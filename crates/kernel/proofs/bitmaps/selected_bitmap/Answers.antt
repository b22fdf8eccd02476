-- A test of the words as they are stored is the test of the values in its domain.
use Rattle.std.proofs.Common.{◌≡◌, ◌∙◌, ap, rules}
use Rattle.std.specs.Int.{w128}
use Rattle.std.specs.Int.RustNames.{FitsSigned}
use Rattle.std.proofs.lemmas.Int.{to_z-of_z}
use Rattle.algebra.specs.IndexOperators.{scalar_domain}
use Rattle.algebra.specs.Value.{word_of}
use Rattle.elementwise.specs.Tests.{passes_by}
use Rattle.kernel.proofs.Computed.{selected-computed}
use Rattle.model.specs.ElementWise.{kept_where}
use Rattle.store.specs.Forms.{of_bitmap}
use Rattle.store.specs.Stored.{Stored, content_of}
use Rattle.kernel.proofs.bitmaps.selected_bitmap.Goals as goal

pub returns : goal.returns
returns g c =
    let a = c.args.a in
    let op = c.in-Some.op in
    let named = c.in-Some.ensures.1 in
    let fits : FitsSigned w128 c.args.scalar = search rules in
    let lent : of_bitmap c.in-Bitmap.bitmap.now ≡ a.store.now = rw c.in-Bitmap.is at c.form.ensures in
    let made = rw (c.wrapped-s.ensures, c.scalar.ensures, to_z-of_z w128 c.args.scalar fits) at c.in_ok-made.ensures in
    let takes = rw (← named) at c.requires.takes in
    rw (← named) (record {
      rows_are = made.rows ∙ ap (λ (s : Stored). s.rows) lent ∙ a.rows;
      cols_are = made.cols ∙ ap (λ (s : Stored). s.cols) lent ∙ a.cols;
      words = λ i j.
          made.content i j
          ∙ ap (λ (s : Stored). kept_where (passes_by op (word_of (scalar_domain op.kind op.domain) c.args.scalar)) (content_of s) i j) lent
          ∙ selected-computed a op c.args.scalar takes i j;
    })
