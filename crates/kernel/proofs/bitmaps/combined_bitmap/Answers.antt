-- An operator's answers for words as they are stored are those for the values in its domain.
use Rattle.std.proofs.Common.{◌≡◌, ◌∙◌, ap}
use Rattle.algebra.specs.Operators.{eval_of}
use Rattle.elementwise.specs.Alone.{alone_by}
use Rattle.kernel.proofs.Computed.{intersection-computed, union-computed}
use Rattle.model.specs.ElementWise.{of_both, of_either}
use Rattle.model.specs.Entries.{word_at}
use Rattle.store.specs.Forms.{of_bitmap}
use Rattle.store.specs.Stored.{Stored, content_of}
use Rattle.kernel.proofs.bitmaps.combined_bitmap.Goals as goal

pub returns-in_ok-made-in-Union : goal.returns-in_ok-made-in-Union
returns-in_ok-made-in-Union g c =
    let a = c.args.a in
    let b = c.args.b in
    let op = c.in-Some.op in
    let named = c.in-Some.ensures.1 in
    let left : of_bitmap c.in-Bitmap.left.now ≡ a.store.now = rw c.in-Bitmap.is at c.form.ensures in
    let right : of_bitmap c.in-Bitmap-form.right.now ≡ b.store.now = rw c.in-Bitmap-form.is at c.form-2.ensures in
    let made = c.in_ok-made-in-Union.ensures in
    let first = rw (← named) at c.requires.takes_first in
    let second = rw (← named) at c.requires.takes_second in
    rw (c.in-Union.is, ← named) (record {
      rows_are = made.rows ∙ ap (λ (s : Stored). s.rows) left ∙ a.rows;
      cols_are = made.cols ∙ ap (λ (s : Stored). s.cols) left ∙ a.cols;
      words = λ i j.
          made.content i j
          ∙ ap (λ (s : Stored). of_either (alone_by op) (alone_by op) (eval_of op.kind op.domain) (content_of s i j) (word_at c.in-Bitmap-form.right.now.entries i j)) left
          ∙ ap (λ (s : Stored). of_either (alone_by op) (alone_by op) (eval_of op.kind op.domain) (content_of a.store.now i j) (content_of s i j)) right
          ∙ union-computed a b op first second i j;
    })

pub returns-in_ok-made-in-Intersection : goal.returns-in_ok-made-in-Intersection
returns-in_ok-made-in-Intersection g c =
    let a = c.args.a in
    let b = c.args.b in
    let op = c.in-Some.op in
    let named = c.in-Some.ensures.1 in
    let left : of_bitmap c.in-Bitmap.left.now ≡ a.store.now = rw c.in-Bitmap.is at c.form.ensures in
    let right : of_bitmap c.in-Bitmap-form.right.now ≡ b.store.now = rw c.in-Bitmap-form.is at c.form-2.ensures in
    let made = c.in_ok-made-in-Intersection.ensures in
    let first = rw (← named) at c.requires.takes_first in
    let second = rw (← named) at c.requires.takes_second in
    rw (c.in-Intersection.is, ← named) (record {
      rows_are = made.rows ∙ ap (λ (s : Stored). s.rows) left ∙ a.rows;
      cols_are = made.cols ∙ ap (λ (s : Stored). s.cols) left ∙ a.cols;
      words = λ i j.
          made.content i j
          ∙ ap (λ (s : Stored). of_both (eval_of op.kind op.domain) (content_of s i j) (word_at c.in-Bitmap-form.right.now.entries i j)) left
          ∙ ap (λ (s : Stored). of_both (eval_of op.kind op.domain) (content_of a.store.now i j) (content_of s i j)) right
          ∙ intersection-computed a b op first second i j;
    })
