-- The column with the entries, as the block's one fiber.
use Rattle.std.proofs.Common.{◌≡◌, ◌∙◌, ◌<◌, ap, eqb, true, arith}
use Rattle.std.proofs.lemmas.Bool.Decides.{nat_tests}
use Rattle.std.proofs.lemmas.List.Elements.{All-weaker}
use Rattle.store.proofs.Contents.{one_column}
use Rattle.store.proofs.FormLaws.{column_below}
use Rattle.store.proofs.forms.put_into.Goals as goal

pub put_column-requires-clause-rising : goal.put_column-requires-clause-rising
put_column-requires-clause-rising c =
    let b = c.block.inside in
    let cols : b.cols ≡ 1 = ap (λ b. b.cols) c.block.view_is ∙ c.requires.cols in
    let one : eqb b.cols 1 ≡ true = grind (arith, nat_tests) in
    rw c.deref.ensures.value (one_column b.first b.past b.cols b.lists.ends.items b.lists.inner.items b.lists.words.items one c.block.invariant).rising

pub put_column-requires-clause-inside : goal.put_column-requires-clause-inside
put_column-requires-clause-inside c =
    let b = c.block.inside in
    let cols : b.cols ≡ 1 = ap (λ b. b.cols) c.block.view_is ∙ c.requires.cols in
    let past : b.past ≡ c.args.block.now.past = ap (λ b. b.past) c.block.view_is in
    let high = c.requires.past in
    let one : eqb b.cols 1 ≡ true = grind (arith, nat_tests) in
    rw c.deref.ensures.value (All-weaker (λ row. row < b.past) (λ row. row < c.args.bitmap.now.rows) (λ row low. omega arith) b.lists.inner.items
    (column_below b.first b.past b.cols b.lists.ends.items b.lists.inner.items b.lists.words.items one c.block.invariant))

pub returns-clause-content : goal.returns-clause-content
returns-clause-content c i j =
    let b = c.block.inside in
    let cols : b.cols ≡ 1 = ap (λ b. b.cols) c.block.view_is ∙ c.requires.cols in
    let one : eqb b.cols 1 ≡ true = grind (arith, nat_tests) in
    let column = one_column b.first b.past b.cols b.lists.ends.items b.lists.inner.items b.lists.words.items one c.block.invariant in
    rw (← c.block.view_is, column.down) (rw (c.deref.ensures.value, c.deref-2.ensures.value) at (c.put_column.ensures.content i j))
