-- The column with the entries, as the store's one fiber.
use Rattle.std.proofs.Common.{◌≡◌, ◌∙◌, ap, length, sym, eqb, true, arith}
use Rattle.std.proofs.lemmas.Bool.Decides.{nat_tests}
use Rattle.store.proofs.ColumnPuts.{column_put, length_held, none_put_words}
use Rattle.store.proofs.Contents.{one_column}
use Rattle.store.proofs.sparse.Sparse.put_block.Goals as goal

pub put_column-requires-clause-old_rises : goal.put_column-requires-clause-old_rises
put_column-requires-clause-old_rises c =
    let s = c.self.inside in
    let cols : s.cols ≡ 1 = ap (λ s. s.cols) c.self.view_is ∙ c.requires.column in
    let one : eqb s.cols 1 ≡ true = grind (arith, nat_tests) in
    (one_column 0 s.rows s.cols s.lists.ends.items s.lists.inner.items s.lists.words.items one c.self.invariant).rising

pub put_column-requires-clause-rises : goal.put_column-requires-clause-rises
put_column-requires-clause-rises c =
    let b = c.block.inside in
    let cols : b.cols ≡ 1 = ap (λ b. b.cols) c.block.view_is ∙ c.requires.cols in
    let one : eqb b.cols 1 ≡ true = grind (arith, nat_tests) in
    (one_column b.first b.past b.cols b.lists.ends.items b.lists.inner.items b.lists.words.items one c.block.invariant).rising

pub put_column-requires-clause-some : goal.put_column-requires-clause-some
put_column-requires-clause-some c =
    let b = c.block.inside in
    let long = length_held b.cols b.lists.ends.items b.lists.inner.items b.lists.words.items c.block.invariant.flat in
    let same = ap (λ b. length b.entries) c.block.view_is in
    let test = sym c.is_empty.ensures ∙ c.if-is_empty.false in
    grind (arith, nat_tests)

pub invariant_of-self : goal.invariant_of-self
invariant_of-self c =
    let s = c.self.inside in
    let b = c.block.inside in
    let put = c.put_column in
    let cols : s.cols ≡ 1 = ap (λ s. s.cols) c.self.view_is ∙ c.requires.column in
    let block_cols : b.cols ≡ 1 = ap (λ b. b.cols) c.block.view_is ∙ c.requires.cols in
    let rows = ap (λ s. s.rows) c.self.view_is in
    let past = ap (λ b. b.past) c.block.view_is in
    let high = c.requires.past in
    (column_put s.rows s.cols b.first b.past b.cols s.lists b.lists put.new.lists put.result cols block_cols (omega arith) c.self.invariant c.block.invariant put.ensures.ends put.ensures.lengths put.ensures.some put.ensures.put put.ensures.refused).held

pub returns-clause-content : goal.returns-clause-content
returns-clause-content c =
    let s = c.self.inside in
    let b = c.block.inside in
    let put = c.put_column in
    let cols : s.cols ≡ 1 = ap (λ s. s.cols) c.self.view_is ∙ c.requires.column in
    let block_cols : b.cols ≡ 1 = ap (λ b. b.cols) c.block.view_is ∙ c.requires.cols in
    let rows = ap (λ s. s.rows) c.self.view_is in
    let past = ap (λ b. b.past) c.block.view_is in
    let high = c.requires.past in
    rw (← c.self.view_is, ← c.block.view_is) (column_put s.rows s.cols b.first b.past b.cols s.lists b.lists put.new.lists put.result cols block_cols (omega arith) c.self.invariant c.block.invariant put.ensures.ends put.ensures.lengths put.ensures.some put.ensures.put put.ensures.refused).words

pub returns-then-is_empty-clause-content : goal.returns-then-is_empty-clause-content
returns-then-is_empty-clause-content c i j = none_put_words c.args.block.now.entries _ i j (sym c.is_empty.ensures ∙ c.if-is_empty.true)
