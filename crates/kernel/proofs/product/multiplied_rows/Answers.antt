-- A row of a product rests on the same row of its first factor.
use Rattle.std.proofs.Common.{◌≡◌, ◌∙◌, ◌⊎◌, ◌<◌, ◌≤◌, ℕ, None, Result, IfOk, ap, cond, inl, inr, refl}
use Rattle.algebra.specs.declared.semiring.Semiring.{Semiring}
use Rattle.algebra.specs.OperatorNames.{semiring_named}
use Rattle.kernel.specs.Blocks.{HasRows}
use Rattle.kernel.specs.Factors.{cols_of_product, inner_of}
use Rattle.kernel.proofs.MaskLaws.{if_rows}
use Rattle.kernel.proofs.RowLaws.{product_there}
use Rattle.masks.specs.declared.view.Mask.{Mask}
use Rattle.masks.specs.Masks.{lets_through}
use Rattle.masks.specs.Writes.{inside_of}
use Rattle.model.specs.declared.call.Form.{Form}
use Rattle.model.specs.declared.call.Form.TheVariants.{MatrixMatrix, MatrixVector}
use Rattle.model.specs.Operations.{multiplied}
use Rattle.model.specs.Product.{product}
use Rattle.store.specs.Forms.{sparse_of}
use Rattle.store.specs.Stored.{AgreesIn, Block, Stored, block_content, content_of}
use Rattle.kernel.proofs.product.multiplied_rows.Goals as goal

same_rows : (semiring : Semiring) (first past : ℕ) (mask : Mask) (lists a b : Stored) → AgreesIn first past lists a
    → (i j : ℕ) → first ≤ i → i < past
    → cond (lets_through mask i j) (product (semiring_named semiring) lists.cols (content_of lists) (content_of b) i j) None
    ≡ cond (lets_through mask i j) (product (semiring_named semiring) a.cols (content_of a) (content_of b) i j) None
same_rows semiring first past mask lists a b same i j low high =
    let named = semiring_named semiring in
    ap (λ w. cond (lets_through mask i j) w None)
    (ap (λ n. product named n (content_of lists) (content_of b) i j) same.cols_are
    ∙ product_there named a.cols (content_of lists) (content_of b) (content_of a) i j (λ k. same.words i k low high))

product_rows : {E : Type 0} (form : Form) (semiring : Semiring) (first past : ℕ) (mask : Mask) (result : Result Block E)
    (lists a b : Stored) → (form ≡ MatrixMatrix) ⊎ (form ≡ MatrixVector) → AgreesIn first past lists a
    → IfOk result (λ block. block.first ≡ first) → IfOk result (λ block. block.past ≡ past)
    → IfOk result (λ block. block.cols ≡ b.cols)
    → IfOk result (λ block. (i j : ℕ) → first ≤ i → i < past → block_content block i j
    ≡ cond (lets_through mask i j) (product (semiring_named semiring) lists.cols (content_of lists) (content_of b) i j) None)
    → IfOk result (HasRows first past (cols_of_product form b)
    (inside_of mask (multiplied form (semiring_named semiring) (inner_of form a) (content_of a) (content_of b))))
product_rows form semiring first past mask result lists a b (inl is) same is_first is_past is_cols words =
    rw is (if_rows result first past b.cols b.cols _ _ refl (same_rows semiring first past mask lists a b same) is_first is_past is_cols words)
product_rows form semiring first past mask result lists a b (inr is) same is_first is_past is_cols words =
    rw is (if_rows result first past b.cols b.cols _ _ refl (same_rows semiring first past mask lists a b same) is_first is_past is_cols words)

pub returns-in-MatrixMatrix : goal.returns-in-MatrixMatrix
returns-in-MatrixMatrix c =
    let rows = rw (c.get.ensures, c.get-in-MatrixMatrix.ensures ∙ c.in_ok-b.ensures) at c.multiply_rows_under.ensures in
    product_rows c.args.form c.args.semiring c.args.range.start c.args.range.end c.args.mask c.multiply_rows_under.result
    (sparse_of c.in_ok-a-in-MatrixMatrix.a) c.args.a.now c.args.b.now c.in-MatrixMatrix.is c.in_ok-a-in-MatrixMatrix.ensures rows.first rows.past rows.cols rows.words
