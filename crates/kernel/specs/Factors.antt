-- Stores as the factors of a product.
use Rattle.std.specs.Prelude.{ℕ, ◌≡◌}
use Rattle.model.specs.declared.call.Form.{Form}
use Rattle.model.specs.declared.call.Form.TheVariants.{MatrixMatrix, MatrixVector, VectorMatrix}
use Rattle.store.specs.Stored.{Stored}

-- the number of products that are summed at most
abbrev pub inner_of : Form → Stored → ℕ
inner_of MatrixMatrix a = a.cols
inner_of MatrixVector a = a.cols
inner_of VectorMatrix a = a.rows

-- the rows and the columns of the product
abbrev pub rows_of_product : Form → Stored → Stored → ℕ
rows_of_product MatrixMatrix a b = a.rows
rows_of_product MatrixVector a b = a.rows
rows_of_product VectorMatrix a b = b.cols

abbrev pub cols_of_product : Form → Stored → ℕ
cols_of_product MatrixMatrix b = b.cols
cols_of_product MatrixVector b = b.cols
cols_of_product VectorMatrix b = 1

-- a vector is one column
abbrev pub IsFirstOf : Form → Stored → Type 0
IsFirstOf MatrixMatrix a = Unit {0}
IsFirstOf MatrixVector a = Unit {0}
IsFirstOf VectorMatrix a = a.cols ≡ 1

-- the factors fit each other
pub record AreFactors (form : Form) (a b : Stored) : Type 0 where
  pub first : IsFirstOf form a
  pub inner : inner_of form a ≡ b.rows
