-- Factors whose shapes fit.
use Rattle.std.proofs.Common.{◌≡◌, ◌∙◌, not, true, sym}
use Rattle.std.proofs.lemmas.Bool.{and_parts}
use Rattle.kernel.specs.Factors.{AreFactors, cols_of_product, inner_of, rows_of_product}
use Rattle.model.specs.declared.call.Form.{Form}
use Rattle.model.specs.declared.call.Form.TheVariants.{MatrixMatrix, MatrixVector, VectorMatrix}
use Rattle.model.specs.declared.shape.Shape.{Shape}
use Rattle.model.specs.declared.shape.Shape.TheVariants.{One, Two}
use Rattle.model.specs.Object.{cols_of, is_matrix, rows_of, same_shape}
use Rattle.model.specs.Table.{are_factors, inner_size, product_shape}
use Rattle.model.proofs.ObjectLaws.{same_shape-rows, vector-column}
use Rattle.store.specs.Stored.{Stored}

-- ---- shapes

-- the store has a shape
pub record IsShaped (s : Stored) (shape : Shape) : Type 0 where
  pub rows : s.rows ≡ rows_of shape
  pub cols : s.cols ≡ cols_of shape

-- stores of shapes that a product accepts
pub record FitTogether (form : Form) (a b : Stored) (c : Shape) : Type 0 where
  pub factors : AreFactors form a b
  pub rows : rows_of_product form a b ≡ rows_of c
  pub cols : cols_of_product form b ≡ cols_of c

pub fit_together : (form : Form) (a b : Stored) (first second c : Shape) → IsShaped a first → IsShaped b second
    → are_factors form first second ≡ true → inner_size form first ≡ rows_of second
    → same_shape (product_shape form first second) c ≡ true → FitTogether form a b c
fit_together MatrixMatrix a b first second c is_a is_b kinds inner shape =
    let same = same_shape-rows (Two (rows_of first) (cols_of second)) c shape in
    record {
      factors = record { first = tt; inner = is_a.cols ∙ inner ∙ sym is_b.rows };
      rows = is_a.rows ∙ same.0;
      cols = is_b.cols ∙ same.1;
    }
fit_together MatrixVector a b first second c is_a is_b kinds inner shape =
    let same = same_shape-rows (One (rows_of first)) c shape in
    record {
      factors = record { first = tt; inner = is_a.cols ∙ inner ∙ sym is_b.rows };
      rows = is_a.rows ∙ same.0;
      cols = is_b.cols ∙ vector-column second (and_parts (is_matrix first) (not (is_matrix second)) kinds).1 ∙ same.1;
    }
fit_together VectorMatrix a b first second c is_a is_b kinds inner shape =
    let same = same_shape-rows (One (cols_of second)) c shape in
    record {
      factors = record { first = is_a.cols ∙ vector-column first (and_parts (not (is_matrix first)) (is_matrix second) kinds).0; inner = is_a.rows ∙ inner ∙ sym is_b.rows };
      rows = is_b.cols ∙ same.0;
      cols = same.1;
    }

pub inner-shaped : (form : Form) (a : Stored) (shape : Shape) → IsShaped a shape
    → inner_of form a ≡ inner_size form shape
inner-shaped MatrixMatrix a shape is = is.cols
inner-shaped MatrixVector a shape is = is.cols
inner-shaped VectorMatrix a shape is = is.rows
