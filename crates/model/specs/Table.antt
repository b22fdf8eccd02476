-- The table of operations: the kinds of their inputs, what must be compatible, what must fit and lie inside, and
-- the shape and the domain of what each computes.
use Rattle.std.specs.Prelude.{ℕ, ℤ, ◌*◌, ◌==◌, ◌&&◌, not, Bool, true, if◌then◌else◌}
use Rattle.algebra.specs.declared.functions.FunctionName.TheVariants.{First}
use Rattle.algebra.specs.Functions.{function_answer, has_value, offers_function, takes}
use Rattle.algebra.specs.IndexOperators.{offers_index, scalar_domain, takes_index}
use Rattle.algebra.specs.Operators.{answer_domain, combines_by, offers, offers_semiring}
use Rattle.algebra.specs.Value.{are_compatible, is_built_in, is_value_of}
use Rattle.model.specs.declared.call.Desc.{Desc}
use Rattle.model.specs.declared.call.Form.{Form}
use Rattle.model.specs.declared.call.Form.TheVariants.{MatrixMatrix, MatrixVector, VectorMatrix}
use Rattle.model.specs.declared.call.OneInput.{OneInput}
use Rattle.model.specs.declared.call.OneInput.TheVariants.{Apply, Select, ReduceRows, Transpose, Extract, Assign}
use Rattle.model.specs.declared.call.Operation.{Operation}
use Rattle.model.specs.declared.call.Operation.TheVariants.{Fill, OfOne, OfTwo}
use Rattle.model.specs.declared.call.Plan.{Plan}
use Rattle.model.specs.declared.call.Region.{Region}
use Rattle.model.specs.declared.call.TwoInputs.{TwoInputs}
use Rattle.model.specs.declared.call.TwoInputs.TheVariants.{Combine, Multiply}
use Rattle.model.specs.declared.shape.Shape.{Shape}
use Rattle.model.specs.declared.shape.Shape.TheVariants.{One, Two}
use Rattle.model.specs.declared.shape.Signature.{Signature}
use Rattle.model.specs.Indices.{count_of}
use Rattle.model.specs.Object.{cols_of, is_matrix, rows_of, same_kind, same_shape, transposed_shape}
use Rattle.model.specs.Regions.{cols_in, has_no_repeat, is_region_of, lies_inside, rows_in, shape_in}

-- whether factors are of the kinds that a product's form says
abbrev pub are_factors : Form → Shape → Shape → Bool
are_factors MatrixMatrix a b = is_matrix a && is_matrix b
are_factors MatrixVector a b = is_matrix a && not (is_matrix b)
are_factors VectorMatrix a b = not (is_matrix a) && is_matrix b

-- the number of products that are summed at most: the first factor's columns, or a row's size
abbrev pub inner_size : Form → Shape → ℕ
inner_size MatrixMatrix a = cols_of a
inner_size MatrixVector a = cols_of a
inner_size VectorMatrix a = rows_of a

abbrev pub product_shape : Form → Shape → Shape → Shape
product_shape MatrixMatrix a b = Two (rows_of a) (cols_of b)
product_shape MatrixVector a b = One (rows_of a)
product_shape VectorMatrix a b = One (cols_of b)

-- what asks nothing, and computes what has a shape and a domain
abbrev pub asks_nothing : Signature → Plan
asks_nothing of = record {
  kinds = true;
  compatible = true;
  fits = true;
  inside = true;
  values = true;
  shape = of.shape;
  domain = of.domain;
}

-- what an operation says of its output and its one input
abbrev pub plan_of_one : Signature → OneInput → Signature → Plan
plan_of_one c (Apply function) a = record (asks_nothing a) {
  compatible = takes function a.domain;
  values = has_value function;
  domain = function_answer function;
}
plan_of_one c (Select op scalar) a = record (asks_nothing a) {
  compatible = takes_index op.kind op.domain a.domain;
  values = is_value_of (scalar_domain op.kind op.domain) scalar;
}
plan_of_one c (ReduceRows monoid) a = record (asks_nothing a) {
  kinds = is_matrix a.shape;
  compatible = are_compatible a.domain monoid.domain;
  shape = One (rows_of a.shape);
  domain = monoid.domain;
}
plan_of_one c Transpose a = record (asks_nothing a) { kinds = is_matrix a.shape; shape = transposed_shape a.shape }
plan_of_one c (Extract region) a = record (asks_nothing a) {
  kinds = is_region_of region a.shape;
  inside = lies_inside a.shape region;
  shape = shape_in a.shape region;
}
plan_of_one c (Assign region) a = record (asks_nothing a) {
  kinds = is_region_of region a.shape && is_region_of region c.shape;
  fits = same_shape a.shape (shape_in c.shape region);
  inside = lies_inside c.shape region;
  values = has_no_repeat region;
  shape = c.shape;
}

-- ..and of its two inputs
abbrev pub plan_of_two : TwoInputs → Signature → Signature → Plan
plan_of_two (Multiply form semiring) a b = record (asks_nothing a) {
  kinds = are_factors form a.shape b.shape;
  compatible = are_compatible a.domain semiring.domain && are_compatible b.domain semiring.domain;
  fits = inner_size form a.shape == rows_of b.shape;
  shape = product_shape form a.shape b.shape;
  domain = answer_domain semiring.multiply semiring.domain;
}
plan_of_two (Combine positions op) a b = record (asks_nothing a) {
  kinds = same_kind a.shape b.shape;
  compatible = are_compatible a.domain op.domain && are_compatible b.domain op.domain;
  fits = same_shape a.shape b.shape;
  domain = answer_domain op.kind op.domain;
}

-- ..and of a region of its output, where it has no input
abbrev pub plan_of_fill : Signature → ℤ → Region → Plan
plan_of_fill c value region = record (asks_nothing c) {
  kinds = is_region_of region c.shape;
  compatible = is_built_in c.domain;
  inside = lies_inside c.shape region;
  values = is_value_of c.domain value;
}

abbrev pub plan_of : Signature → Operation Signature → Plan
plan_of c (Fill value region) = plan_of_fill c value region
plan_of c (OfOne computes a) = plan_of_one c computes a
plan_of c (OfTwo computes a b) = plan_of_two computes a b

-- the number of positions that an operation fills with one value, counted as often as lists name them
abbrev pub filled_by : {K : Type 0} → Shape → Operation K → ℕ
filled_by shape (Fill value region) =
    count_of (rows_of shape) (rows_in region) * count_of (cols_of shape) (cols_in region)
filled_by shape _ = 0

-- whether there is the operator that an operation names, if it names one
abbrev pub offers_one : OneInput → Bool
offers_one (Apply function) = offers_function function
offers_one (Select op scalar) = offers_index op.kind op.domain
offers_one (ReduceRows monoid) = offers (combines_by monoid.kind) monoid.domain
offers_one _ = true

abbrev pub offers_two : TwoInputs → Bool
offers_two (Multiply form semiring) = offers_semiring semiring.add semiring.multiply semiring.domain
offers_two (Combine positions op) = offers op.kind op.domain

abbrev pub is_offered : {K : Type 0} → Operation K → Bool
is_offered (Fill value region) = true
is_offered (OfOne computes a) = offers_one computes
is_offered (OfTwo computes a b) = offers_two computes

-- ---- transposed inputs (GrB_INP0, GrB_INP1)

abbrev pub transposed_if : {K : Type 0} → (K → K) → Bool → K → K
transposed_if transpose flag a = if flag then transpose a else a

-- the flag that transposes the one input; where the first operand is a plain value, it is the second operand
abbrev pub transposes_one : OneInput → Desc → Bool
transposes_one (Apply (First op value)) desc = desc.transpose_second
transposes_one _ desc = desc.transpose_first

-- an operation whose inputs are transposed as the flags say
abbrev pub transposed : {K : Type 0} → (K → K) → Desc → Operation K → Operation K
transposed transpose desc (Fill value region) = Fill value region
transposed transpose desc (OfOne computes a) = OfOne computes (transposed_if transpose (transposes_one computes desc) a)
transposed transpose desc (OfTwo computes a b) =
    OfTwo computes (transposed_if transpose desc.transpose_first a) (transposed_if transpose desc.transpose_second b)
