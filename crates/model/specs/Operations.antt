-- What each operation computes of its inputs, before it is accumulated and written back.
use Rattle.std.specs.Prelude.{ℕ, Bool, true, Option, Some, None}
use Rattle.std.specs.Option.{option_map_or}
use Rattle.algebra.specs.declared.operator_names.OpName.{OpName}
use Rattle.algebra.specs.declared.operator_names.SemiringName.{SemiringName}
use Rattle.algebra.specs.Functions.{function_domain}
use Rattle.algebra.specs.Value.{word_of}
use Rattle.model.specs.declared.call.Form.{Form}
use Rattle.model.specs.declared.call.Form.TheVariants.{MatrixMatrix, MatrixVector, VectorMatrix}
use Rattle.model.specs.declared.call.OneInput.{OneInput}
use Rattle.model.specs.declared.call.OneInput.TheVariants.{Apply, Select, ReduceRows, Transpose, Extract, Assign}
use Rattle.model.specs.declared.call.Operation.{Operation}
use Rattle.model.specs.declared.call.Operation.TheVariants.{Fill, OfOne, OfTwo}
use Rattle.model.specs.declared.call.Positions.{Positions}
use Rattle.model.specs.declared.call.Positions.TheVariants.{Union, Intersection}
use Rattle.model.specs.declared.call.Region.{Region}
use Rattle.model.specs.declared.call.TwoInputs.{TwoInputs}
use Rattle.model.specs.declared.call.TwoInputs.TheVariants.{Combine, Multiply}
use Rattle.model.specs.declared.shape.Shape.{Shape}
use Rattle.model.specs.declared.shape.Signature.{Signature}
use Rattle.model.specs.ElementWise.{applied, intersection, selected, union}
use Rattle.model.specs.Object.{Content, Object, cols_of, in_domain, rows_of, signature_of, transposed_content}
use Rattle.model.specs.Product.{product}
use Rattle.model.specs.Reductions.{row_sums}
use Rattle.model.specs.Regions.{cols_in, extracted, filled, is_listed, placed, rows_in}
use Rattle.model.specs.Renamed.{renamed_operation}
use Rattle.model.specs.Table.{inner_size, plan_of}

-- The product of two factors of a form, over at most n terms. A vector is a column; as the first factor it is a
-- row, and so is the product, which is a column again.
abbrev pub multiplied : Form → SemiringName → ℕ → Content → Content → Content
multiplied MatrixMatrix semiring n a b = product semiring n a b
multiplied MatrixVector semiring n a b = product semiring n a b
multiplied VectorMatrix semiring n a b = transposed_content (product semiring n (transposed_content a) b)

abbrev pub combined : Positions → OpName → Object → Object → Content
combined Union op a b = union op a b
combined Intersection op a b = intersection op a b

-- of an output of a shape, at whose positions an assignment puts its input
abbrev pub computed_of_one : Shape → OneInput → Object → Content
computed_of_one shape (Apply function) a = applied function (in_domain (function_domain function) a)
computed_of_one shape (Select op scalar) a = selected op scalar a
computed_of_one shape (ReduceRows monoid) a = row_sums monoid (cols_of a.shape) (in_domain monoid.domain a)
computed_of_one shape Transpose a = transposed_content a.content
computed_of_one shape (Extract region) a =
    extracted (rows_of a.shape) (cols_of a.shape) (rows_in region) (cols_in region) a.content
computed_of_one shape (Assign region) a =
    placed (rows_of shape) (cols_of shape) (rows_in region) (cols_in region) a.content

abbrev pub computed_of_two : TwoInputs → Object → Object → Content
computed_of_two (Multiply form semiring) a b =
    multiplied form semiring (inner_size form a.shape) (in_domain semiring.domain a) (in_domain semiring.domain b)
computed_of_two (Combine positions op) a b = combined positions op a b

-- the map of it, for an output of a domain and a shape
unfoldable pub operation : Signature → Operation Object → Content
operation c (Fill value region) =
    filled (rows_of c.shape) (cols_of c.shape) (rows_in region) (cols_in region) (word_of c.domain value)
operation c (OfOne computes a) = computed_of_one c.shape computes a
operation c (OfTwo computes a b) = computed_of_two computes a b

-- ..and the object, whose domain and shape the table gives
abbrev pub computed : Signature → Operation Object → Object
computed c inputs =
    let plan = plan_of c (renamed_operation signature_of inputs) in
    record { domain = plan.domain; shape = plan.shape; content = operation c inputs }

-- ---- where it is written

-- the region of its output that an operation writes (GrB_assign), where it doesn't write all of it
abbrev pub region_put : OneInput → Option Region
region_put (Assign region) = Some region
region_put _ = None

abbrev pub region_written : {K : Type 0} → Operation K → Option Region
region_written (Fill value region) = Some region
region_written (OfOne computes a) = region_put computes
region_written (OfTwo computes a b) = None

-- the positions of an output of a shape that an operation writes
abbrev pub is_written_by : {K : Type 0} → Shape → Operation K → ℕ → ℕ → Bool
is_written_by shape inputs i j = option_map_or
    (λ region. is_listed (rows_of shape) (cols_of shape) (rows_in region) (cols_in region) i j)
    (region_written inputs) true
