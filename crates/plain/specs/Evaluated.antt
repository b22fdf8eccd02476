-- What the plain evaluator's objects and lines stand for.
use Rattle.std.specs.Prelude.{ℕ, ◌&&◌, ◌==◌, Bool, true, List, map, Option, Some, None, Vec}
use Rattle.std.specs.List.{find}
use Rattle.std.specs.Option.{option_map, option_map_or}
use Rattle.algebra.specs.Operators.{offers}
use Rattle.algebra.specs.declared.operator_names.OpName.{OpName}
use Rattle.algebra.specs.declared.operator_names.SemiringName.{SemiringName}
use Rattle.model.specs.declared.call.Form.{Form}
use Rattle.model.specs.declared.call.Form.TheVariants.{MatrixMatrix, MatrixVector, VectorMatrix}
use Rattle.model.specs.declared.entry.Entry.{Entry}
use Rattle.model.specs.Object.{Content, Object, cols_of, in_domain, rows_of, transposed_object}
use Rattle.model.specs.Product.{product_of}
use Rattle.model.specs.Regions.{cut_to}
use Rattle.model.specs.Table.{transposed_if}
use Rattle.plain.specs.declared.objects.PlainObject.{PlainObject}
use Rattle.plain.specs.declared.inputs.Input.{Input}

-- the first word that is listed for each position
abbrev pub listed_word : List Entry → Content
listed_word es = λ i j. option_map (λ e. e.word) (find (λ e. (i == e.row) && (j == e.col)) es)

-- the object: at each position inside the shape the first word that is listed for it
abbrev pub object_of : PlainObject → Object
object_of o = record {
  domain = o.domain;
  shape = o.shape;
  content = cut_to (rows_of o.shape) (cols_of o.shape) (listed_word o.entries.items);
}

-- ..and one that is lent, as it is read
abbrev pub input_of : Input → Object
input_of input = transposed_if transposed_object input.is_transposed (record {
  domain = input.domain;
  shape = input.kept_shape;
  content = cut_to (rows_of input.kept_shape) (cols_of input.kept_shape) (listed_word input.entries.now);
})

-- the lines of an answer
abbrev pub lines_of : {A : Type 0} → Vec (Vec ℕ A) A → List (List ℕ)
lines_of lines = map (λ line. line.items) lines.items

-- ---- operations

-- whether there is the operator of an accumulator, where there is one
abbrev pub accumulator_offered : Option OpName → Bool
accumulator_offered accum = option_map_or (λ op. offers op.kind op.domain) accum true

-- a sum, where there is one, and one more term, where there is one
abbrev pub added : (ℕ → ℕ → ℕ) → Option ℕ → Option ℕ → Option ℕ
added add None term = term
added add (Some sum) None = Some sum
added add (Some sum) (Some term) = Some (add sum term)

-- a position of a product or of its first factor: where they are rows, they are held as columns
abbrev pub place_in : Form → ℕ → ℕ → ℕ × ℕ
place_in MatrixMatrix row col = (row, col)
place_in MatrixVector row col = (row, col)
place_in VectorMatrix row col = (col, row)

-- the terms that are summed for a column of a product, at each row and each index of the sum
abbrev pub terms_of : Form → SemiringName → Object → Object → ℕ → Content
terms_of form semiring a b col = λ row k.
    let at = place_in form row k in
    product_of semiring (in_domain semiring.domain a at.0 at.1) (in_domain semiring.domain b k col)
