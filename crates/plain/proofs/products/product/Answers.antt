-- The terms are those of a row.
use Rattle.std.proofs.Common.{◌∙◌}
use Rattle.algebra.specs.OperatorNames.{semiring_named}
use Rattle.model.specs.Table.{inner_size}
use Rattle.plain.specs.Evaluated.{input_of}
use Rattle.plain.proofs.SumLaws.{product-row}
use Rattle.plain.proofs.products.product.Goals as goal

pub returns : goal.returns
returns c =
    let a = input_of c.args.a in
    rw (c.inner_size.ensures, c.shape.ensures, c.args.semiring.adds_answers, c.place_in-row.ensures) at c.row_sum.ensures
    ∙ product-row c.args.form (semiring_named c.args.semiring) (inner_size c.args.form a.shape) a (input_of c.args.b) c.args.row c.args.col
