-- Each number of inputs gives the rows of what the operation computes.
use Rattle.std.proofs.Common.{rules}
use Rattle.std.specs.Int.{w128}
use Rattle.std.specs.Int.RustNames.{FitsSigned}
use Rattle.std.proofs.lemmas.Int.{to_z-of_z}
use Rattle.std.proofs.lemmas.Result.{IfOk-weaker}
use Rattle.kernel.proofs.MaskLaws.{agrees-rows, no-product}
use Rattle.model.specs.Operations.{operation}
use Rattle.kernel.specs.Blocks.{IsUnder}
use Rattle.kernel.specs.Products.{is_product}
use Rattle.kernel.proofs.operating.operation_rows.Goals as goal

pub returns-in-Fill-clause-rows : goal.returns-in-Fill-clause-rows
unfolding operation
returns-in-Fill-clause-rows c =
    let fits : FitsSigned w128 c.in-Fill.value = search rules in
    let rows = rw (c.wrapped.ensures, to_z-of_z w128 c.in-Fill.value fits) at c.filled_rows.ensures in
    rw c.in-Fill.is (IfOk-weaker c.filled_rows.result _ _
    (λ block has. agrees-rows c.args.mask c.args.range.start c.args.range.end _ _ block has) rows)

pub returns-in-OfOne-clause-rows : goal.returns-in-OfOne-clause-rows
unfolding operation
returns-in-OfOne-clause-rows c =
    rw c.in-OfOne.is (IfOk-weaker c.one_rows.result _ _
    (λ block has. agrees-rows c.args.mask c.args.range.start c.args.range.end _ _ block has) c.one_rows.ensures)

pub returns-in-OfTwo-clause-rows : goal.returns-in-OfTwo-clause-rows
unfolding operation
returns-in-OfTwo-clause-rows c = rw c.in-OfTwo.is c.two_rows.ensures.rows

pub returns-in-Fill-clause-under : goal.returns-in-Fill-clause-under
unfolding is_product
returns-in-Fill-clause-under c =
    rw c.in-Fill.is (no-product c.filled_rows.result (IsUnder c.args.mask c.args.range.start c.args.range.end))

pub returns-in-OfOne-clause-under : goal.returns-in-OfOne-clause-under
unfolding is_product
returns-in-OfOne-clause-under c =
    rw c.in-OfOne.is (no-product c.one_rows.result (IsUnder c.args.mask c.args.range.start c.args.range.end))

pub returns-in-OfTwo-clause-under : goal.returns-in-OfTwo-clause-under
unfolding is_product
returns-in-OfTwo-clause-under c = rw c.in-OfTwo.is c.two_rows.ensures.under
