-- Each kernel gives the rows of what is computed of two inputs.
use Rattle.std.proofs.lemmas.Result.{IfOk-weaker}
use Rattle.kernel.proofs.Computed.{factors-fit, product-computed}
use Rattle.kernel.proofs.MaskLaws.{agrees-masked, no-product, rows-under}
use Rattle.kernel.specs.Blocks.{IsUnder}
use Rattle.kernel.specs.Products.{is_product_of}
use Rattle.kernel.proofs.operating.two_rows.Goals as goal

pub returns-in-Some-clause-rows : goal.returns-in-Some-clause-rows
returns-in-Some-clause-rows c =
    let accepts = rw c.in-Multiply.is at c.requires.accepts in
    let rows = rw c.in-Some.ensures.1 at c.multiplied_rows.ensures in
    rw c.in-Multiply.is (IfOk-weaker c.multiplied_rows.result _ _
    (λ block has. agrees-masked c.args.mask c.args.range.start c.args.range.end _ _ _ _ block
    (factors-fit c.args.a c.args.b c.in-Multiply.form c.in-Multiply.semiring c.args.c accepts).cols
    (product-computed c.args.a c.args.b c.in-Multiply.form c.in-Multiply.semiring c.args.c accepts) has)
    rows)

pub returns-in-Some-clause-under : goal.returns-in-Some-clause-under
returns-in-Some-clause-under c =
    IfOk-weaker c.multiplied_rows.result _ _
    (λ block has product. rows-under c.args.mask c.args.range.start c.args.range.end _ _ block has) c.multiplied_rows.ensures

-- what is combined is no product
pub returns-in-Combine-clause-under : goal.returns-in-Combine-clause-under
unfolding is_product_of
returns-in-Combine-clause-under c = rw c.in-Combine.is (no-product c.combined_rows.result (IsUnder c.args.mask c.args.range.start c.args.range.end))
