-- The product of two stores is that of their objects.
use Rattle.kernel.proofs.BitmapLaws.{if_same}
use Rattle.kernel.proofs.Computed.{factors-fit, product-computed}
use Rattle.kernel.proofs.bitmaps.two_bitmap.Goals as goal

pub returns-in-Multiply : goal.returns-in-Multiply
returns-in-Multiply g c =
    let accepts = rw c.in-Multiply.is at c.requires.accepts in
    let fit = factors-fit c.args.a c.args.b c.in-Multiply.form c.in-Multiply.semiring c.args.c accepts in
    rw c.in-Multiply.is (if_same c.multiplied_bitmap.result _ _ _ _ _ _ fit.rows fit.cols
    (product-computed c.args.a c.args.b c.in-Multiply.form c.in-Multiply.semiring c.args.c accepts) c.multiplied_bitmap.ensures)
