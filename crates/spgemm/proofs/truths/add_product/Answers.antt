use Rattle.std.proofs.Common.{◌<◌, arith}
use Rattle.spgemm.proofs.TruthLaws.{on_bool, product_truth, truth_more}
use Rattle.spgemm.proofs.truths.add_product.Goals as goal

pub set_bit_by-requires-clause-truth : goal.set_bit_by-requires-clause-truth
set_bit_by-requires-clause-truth c = rw c.eval-product.ensures (product_truth c.args.semiring c.args.word c.args.other c.requires.lor)

pub returns : goal.returns
returns c = λ terms here.
    let on = on_bool c.args.semiring.add c.requires.lor in
    let product = c.eval-product in
    let small : product.result < 2 = rw product.ensures (product_truth c.args.semiring c.args.word c.args.other c.requires.lor) in
    rw product.ensures at (truth_more c.args.semiring.add.op terms c.args.col product.result c.args.bits.now c.args.trues.now c.set_bit.new.bits c.set_bit_by.new.bits on.0 on.1 small
    (omega (arith, c.set_bit.auto.bits)) c.set_bit.ensures.bit c.set_bit_by.ensures here)
