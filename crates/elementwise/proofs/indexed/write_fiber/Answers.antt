use Rattle.std.proofs.Common.{arith}
use Rattle.lanes.proofs.Lists.{zip_with-from_places}
use Rattle.elementwise.specs.Mapped.{answer_by, as_they_lie}
use Rattle.elementwise.proofs.indexed.write_fiber.Goals as goal

pub returns : goal.returns
returns c =
    let long = c.loop-k.auto.words in
    let all_done = c.loop-k-test.false in
    zip_with-from_places (as_they_lie c.args.is_column (answer_by c.args.op c.args.s) c.args.outer) c.args.inner.now c.args.words.now c.loop-k.words
    (omega arith) (omega arith)
    (λ n within. c.loop-k.invariant.made n (omega arith))
