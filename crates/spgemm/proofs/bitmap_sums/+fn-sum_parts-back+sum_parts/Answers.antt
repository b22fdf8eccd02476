-- What two parts have is put together.
use Rattle.std.proofs.Common.{refl, arith}
use Rattle.std.proofs.lemmas.Result.{IfOk-at_ok}
use Rattle.spgemm.specs.Partials.{AreSumsOf}
use Rattle.spgemm.proofs.PartialLaws.{are_alike}
use Rattle.spgemm.proofs.bitmap_sums.+fn-sum_parts-back+sum_parts.Goals as goal

pub beside-requires : goal.beside-requires
beside-requires g t c =
    let f = c.args.factors in
    let low = IfOk-at_ok (λ s. AreSumsOf f c.args.rows.start c.in-Some.cut s) c.in_ok-low.was c.join-low.ensures.first in
    let high = IfOk-at_ok (λ s. AreSumsOf f c.in-Some.cut c.args.rows.end s) c.in_ok-high.was c.join-low.ensures.second in
    are_alike f c.args.rows.start c.in-Some.cut c.args.rows.end c.in_ok-low.low c.in_ok-high.high low high

pub returns : goal.returns
returns g t c =
    let f = c.args.factors in
    let cut = c.in-Some.cut in
    let low = IfOk-at_ok (λ s. AreSumsOf f c.args.rows.start cut s) c.in_ok-low.was c.join-low.ensures.first in
    let high = IfOk-at_ok (λ s. AreSumsOf f cut c.args.rows.end s) c.in_ok-high.was c.join-low.ensures.second in
    c.beside.ensures f c.args.rows.start cut c.args.rows.end refl (omega (arith, c.in-Some.ensures.low)) (omega (arith, c.in-Some.ensures.high)) low high
