-- What two parts are combined to is combined.
use Rattle.std.proofs.Common.{◌+◌, arith}
use Rattle.elementwise.proofs.FoldLaws.{fold_made}
use Rattle.elementwise.proofs.folding.+fn-fold_beside-back+fold_beside.Goals as goal

pub returns : goal.returns
returns g t c =
    let m = c.args.monoid in
    let parts = c.split_at.ensures in
    let sums = c.join-first.ensures in
    fold_made m.kind m.op.kind m.op.domain c.split_at.result.0.now c.split_at.result.1.now c.args.words.now m.combines m.op.offered c.requires.laws (λ k. omega (arith, parts.by_index.2 k 0, c.type_inv.words (c.args.each + k))) parts.by_index.0 sums.first sums.second c.eval.ensures
