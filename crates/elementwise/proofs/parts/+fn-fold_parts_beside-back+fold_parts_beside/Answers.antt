-- What two shares are combined to is combined.
use Rattle.std.proofs.Common.{◌≡◌, ◌∙◌, ◌++◌, ap}
use Rattle.std.proofs.lemmas.List.Concat.{flat_map-append}
use Rattle.model.specs.Reductions.{all_words}
use Rattle.store.specs.Stored.{Stored, content_of}
use Rattle.elementwise.specs.Sums.{words_of}
use Rattle.elementwise.proofs.FoldLaws.{fold_parted}
use Rattle.elementwise.proofs.parts.+fn-fold_parts_beside-back+fold_parts_beside.Goals as goal

pub returns-clause-sum : goal.returns-clause-sum
returns-clause-sum g t c =
    let m = c.args.monoid in
    let sums = c.join-first.ensures in
    let low = c.split_at.result.0.now in
    let high = c.split_at.result.1.now in
    let whole : words_of c.args.parts.now ≡ words_of low ++ words_of high = ap words_of c.split_at.ensures.by_index.0 ∙ flat_map-append (λ (s : Stored). all_words s.rows s.cols (content_of s)) low high in
    rw (whole) (fold_parted m.kind m.op.kind m.op.domain (words_of low) (words_of high) m.combines m.op.offered c.requires.laws sums.second.1 sums.first.0 sums.second.0 c.eval.ensures)
