use Rattle.std.proofs.Common.{◌≢◌, ◌/◌, ◌<◌, ◌≤◌, arith, length}
use Rattle.std.proofs.lemmas.List.Elements.{All-weaker}
use Rattle.spgemm.proofs.DenseLaws.{dense_open_each}
use Rattle.spgemm.proofs.dense.sum_in_span.Goals as goal

pub gather-requires-clause-before : goal.gather-requires-clause-before
gather-requires-clause-before c = λ at less.
    c.add_terms.ensures.others at (All-weaker (λ t. (c.args.span.now.start ≤ t.col / 64) × (t.col / 64 < c.args.span.now.end)) (λ t. t.col / 64 ≢ at) (λ t within is. absurd (omega (arith, within.0))) _ c.requires.span)

pub gather-requires-clause-behind : goal.gather-requires-clause-behind
gather-requires-clause-behind c = λ at le.
    c.add_terms.ensures.others at (All-weaker (λ t. (c.args.span.now.start ≤ t.col / 64) × (t.col / 64 < c.args.span.now.end)) (λ t. t.col / 64 ≢ at) (λ t within is. absurd (omega (arith, within.1))) _ c.requires.span)

pub returns-clause-row : goal.returns-clause-row
returns-clause-row c =
    let put = c.gather.ensures in
    dense_open_each c.gather.result c.args.semiring.add.op c.args.terms.now c.add_terms.new.bits c.add_terms.new.sums c.args.lists.now c.gather.new.lists
    (All-weaker (λ t. t.col < length c.args.sums.now) (λ t. t.col < length c.add_terms.new.sums) (λ t less. omega arith) c.args.terms.now c.requires.inside) c.add_terms.ensures.sums put.ends put.inner put.words
