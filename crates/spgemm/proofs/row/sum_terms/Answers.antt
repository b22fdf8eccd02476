use Rattle.std.proofs.Common.{◌≡◌, ◌<◌, ◌/◌, ap, arith, length}
use Rattle.std.proofs.lemmas.List.Elements.{All-weaker}
use Rattle.spgemm.proofs.row.sum_terms.Goals as goal

pub sum_in_span-requires-clause-inside : goal.sum_in_span-requires-clause-inside
sum_in_span-requires-clause-inside c =
    let places = c.pays.ensures c.if-pays.true in
    let len = c.len-2.ensures in
    let long = c.deref_mut-then-pays.ensures.len in
    rw c.deref-then-pays.ensures.value (All-weaker (λ t. t.col < c.args.cols) (λ t. t.col < length c.deref_mut-then-pays.result.now) (λ t less. omega arith) c.args.scratch.now.terms.items c.requires.inside)

pub sum_in_span-requires-clause-end : goal.sum_in_span-requires-clause-end
sum_in_span-requires-clause-end c =
    let places = c.pays.ensures c.if-pays.true in
    let len = c.len-2.ensures in
    let sums = c.deref_mut-then-pays.ensures.value in
    let long = c.deref_mut-then-pays.ensures.len in
    let words = length c.deref_mut.result.now in
    let bits : words ≡ length c.args.scratch.now.bits.items = ap length c.deref_mut.ensures.value in
    let room = c.requires.room in
    let same = ap length sums in
    c.span_of-span.ensures.bound words (omega arith) (rw c.deref.ensures.value (All-weaker (λ t. t.col < c.args.cols) (λ t. t.col / 64 < words) (λ t less. omega arith) c.args.scratch.now.terms.items c.requires.inside))
