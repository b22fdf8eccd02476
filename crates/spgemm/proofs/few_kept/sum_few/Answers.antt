use Rattle.std.proofs.Common.{◌≡◌, ◌<◌, arith, length, true}
use Rattle.std.specs.List.{All}
use Rattle.std.proofs.lemmas.List.Elements.{All-weaker}
use Rattle.lanes.specs.Bits.{has_bit}
use Rattle.store.specs.Fibers.{entries_along}
use Rattle.terms.specs.Terms.{kept_terms, terms_of_row}
use Rattle.terms.specs.declared.term.Term.{Term}
use Rattle.spgemm.proofs.DenseLaws.{below_width, dense_open_ok}
use Rattle.terms.proofs.Kept.{all_kept}
use Rattle.spgemm.proofs.few_kept.sum_few.Goals as goal

pub returns : goal.returns
returns c =
    let op = c.args.semiring.add.op in
    let mul = c.args.semiring.multiply in
    let b = c.args.b.now in
    let row = entries_along c.args.row.index c.args.row.cols.now c.args.row.words.now in
    let terms = terms_of_row mul row b in
    let keeps = has_bit c.args.kept.now in
    let bits = c.add_rows-products.new.bits in
    let words = c.add_rows-products.new.sums in
    let Inside : Term → Type 0 = λ t. t.col < length words in
    let inside : All Inside (kept_terms keeps terms) = All-weaker (λ t. Inside t × (keeps t.col ≡ true)) Inside (λ t p. p.0) (kept_terms keeps terms)
    (all_kept Inside keeps terms (below_width mul row b (length words) (omega (arith, c.requires.inside, c.add_rows-products.auto.sums)))) in
    dense_open_ok c.gather.result op c.args.row.index (kept_terms keeps terms) bits words c.args.lists.now c.gather.new.lists inside
    c.add_rows-products.ensures c.gather.ensures.ends
    (rw c.in_ok-reserve.ensures.items at c.gather.ensures.inner) (rw c.in_ok-reserve-2.ensures.items at c.gather.ensures.words)
