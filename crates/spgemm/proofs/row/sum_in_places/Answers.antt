use Rattle.std.proofs.Common.{◌≡◌, ◌<◌, ◌&&◌, ◌∙◌, ℕ, length, rules, true}
use Rattle.std.specs.List.{All}
use Rattle.std.proofs.lemmas.List.{with_items_is}
use Rattle.std.proofs.lemmas.List.Elements.{All-weaker}
use Rattle.store.specs.Fibers.{entries_along}
use Rattle.lanes.specs.Bits.{has_bit}
use Rattle.terms.specs.Marked.{lets_marked}
use Rattle.terms.specs.Terms.{kept_terms, terms_of_row}
use Rattle.terms.specs.declared.term.Term.{Term}
use Rattle.spgemm.proofs.DenseLaws.{below_width, dense_open_ok}
use Rattle.terms.proofs.Kept.{all_kept}
use Rattle.spgemm.proofs.KeptBits.{kept_sums}
use Rattle.spgemm.proofs.row.sum_in_places.Goals as goal

pub returns-clause-row : goal.returns-clause-row
returns-clause-row c =
    let op = c.args.semiring.add.op in
    let mul = c.args.semiring.multiply in
    let b = c.args.b.now in
    let row = entries_along c.args.row.index c.args.row.cols.now c.args.row.words.now in
    let terms = terms_of_row mul row b in
    let keeps = lets_marked c.args.mask in
    let bits = c.deref_mut-2.result.now in
    let words = c.deref.result.now in
    let before = c.add_in_places.new.scratch in
    let made = c.in_ok-add_in_places.ensures in
    let are : bits ≡ c.keep_bits.new.bits = c.deref_mut-2.ensures.value ∙ with_items_is before.bits c.keep_bits.new.bits (search rules) in
    let same : (at : ℕ) → has_bit bits at ≡ (has_bit before.bits.items at && keeps at) = rw (are, ← c.deref_mut.ensures.value) c.keep_bits.ensures.bits in
    let sums : words ≡ before.sums.items = c.deref.ensures.value in
    let Inside : Term → Type 0 = λ t. t.col < length words in
    let inside : All Inside (kept_terms keeps terms) = All-weaker (λ t. Inside t × (keeps t.col ≡ true)) Inside (λ t p. p.0) (kept_terms keeps terms)
    (all_kept Inside keeps terms (below_width mul row b (length words) (rw sums made.inside))) in
    dense_open_ok c.gather.result op c.args.row.index (kept_terms keeps terms) bits words c.args.lists.now c.gather.new.lists inside
    (rw sums (kept_sums op keeps terms before.bits.items bits before.sums.items same made.sums)) c.gather.ensures.ends c.gather.ensures.inner c.gather.ensures.words
