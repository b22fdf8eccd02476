use Rattle.std.proofs.Common.{◌≡◌, OnOk, arith, subst}
use Rattle.lanes.specs.Bits.{has_bit}
use Rattle.store.specs.Fibers.{entries_along}
use Rattle.terms.specs.Marked.{keeps_marked}
use Rattle.spgemm.specs.Products.{HasOpenRow}
use Rattle.terms.specs.Terms.{kept_terms, terms_of_row}
use Rattle.spgemm.proofs.FewKept.{kept_alike}
use Rattle.terms.proofs.Kept.{terms_inside}
use Rattle.spgemm.proofs.marked_row.sum_marked_places.Goals as goal

pub returns-then-keeps_few : goal.returns-then-keeps_few
returns-then-keeps_few c =
    let mul = c.args.semiring.multiply in
    let b = c.args.b.now in
    let row = entries_along c.args.row.index c.args.row.cols.now c.args.row.words.now in
    let terms = terms_of_row mul row b in
    let kept = c.deref-then-keeps_few.result.now in
    let is : kept ≡ c.read_bits.new.bits.items = c.deref-then-keeps_few.ensures.value in
    let wide = c.in_ok-fit.ensures.words in
    let count = c.len.ensures in
    let cols = c.cols.ensures in
    let alike : kept_terms (has_bit kept) terms ≡ kept_terms (keeps_marked c.args.mask) terms = kept_alike (has_bit kept) (keeps_marked c.args.mask) b.cols terms
    (λ at less. rw is (c.in_ok-read_bits.ensures.bits at (omega arith))) (terms_inside mul row b) in
    subst (λ ts. OnOk c.sum_few.result (HasOpenRow c.args.semiring.add.op c.args.row.index ts c.args.lists.now c.sum_few.new.lists)) alike c.sum_few.ensures
