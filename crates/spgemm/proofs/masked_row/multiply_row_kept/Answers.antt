use Rattle.std.proofs.Common.{◌≡◌, ◌∙◌, drop, length}
use Rattle.std.proofs.lemmas.List.{take_rest}
use Rattle.store.specs.Fibers.{entries_along}
use Rattle.spgemm.specs.Keeping.{HasKept, IsPart, keeps_among}
use Rattle.terms.specs.Terms.{kept_terms, terms_of_row}
use Rattle.terms.proofs.Kept.{terms_inside}
use Rattle.spgemm.proofs.KeptRows.{kept_open, open_inside, open_rises, row_closed}
use Rattle.spgemm.proofs.masked_row.multiply_row_kept.Goals as goal

pub part_in-part-requires-clause-rising : goal.part_in-part-requires-clause-rising
part_in-part-requires-clause-rising c =
    let terms = terms_of_row c.args.semiring.multiply (entries_along c.args.row.index c.args.row.cols.now c.args.row.words.now) c.args.b.now in
    let start : c.len-start.result ≡ length c.args.lists.now.inner.items = c.len-start.ensures ∙ c.args.lists.now.inner.ok.0 in
    rw (take_rest c.deref.result.now c.len-start.result, c.deref.ensures.value, start) (open_rises c.args.semiring.add.op c.args.row.index terms c.args.lists.now c.sum_row.new.lists c.in_ok-sum_row.ensures.row)

pub part_in-part-requires-clause-inside : goal.part_in-part-requires-clause-inside
part_in-part-requires-clause-inside c =
    let b = c.args.b.now in
    let row = entries_along c.args.row.index c.args.row.cols.now c.args.row.words.now in
    let start : c.len-start.result ≡ length c.args.lists.now.inner.items = c.len-start.ensures ∙ c.args.lists.now.inner.ok.0 in
    rw (take_rest c.deref.result.now c.len-start.result, c.deref.ensures.value, start, c.cols.ensures)
    (open_inside c.args.semiring.add.op c.args.row.index b.cols (terms_of_row c.args.semiring.multiply row b) c.args.lists.now c.sum_row.new.lists (terms_inside c.args.semiring.multiply row b) c.in_ok-sum_row.ensures.row)

pub returns-clause-row : goal.returns-clause-row
returns-clause-row c =
    let b = c.args.b.now in
    let op = c.args.semiring.add.op in
    let index = c.args.row.index in
    let range = c.args.range.now in
    let low = c.part_in-part.result.start in
    let high = c.part_in-part.result.end in
    let old = c.args.lists.now in
    let mid = c.sum_row.new.lists in
    let terms = terms_of_row c.args.semiring.multiply (entries_along index c.args.row.cols.now c.args.row.words.now) b in
    let start : c.len-start.result ≡ length old.inner.items = c.len-start.ensures ∙ old.inner.ok.0 in
    let part : IsPart range.start range.end (drop (length old.inner.items) mid.inner.items) low high = rw (take_rest c.deref.result.now c.len-start.result, c.deref.ensures.value, start) at c.part_in-part.ensures in
    let kept : HasKept c.args.test c.args.cols.now c.args.words.now (length old.inner.items) low high mid c.keep_sums.new.lists = rw start at c.keep_sums.ensures in
    let row = kept_open op index c.args.test range.start range.end c.args.cols.now c.args.words.now low high terms old mid c.keep_sums.new.lists c.requires.lists c.in_ok-sum_row.ensures.row part kept in
    row_closed c.close.result op index (kept_terms (keeps_among c.args.test range.start range.end (entries_along index c.args.cols.now c.args.words.now) index) terms) old c.keep_sums.new.lists c.close.new.self row c.close.ensures.ends c.close.ensures.inner c.close.ensures.words
