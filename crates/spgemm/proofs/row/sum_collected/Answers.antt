use Rattle.std.proofs.Common.{None, OnOk, ◌∙◌, ◌<◌, arith, subst, sym, take}
use Rattle.std.specs.List.{All}
use Rattle.store.specs.Fibers.{entries_along}
use Rattle.terms.specs.Marked.{lets_marked}
use Rattle.spgemm.specs.Products.{HasOpenRow}
use Rattle.terms.specs.Terms.{terms_of_row}
use Rattle.terms.proofs.Kept.{all_terms, kept_all, terms_inside}
use Rattle.spgemm.proofs.Rows.{open_of}
use Rattle.spgemm.proofs.row.sum_collected.Goals as goal

pub sum_terms-requires-clause-inside : goal.sum_terms-requires-clause-inside
sum_terms-requires-clause-inside c =
    let b = c.args.b.now in
    let mul = c.args.semiring.multiply in
    let row = entries_along c.args.row.index c.args.row.cols.now c.args.row.words.now in
    let all = all_terms (lets_marked None) mul c.args.row.index c.args.row.cols.now c.args.row.words.now b c.collect_terms.new.scratch.terms.items c.in_ok-done.done c.requires.lengths (omega (arith, c.if-done-row.false)) c.in_ok-done.ensures.terms ∙ kept_all (terms_of_row mul row b) in
    rw c.cols.ensures (subst (All (λ t. t.col < b.cols)) (sym all) (terms_inside mul row b))

pub sum_in_places-requires-clause-terms : goal.sum_in_places-requires-clause-terms
sum_in_places-requires-clause-terms c =
    let row = entries_along c.args.row.index c.args.row.cols.now c.args.row.words.now in
    record { are_those = c.in_ok-done.ensures.terms.are_those ∙ kept_all (terms_of_row c.args.semiring.multiply (take c.in_ok-done.done row) c.args.b.now) }

pub returns-clause-row : goal.returns-clause-row
returns-clause-row c =
    let mul = c.args.semiring.multiply in
    let row = entries_along c.args.row.index c.args.row.cols.now c.args.row.words.now in
    let all = all_terms (lets_marked None) mul c.args.row.index c.args.row.cols.now c.args.row.words.now c.args.b.now c.collect_terms.new.scratch.terms.items c.in_ok-done.done c.requires.lengths (omega (arith, c.if-done-row.false)) c.in_ok-done.ensures.terms ∙ kept_all (terms_of_row mul row c.args.b.now) in
    open_of c.sum_terms.result c.args.semiring.add.op c.args.row.index c.collect_terms.new.scratch.terms.items (terms_of_row mul (entries_along c.args.row.index c.args.row.cols.now c.args.row.words.now) c.args.b.now)
    c.args.lists.now c.sum_terms.new.lists all c.sum_terms.ensures.row

pub returns-then-done-row-clause-row : goal.returns-then-done-row-clause-row
returns-then-done-row-clause-row c =
    let op = c.args.semiring.add.op in
    let terms = terms_of_row c.args.semiring.multiply (entries_along c.args.row.index c.args.row.cols.now c.args.row.words.now) c.args.b.now in
    subst (λ ts. OnOk c.sum_in_places.result (HasOpenRow op c.args.row.index ts c.args.lists.now c.sum_in_places.new.lists)) (kept_all terms) c.sum_in_places.ensures.row
