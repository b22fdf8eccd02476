-- One tuple more for one entry more.
use Rattle.std.proofs.Common.{◌∙◌, ◌++◌, ◌<◌, FitsSigned, arith, ap, get_or, length, map, rules}
use Rattle.std.specs.Int.{w128}
use Rattle.std.proofs.lemmas.Int.{to_z-of_z}
use Rattle.std.proofs.lemmas.List.{take_all}
use Rattle.model.specs.Entries.{entry_at}
use Rattle.session.specs.Listed.{tuple_of}
use Rattle.store.specs.Fibers.{entries_along}
use Rattle.store.proofs.Places.{length_row, row_at}
use Rattle.session.proofs.ListingLaws.{tuples_more}
use Rattle.session.proofs.listing.append_row.Goals as goal

pub loop-k-preserved : goal.loop-k-preserved
loop-k-preserved c =
    let row = c.args.row in
    let entries = entries_along row.index row.cols.now row.words.now in
    let long = length_row row.index row.cols.now row.words.now c.requires in
    let within : c.loop-k.k < length entries = omega (arith, c.loop-k-test.true) in
    let fits : FitsSigned w128 c.value_of.result = search rules in
    let value = to_z-of_z w128 c.value_of.result fits ∙ c.value_of.ensures in
    let at = row_at row.index row.cols.now row.words.now c.loop-k.k (entry_at 0 0 0) c.requires c.loop-k-test.true in
    tuples_more c.args.domain entries c.loop-k.k (entry_at 0 0 0) _ c.args.tuples.now.items _ _ _ within at c.loop-k.invariant c.in_ok-push.ensures.items
    (λ t. (row.index, get_or row.cols.now c.loop-k.k 0, value t))

pub returns : goal.returns
returns c =
    let row = c.args.row in
    let entries = entries_along row.index row.cols.now row.words.now in
    let long = length_row row.index row.cols.now row.words.now c.requires in
    c.loop-k.invariant ∙ ap (λ es. c.args.tuples.now.items ++ map (tuple_of c.args.domain) es) (take_all c.loop-k.k entries (omega (arith, c.loop-k-test.false)))
