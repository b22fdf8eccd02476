-- All rows of the store are listed.
use Rattle.std.proofs.Common.{◌≡◌, ◌∙◌, ◌++◌, [], ap, append_assoc, refl, sym}
use Rattle.std.proofs.lemmas.List.{map-append}
use Rattle.model.specs.Entries.{entries_between, entries_of}
use Rattle.session.specs.Listed.{tuple_of}
use Rattle.store.specs.Fibers.{entries_along}
use Rattle.store.specs.Stored.{content_of}
use Rattle.store.proofs.RowEntries.{entries_between-all}
use Rattle.store.proofs.Walks.{rest_shorter}
use Rattle.session.proofs.listing.listed.Goals as goal

pub loop-row-init : goal.loop-row-init
loop-row-init c =
    let store = c.args.store.now in
    let content = content_of store in
    let all : c.rows_in-rest.result.entries ≡ entries_of store.rows store.cols content =
    c.rows_in-rest.ensures.entries ∙ ap (λ n. entries_between 0 n store.cols content) c.rows.ensures.rows
    ∙ entries_between-all store.rows store.cols content in
    record { done = []; split = sym all; listed = c.in_ok-tuples.ensures.items }

pub loop-row-smaller : goal.loop-row-smaller
loop-row-smaller c =
    let row = c.in-Some.row in
    rest_shorter row.index row.cols.now row.words.now c.loop-row.rest.entries c.in-Some.others.entries c.in-Some.ensures

pub loop-row-preserved : goal.loop-row-preserved
loop-row-preserved c =
    let row = c.in-Some.row in
    let starts = c.in-Some.ensures in
    let here = c.loop-row.invariant in
    let new = entries_along row.index row.cols.now row.words.now in
    record {
      done = here.done ++ new;
      split = here.split ∙ rw starts.whole (sym (append_assoc here.done new c.in-Some.others.entries));
      listed = c.in_ok-append_row.ensures ∙ rw (here.listed, map-append (tuple_of c.args.domain) here.done new) refl;
    }
