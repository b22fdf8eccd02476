use Rattle.std.proofs.Common.{◌∙◌, ◌++◌, ap, append_assoc, sym}
use Rattle.std.proofs.lemmas.List.{append-nil, map-append}
use Rattle.model.specs.declared.entry.Entry.{Entry}
use Rattle.model.specs.Entries.{entries_between, entry_at}
use Rattle.store.specs.Fibers.{entries_along}
use Rattle.store.specs.Stored.{content_of, transposed}
use Rattle.store.proofs.Walks.{rest_shorter}
use Rattle.shapes.proofs.transposing.append_store.Goals as goal

pub loop-row-init : goal.loop-row-init
loop-row-init c =
    let a = c.args.a.now in
    let all = c.rows_in-rest.ensures.entries ∙ ap (λ n. entries_between 0 n a.cols (content_of a)) c.rows.ensures.rows in
    ap (λ es. c.args.entries.now.items ++ transposed es) all

pub loop-row-smaller : goal.loop-row-smaller
loop-row-smaller c =
    let row = c.in-Some.row in
    rest_shorter row.index row.cols.now row.words.now c.loop-row.rest.entries c.in-Some.others.entries c.in-Some.ensures

pub loop-row-preserved : goal.loop-row-preserved
loop-row-preserved c =
    let row = c.in-Some.row in
    let es = entries_along row.index row.cols.now row.words.now in
    let others = c.in-Some.others.entries in
    let split = map-append (λ (e : Entry). entry_at e.col e.row e.word) es others in
    let whole = c.in-Some.ensures.whole in
    rw c.in_ok-append_transposed.ensures (append_assoc c.loop-row.entries.items (transposed es) (transposed others) ∙ ap (λ ts. c.loop-row.entries.items ++ ts) (sym split ∙ ap transposed (sym whole)) ∙ c.loop-row.invariant)

pub returns : goal.returns
returns c = sym (append-nil c.loop-row.entries.items) ∙ ap (λ es. c.loop-row.entries.items ++ transposed es) (sym c.in_default.ensures) ∙ c.loop-row.invariant
