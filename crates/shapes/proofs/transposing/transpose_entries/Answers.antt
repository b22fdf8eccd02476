use Rattle.std.proofs.Common.{◌∙◌, ◌++◌, ◌+◌, ap, append_assoc, arith, drop, sym}
use Rattle.std.proofs.lemmas.List.{append-nil, map-append}
use Rattle.model.specs.declared.entry.Entry.{Entry}
use Rattle.model.specs.Entries.{entry_at}
use Rattle.store.specs.Stored.{transposed}
use Rattle.shapes.specs.Columns.{entries_of_stores}
use Rattle.shapes.proofs.StoreLaws.{all_of, first_store, no_store}
use Rattle.shapes.proofs.transposing.transpose_entries.Goals as goal

pub loop-k-init : goal.loop-k-init
loop-k-init c =
    ap (λ v. v ++ transposed (entries_of_stores c.stores-stores.result.now)) c.new-entries.ensures.items ∙ ap transposed c.stores-stores.ensures.entries

pub loop-k-preserved : goal.loop-k-preserved
loop-k-preserved c =
    let stores = c.stores-stores.result.now in
    let k = c.loop-k.k in
    let s = c.index-stores-k.result in
    let others = entries_of_stores (drop (k + 1) stores) in
    let old = c.loop-k.entries.items in
    let split = map-append (λ (e : Entry). entry_at e.col e.row e.word) (all_of s) others in
    let whole = first_store stores k s c.loop-k-test.true c.index-stores-k.is in
    rw c.in_ok-append_store.ensures (append_assoc old (transposed (all_of s)) (transposed others) ∙ ap (λ ts. old ++ ts) (sym split ∙ ap transposed (sym whole)) ∙ c.loop-k.invariant)

pub returns-clause-entries : goal.returns-clause-entries
returns-clause-entries c =
    let none = no_store c.stores-stores.result.now c.loop-k.k (omega (arith, c.loop-k-test.false)) in
    sym (append-nil c.loop-k.entries.items) ∙ ap (λ es. c.loop-k.entries.items ++ transposed es) (sym none) ∙ c.loop-k.invariant
