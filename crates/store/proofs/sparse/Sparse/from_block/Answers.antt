use Rattle.std.proofs.Common.{◌<◌, ◌≤◌, ap, arith}
use Rattle.std.proofs.lemmas.List.Elements.{All-weaker}
use Rattle.store.specs.Fibers.{entries_in}
use Rattle.store.specs.Stored.{along}
use Rattle.store.proofs.Content.{nothing_outside}
use Rattle.store.proofs.Contents.{held_order}
use Rattle.store.proofs.sparse.Sparse.from_block.Goals as goal

pub returns-clause-within : goal.returns-clause-within
returns-clause-within c i j outside =
    let b = c.block.inside in
    let entries = along b.cols (entries_in b.lists) in
    let past = ap (λ b. b.past) c.block.view_is in
    nothing_outside c.args.rows b.cols entries i j
    (All-weaker (λ e. ((b.first ≤ e.row) × (e.row < b.past)) × (e.col < b.cols)) (λ e. (e.row < c.args.rows) × (e.col < b.cols))
    (λ e p. let low = p.0.1 in let room = c.requires in (omega arith, p.1)) entries c.block.invariant.inside) outside

pub returns-clause-block : goal.returns-clause-block
returns-clause-block c =
    let b = c.block.inside in
    rw (← c.block.view_is) (record {
      order = held_order b.first b.past b.cols b.lists.ends.items b.lists.inner.items b.lists.words.items c.block.invariant;
      inside = c.block.invariant.inside;
    })
