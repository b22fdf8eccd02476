use Rattle.std.proofs.Common.{◌≡◌}
use Rattle.std.proofs.lemmas.List.Elements.{All-weaker}
use Rattle.store.specs.Blocks.{IsPart, entries_in_parts}
use Rattle.store.proofs.BlockLaws.{entries_stored, parts_each}
use Rattle.store.proofs.parts.Parts.stores.Goals as goal

pub returns-clause-shapes : goal.returns-clause-shapes
returns-clause-shapes c =
    let p = c.self.inside in
    rw (← c.self.view_is)
    (All-weaker (IsPart p.rows p.cols) (λ s. (s.rows ≡ p.rows) × (s.cols ≡ p.cols)) (λ s part. (part.rows_are, part.cols_are)) p.stores.now c.self.invariant.each)

pub returns-clause-entries : goal.returns-clause-entries
returns-clause-entries c =
    let p = c.self.inside in
    rw (← c.self.view_is) (parts_each p.rows p.cols p.stores.now c.self.invariant)

pub returns-clause-order : goal.returns-clause-order
returns-clause-order c =
    let p = c.self.inside in
    rw (← c.self.view_is, entries_stored p.rows p.cols (entries_in_parts p.stores.now) c.self.invariant.stored) c.self.invariant.stored.order

pub returns-clause-fits : goal.returns-clause-fits
returns-clause-fits c =
    let p = c.self.inside in
    rw (← c.self.view_is, entries_stored p.rows p.cols (entries_in_parts p.stores.now) c.self.invariant.stored) c.self.invariant.fits
