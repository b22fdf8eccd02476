use Rattle.store.specs.Blocks.{entries_in_parts}
use Rattle.store.proofs.Content.{nothing_outside}
use Rattle.store.proofs.parts.Parts.rows.Goals as goal

pub returns-clause-within : goal.returns-clause-within
returns-clause-within c =
    let p = c.self.inside in
    rw (← c.self.view_is) (λ i j outside. nothing_outside p.rows p.cols (entries_in_parts p.stores.now) i j c.self.invariant.stored.inside outside)
