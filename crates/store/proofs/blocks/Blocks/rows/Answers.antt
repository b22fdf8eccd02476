use Rattle.store.specs.Blocks.{entries_in_parts}
use Rattle.store.proofs.BlockLaws.{parts_stored}
use Rattle.store.proofs.Content.{nothing_outside}
use Rattle.store.proofs.blocks.Blocks.rows.Goals as goal

pub returns-clause-within : goal.returns-clause-within
returns-clause-within c =
    let b = c.self.inside in
    let parts = b.parts.items in
    let stored = parts_stored b.rows b.cols parts c.self.invariant.are.each c.self.invariant.are.apart in
    rw (← c.self.view_is) (λ i j outside. nothing_outside b.rows b.cols (entries_in_parts parts) i j stored.inside outside)
