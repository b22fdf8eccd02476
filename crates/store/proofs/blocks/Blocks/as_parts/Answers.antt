use Rattle.store.proofs.BlockLaws.{parts_stored}
use Rattle.store.proofs.blocks.Blocks.as_parts.Goals as goal

pub invariant_of-result : goal.invariant_of-result
invariant_of-result c =
    let b = c.self.inside in
    let are = c.self.invariant.are in
    rw c.deref.ensures.value (record {
      each = are.each;
      stored = parts_stored b.rows b.cols b.parts.items are.each are.apart;
      fits = are.fits;
    })
