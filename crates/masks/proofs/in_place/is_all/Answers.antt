-- Where the fibers of both stand at the same positions, the block has an entry wherever the mask's store has one.
use Rattle.std.proofs.Common.{◌≡◌, arith}
use Rattle.model.specs.Entries.{word_at}
use Rattle.store.specs.Stored.{along, content_of}
use Rattle.masks.proofs.InPlaceLaws.{all_there}
use Rattle.masks.proofs.in_place.is_all.Goals as goal

pub returns-then-not-mask : goal.returns-then-not-mask
returns-then-not-mask c is i j high lets =
    let cols = c.args.block.now.cols in
    let stored = c.fibers_in.result.entries in
    let word = content_of c.args.mask.store.now i j in
    let lent : c.in-Sparse.stored.now ≡ c.args.mask.store.now = rw c.in-Sparse.is at c.form.ensures in
    let at : word_at (along cols stored) i j ≡ word = rw (c.requires.cols, ← lent) (c.fibers_in.ensures.words i j (omega arith) (rw c.past.ensures high)) in
    let there = all_there c.args.mask.test cols stored c.fibers.result.entries i j word c.if-not-mask.true (c.are_alike.ensures.0 is) at lets in
    rw c.fibers.ensures.entries at there
