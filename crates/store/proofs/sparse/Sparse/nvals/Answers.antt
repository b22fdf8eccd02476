use Rattle.std.proofs.Common.{◌≡◌, ◌∙◌, ap, sym, length, arith}
use Rattle.store.specs.Fibers.{entries_from, outers}
use Rattle.store.specs.Stored.{along}
use Rattle.store.proofs.Content.{entries_of-words}
use Rattle.store.proofs.Contents.{held_stored, length_along}
use Rattle.store.proofs.Places.{length_placed, long_outers}
use Rattle.store.proofs.sparse.Sparse.nvals.Goals as goal

pub returns : goal.returns
returns c =
    let s = c.self.inside in
    let ends = s.lists.ends.items in
    let inner = s.lists.inner.items in
    let words = s.lists.words.items in
    let held = held_stored s.rows s.cols ends inner words c.self.invariant in
    let long = long_outers ends inner words c.self.invariant.flat in
    let one = long.0 in
    let all = length_placed (outers 0 ends) inner words one long.1 in
    let count = length_along s.cols (entries_from 0 ends inner words) in
    let same : c.len.result ≡ length (along s.cols (entries_from 0 ends inner words)) = omega arith in
    rw (← c.self.view_is) (same ∙ sym (ap length (entries_of-words s.rows s.cols (along s.cols (entries_from 0 ends inner words)) held.order held.inside)))
