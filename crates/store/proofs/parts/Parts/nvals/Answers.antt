use Rattle.std.proofs.Common.{◌≡◌, ◌∙◌, List, ap, arith, get_or, length, length-append, refl, rules, sym, take}
use Rattle.std.proofs.lemmas.List.{take_all}
use Rattle.std.proofs.lemmas.List.Folds.{length-flat_map-take}
use Rattle.model.specs.declared.entry.Entry.{Entry}
use Rattle.store.specs.Blocks.{entries_in_parts}
use Rattle.store.specs.Stored.{Stored}
use Rattle.store.proofs.BlockLaws.{count_part, count_stored, parts_more}
use Rattle.store.proofs.parts.Parts.nvals.Goals as goal
use Rattle.store.proofs.parts.Parts.nvals.Goals.{After-nvals-count}

pub loop-k-init : goal.loop-k-init
loop-k-init c = refl

-- the part at hand is that many entries
part_is : (c : After-nvals-count)
    → c.nvals-count.result ≡ length (get_or c.self.inside.stores.now c.loop-k.k c.index-self-k.result).entries
part_is c =
    let p = c.self.inside in
    let part = c.self.invariant.each c.loop-k.k c.index-self-k.result c.loop-k-test.true in
    c.nvals-count.ensures ∙ count_part p.rows p.cols (get_or p.stores.now c.loop-k.k c.index-self-k.result) part

pub overflow_add-count : goal.overflow_add-count
overflow_add-count c =
    let f : Stored → List Entry = λ s. s.entries in
    let part = part_is (search rules) in
    let before = c.loop-k.invariant in
    let fits = c.self.invariant.fits in
    let most = length-flat_map-take f c.self.inside.stores.now c.loop-k.k c.index-self-k.result c.loop-k-test.true in
    omega arith

pub loop-k-preserved : goal.loop-k-preserved
loop-k-preserved c =
    let parts = c.self.inside.stores.now in
    let k = c.loop-k.k in
    let d = c.index-self-k.result in
    let part = part_is (search rules) in
    let before = c.loop-k.invariant in
    let more = ap length (parts_more parts k d c.loop-k-test.true) in
    omega (arith, length-append (entries_in_parts (take k parts)) (get_or parts k d).entries)

pub returns : goal.returns
returns c =
    let p = c.self.inside in
    let parts = p.stores.now in
    let end = c.loop-k-test.false in
    let all : take c.loop-k.k parts ≡ parts = take_all c.loop-k.k parts (omega arith) in
    rw (← c.self.view_is) (c.loop-k.invariant ∙ ap (λ ps. length (entries_in_parts ps)) all ∙ sym (count_stored p.rows p.cols (entries_in_parts parts) c.self.invariant.stored))
