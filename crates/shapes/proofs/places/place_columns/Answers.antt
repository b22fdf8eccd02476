use Rattle.std.proofs.Common.{◌∙◌, arith, ltb}
use Rattle.std.proofs.lemmas.Bool.Decides.{nat_tests}
use Rattle.std.proofs.lemmas.List.Sums.{AllPass-from_list_all}
use Rattle.shapes.specs.Collects.{index_content}
use Rattle.shapes.proofs.ColumnPlaces.{places_more, places_none, places_whole}
use Rattle.shapes.proofs.Gathering.{gathered_is}
use Rattle.shapes.proofs.places.place_columns.Goals as goal

pub loop-k-init : goal.loop-k-init
loop-k-init c = places_none c.args.size c.args.cols.now c.in_ok-entries.entries.items c.in_ok-entries.ensures.items

pub loop-k-preserved : goal.loop-k-preserved
loop-k-preserved c =
    let cols = c.args.cols.now in
    let k = c.loop-k.k in
    let below = AllPass-from_list_all (λ i. ltb i c.args.size) cols c.requires k 0 c.loop-k-test.true in
    rw c.in_ok-push.ensures.items (places_more c.args.size cols k c.loop-k.entries.items c.loop-k-test.true (grind (arith, nat_tests)) c.loop-k.invariant)

pub gather-requires : goal.gather-requires
gather-requires c = c.loop-k.invariant.inside

pub returns-clause-content : goal.returns-clause-content
returns-clause-content c i j =
    let cols = c.args.cols.now in
    let es = c.loop-k.entries.items in
    c.from_block.ensures.content i j ∙ c.in_ok-block.ensures.words i j
    ∙ gathered_is (index_content cols) i j es c.loop-k.invariant.are (places_whole c.args.size cols c.loop-k.k i j es (omega (arith, c.loop-k-test.false)) c.loop-k.invariant)
