use Rattle.std.proofs.Common.{◌∙◌, List, ap}
use Rattle.std.specs.Option.{option_map}
use Rattle.algebra.specs.OperatorNames.{op_named}
use Rattle.model.specs.Builds.{gathered}
use Rattle.model.specs.declared.entry.Entry.{Entry}
use Rattle.patch.proofs.BuildLaws.{sorted_built, sorted_inside}
use Rattle.patch.proofs.building.build.Goals as goal

pub block_of_sorted-requires-clause-order : goal.block_of_sorted-requires-clause-order
block_of_sorted-requires-clause-order c = rw c.in_ok-entries.ensures.items c.sorted.ensures.order

pub block_of_sorted-requires-clause-inside : goal.block_of_sorted-requires-clause-inside
block_of_sorted-requires-clause-inside c =
    let inside = sorted_inside c.args.shape c.args.tuples.now c.sorted.result.now c.sorted.ensures c.requires.inside in
    rw (c.in_ok-entries.ensures.items, c.cols-cols.ensures, c.rows-rows.ensures) inside

pub returns-clause-content : goal.returns-clause-content
returns-clause-content c i j =
    let joins = option_map op_named c.args.dup in
    c.from_block.ensures.content i j
    ∙ c.in_ok-block.ensures.words i j
    ∙ ap (λ (es : List Entry). gathered joins es i j) c.in_ok-entries.ensures.items
    ∙ sorted_built joins c.args.domain c.args.tuples.now c.sorted.result.now c.sorted.ensures c.requires.values i j
