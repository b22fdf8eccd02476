use Rattle.std.proofs.Common.{◌∙◌}
use Rattle.std.proofs.lemmas.List.Sorted.{searched}
use Rattle.shapes.proofs.SideLaws.{found_index}
use Rattle.shapes.proofs.members.has.Goals as goal

pub returns : goal.returns
returns c =
    let xs = c.args.sorted.now in
    c.is_ok.ensures.value ∙ found_index xs c.args.index c.binary_search.result (searched xs c.args.index c.binary_search.result c.binary_search.ensures.position (λ i j low within. c.requires i j 0 low within))
