use Rattle.std.proofs.Common.{◌≡◌, eqb}
use Rattle.std.proofs.lemmas.List.Filters.{dedup_is}
use Rattle.shapes.proofs.ListLaws.{once_from}
use Rattle.shapes.proofs.listing.copy_once.Goals as goal

pub returns : goal.returns
returns c first past has part =
    let xs = c.in_ok-list.list.items in
    let same : xs ≡ c.args.sorted.now = c.in_ok-list.ensures.items in
    rw (dedup_is eqb xs c.dedup.new.self.items c.dedup.ensures.filtered) (rw same (once_from first past has c.args.sorted.now c.requires part))
