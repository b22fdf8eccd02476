use Rattle.std.proofs.Common.{◌∙◌, ap, map, sym}
use Rattle.model.specs.declared.entry.Entry.{Entry}
use Rattle.shapes.proofs.ColumnPlaces.{cols_along}
use Rattle.shapes.proofs.places.Places.of.Goals as goal

pub returns : goal.returns
returns c = sym (cols_along c.args.col c.row_near.result.0.now c.row_near.result.1.now c.row_near.ensures.lengths) ∙ ap (map (λ (s : Entry). s.col)) c.row_near.ensures.entries
