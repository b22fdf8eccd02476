use Rattle.std.proofs.Common.{◌∙◌, sym}
use Rattle.std.proofs.lemmas.Bool.{true≢false}
use Rattle.store.specs.Stored.{content_of}
use Rattle.shapes.proofs.ColumnPlaces.{no_places}
use Rattle.shapes.proofs.places.Places.new.Goals as goal

pub invariant_of-result : goal.invariant_of-result
invariant_of-result c = record {
  exact = λ col unmarked.
      no_places c.args.cols.now c.in_ok-store.store.cols (content_of c.in_ok-store.store) col c.in_ok-store.ensures.content
      (λ k within is. let marked = c.in_ok-marks.ensures.marked k within in true≢false (sym (rw is at marked) ∙ unmarked));
}
