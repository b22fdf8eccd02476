-- The edits that are left are some of those that waited, and the store is one of the object.
use Rattle.std.proofs.Common.{◌<◌, ◌∙◌}
use Rattle.std.specs.Arc.{arc_value}
use Rattle.algebra.specs.Value.{IsWordOf}
use Rattle.calls.specs.Stores.{IsStoreOf}
use Rattle.model.specs.Object.{cols_of, rows_of}
use Rattle.objects.proofs.EditingLaws.{left-all, left-is_object}
use Rattle.patch.specs.Edits.{place_of, set_entry}
use Rattle.store.specs.Stored.{content_of}
use Rattle.objects.proofs.object.edit_in_place.Goals as goal

pub invariant_of-object-2 : goal.invariant_of-object-2
invariant_of-object-2 g c =
    let kept = c.args.object.now in
    let done = c.apply_edits.ensures in
    let sound : IsStoreOf kept.of (arc_value c.in-Here.shared) = (rw c.in-Here.is at c.take_ticket.ensures.sound).0 in
    let old : IsStoreOf kept.of c.in-Some.store.now = rw c.in-Some.ensures.value sound in
    let left : IsStoreOf kept.of c.apply_edits.new.store = record {
      rows = done.rows ∙ old.rows;
      cols = done.cols ∙ old.cols;
      is_object = left-is_object c.apply_edits.result kept.of kept.edits.items c.apply_edits.new.edits.items (content_of c.in-Some.store.now) (content_of c.apply_edits.new.store) done.done done.partly done.meaning kept.inside kept.words old.is_object;
    } in
    record {
      sound = (left, tt);
      inside = left-all c.apply_edits.result (λ e. ((place_of e).0 < rows_of kept.of.shape) × ((place_of e).1 < cols_of kept.of.shape)) kept.edits.items c.apply_edits.new.edits.items done.done done.left kept.inside;
      words = left-all c.apply_edits.result (λ e. IsWordOf kept.of.domain (set_entry e).word) kept.edits.items c.apply_edits.new.edits.items done.done done.left kept.words;
    }
