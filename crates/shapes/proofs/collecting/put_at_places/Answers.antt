-- What is put at each place is what its entry says.
use Rattle.std.proofs.Common.{◌≡◌, ◌∙◌, ℕ, ap, map}
use Rattle.std.proofs.lemmas.Simd.{map-map}
use Rattle.model.specs.declared.entry.Entry.{Entry}
use Rattle.model.specs.Entries.{entry_at, row_entries}
use Rattle.store.specs.Stored.{content_of}
use Rattle.shapes.proofs.collecting.put_at_places.Goals as goal

pub returns : goal.returns
returns c =
    let put = λ (col : ℕ). entry_at c.args.index col c.args.word in
    let places = c.args.places.now.store in
    let is : map put c.of.result.now ≡ map (λ (s : Entry). entry_at c.args.index s.col c.args.word) (row_entries places.cols (content_of places) c.args.col) =
    ap (map put) c.of.ensures ∙ map-map put (λ (s : Entry). s.col) (row_entries places.cols (content_of places) c.args.col) in
    rw is at c.put_word.ensures
