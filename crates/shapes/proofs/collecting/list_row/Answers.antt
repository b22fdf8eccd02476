use Rattle.std.proofs.Common.{◌≡◌, ◌∙◌, ◌++◌, [], ap, arith, get_or, map, refl, sym}
use Rattle.std.proofs.lemmas.List.{append-nil, take_all}
use Rattle.model.specs.declared.entry.Entry.{Entry}
use Rattle.model.specs.Entries.{entry_at, row_entries}
use Rattle.store.specs.Fibers.{entries_along}
use Rattle.store.specs.Stored.{content_of}
use Rattle.store.proofs.Places.{length_row, row_at}
use Rattle.shapes.specs.Collects.{collected}
use Rattle.shapes.proofs.ColumnPlaces.{collected_step}
use Rattle.shapes.proofs.collecting.list_row.Goals as goal
use Rattle.shapes.proofs.collecting.list_row.Goals.{then-may_have+in_ok-put_at_places, else-may_have}

pub loop-k-preserved : goal.loop-k-preserved
loop-k-preserved c =
    let cs = c.args.cols.now in
    let ws = c.args.words.now in
    let es = entries_along 0 cs ws in
    let k = c.loop-k.k in
    let d = entry_at 0 0 0 in
    let n = c.args.places.now.store.cols in
    let places = content_of c.args.places.now.store in
    let long = length_row 0 cs ws c.requires in
    let at = row_at 0 cs ws k d c.requires c.loop-k-test.true in
    let rows = row_entries n places (get_or cs k 0) in
    let found = map (λ (s : Entry). entry_at c.args.index s.col (get_or ws k 0)) rows in
    let is : found ≡ map (λ (s : Entry). entry_at c.args.index s.col (get_or es k d).word) (row_entries n places (get_or es k d).col) = rw at refl in
    let more = collected_step c.args.index n k places es c.args.entries.now.items c.loop-k.entries.items found d (omega (arith, long, c.loop-k-test.true)) c.loop-k.invariant is in
    elim c.if-may_have.branch [
      | then-may_have+in_ok-put_at_places w ↦ rw w.entries-is (w.in_ok-put_at_places.ensures ∙ more)
      | else-may_have w ↦
          let none : found ≡ [] = ap (map (λ (s : Entry). entry_at c.args.index s.col (get_or ws k 0))) (c.may_have.ensures w.if-may_have.false) in
          rw w.entries-is (sym (append-nil c.loop-k.entries.items) ∙ (rw none at more))
    ]

pub returns : goal.returns
returns c =
    let es = entries_along 0 c.args.cols.now c.args.words.now in
    let long = length_row 0 c.args.cols.now c.args.words.now c.requires in
    c.loop-k.invariant ∙ ap (λ es. c.args.entries.now.items ++ collected c.args.index c.args.places.now.store.cols (content_of c.args.places.now.store) es) (take_all c.loop-k.k es (omega (arith, long, c.loop-k-test.false)))
