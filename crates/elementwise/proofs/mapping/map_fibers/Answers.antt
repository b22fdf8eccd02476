-- The entries lie where they lay.
use Rattle.std.proofs.Common.{◌≡◌, ◌∙◌, ap, arith, map, rules, sym}
use Rattle.std.proofs.lemmas.List.{ext_get_or, get_or-map, length-map}
use Rattle.model.specs.declared.entry.Entry.{Entry}
use Rattle.store.specs.Fibers.{entries_from, outers}
use Rattle.elementwise.specs.Mapped.{mapped}
use Rattle.lanes.specs.Functions.{word_made}
use Rattle.elementwise.proofs.MappedLaws.{flat-mapped, placed-mapped}
use Rattle.elementwise.proofs.mapping.map_fibers.Goals as goal
use Rattle.elementwise.proofs.mapping.map_fibers.Goals.{In_ok-words}

words_are : (c : In_ok-words) → c.in_ok-words.words.items ≡ map (word_made c.args.function)
    (map (λ (e : Entry). e.word) c.args.fibers.now.entries)
words_are c =
    let made = c.in_ok-words.ensures in
    let f = word_made c.args.function in
    let old = c.words.result.now in
    ext_get_or 0 c.in_ok-words.words.items (map f old) (made.length ∙ sym (length-map old f))
    (λ k within. made.words k (omega arith) ∙ sym (get_or-map f old k 0 0 (omega arith)))
    ∙ ap (map f) c.words.ensures

pub returns-clause-flat : goal.returns-clause-flat
returns-clause-flat c =
    let f = word_made c.args.function in
    let ends = c.in_ok-ends.ends.items in
    let inner = c.in_ok-ends.inner.items in
    let words = map (λ (e : Entry). e.word) c.args.fibers.now.entries in
    rw (words_are (search rules)) (flat-mapped (λ _ _. f) ends inner words (map f words) c.in_ok-ends.ensures.flat (length-map words f) (placed-mapped f (outers 0 ends) inner words))

pub returns-clause-entries : goal.returns-clause-entries
returns-clause-entries c =
    let f = word_made c.args.function in
    let ends = c.in_ok-ends.ends.items in
    let inner = c.in_ok-ends.inner.items in
    let words = map (λ (e : Entry). e.word) c.args.fibers.now.entries in
    ap (entries_from 0 ends inner) (words_are (search rules)) ∙ placed-mapped f (outers 0 ends) inner words ∙ ap (mapped (λ _ _. f)) c.in_ok-ends.ensures.entries
