-- The words lie in row-major order in either form.
use Rattle.std.proofs.Common.{◌∙◌, ap, map, sym}
use Rattle.model.specs.declared.entry.Entry.{Entry}
use Rattle.model.specs.Entries.{word_at}
use Rattle.store.specs.Fibers.{entries_from, outers}
use Rattle.store.specs.Stored.{along}
use Rattle.store.proofs.Content.{entries_of-words}
use Rattle.store.proofs.Contents.{held_stored, words_along, words_placed}
use Rattle.store.proofs.Places.{long_outers}
use Rattle.model.proofs.EntryLaws.{all_words-entries}
use Rattle.store.proofs.sparse.Sparse.words.Goals as goal

pub returns : goal.returns
returns c =
    let s = c.self.inside in
    let ends = s.lists.ends.items in
    let inner = s.lists.inner.items in
    let words = s.lists.words.items in
    let held = held_stored s.rows s.cols ends inner words c.self.invariant in
    let long = long_outers ends inner words c.self.invariant.flat in
    let es = entries_from 0 ends inner words in
    let all = along s.cols es in
    rw (← c.self.view_is, c.deref.ensures.value) (sym (all_words-entries s.rows s.cols (word_at all) ∙ ap (map (λ (e : Entry). e.word)) (entries_of-words s.rows s.cols all held.order held.inside)
    ∙ words_along s.cols es ∙ words_placed (outers 0 ends) inner words long.0 long.1))
