-- The column has an entry in each row, and so a word for each place.
use Rattle.std.proofs.Common.{◌≡◌, length}
use Rattle.model.specs.Entries.{IsInside}
use Rattle.store.specs.Fibers.{entries_in}
use Rattle.store.specs.Stored.{along}
use Rattle.store.proofs.FullLaws.{full_entries, full_words}
use Rattle.store.proofs.forms.full_column.Goals as goal

pub full-requires-clause-words : goal.full-requires-clause-words
full-requires-clause-words c =
    let s = c.column.inside in
    let one : s.cols ≡ 1 = rw (← c.column.view_is) at c.requires.column in
    let full : length (along s.cols (entries_in s.lists)) ≡ s.rows = rw (← c.column.view_is) at c.requires.full in
    full_words s.rows s.cols s.lists.ends.items s.lists.inner.items s.lists.words.items one c.column.invariant full

pub returns-in-Ok-clause-entries : goal.returns-in-Ok-clause-entries
returns-in-Ok-clause-entries c =
    let s = c.column.inside in
    let b = c.in-Ok.bitmap in
    let one : s.cols ≡ 1 = rw (← c.column.view_is) at c.requires.column in
    let full : length (along s.cols (entries_in s.lists)) ≡ s.rows = rw (← c.column.view_is) at c.requires.full in
    let rows : b.rows ≡ s.rows = c.in-Ok.ensures.rows in
    let cols : b.cols ≡ s.cols = c.in-Ok.ensures.cols in
    let inside : IsInside s.rows s.cols b.entries = rw (rows, cols) at c.rows.ensures.inside in
    let entries = full_entries s.rows s.cols s.lists.ends.items s.lists.inner.items s.lists.words.items b.entries one c.column.invariant full c.rows.ensures.order inside c.in-Ok.ensures.content in
    rw (← c.column.view_is) (λ k. record { rows = rows k; cols = cols k; entries = entries k })
