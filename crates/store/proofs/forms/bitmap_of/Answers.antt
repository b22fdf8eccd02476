-- The entries are those of the lists, row by row.
use Rattle.std.proofs.Common.{◌≡◌, ◌∙◌, ap, rules}
use Rattle.std.specs.Option.{option_or}
use Rattle.model.specs.Entries.{IsInside, word_at}
use Rattle.store.specs.Fibers.{entries_in}
use Rattle.store.specs.Stored.{along}
use Rattle.store.proofs.Content.{entries_of-words}
use Rattle.store.proofs.Contents.{held_stored}
use Rattle.store.proofs.FormLaws.{or_none, same_entries}
use Rattle.store.proofs.RowEntries.{entries_between-all}
use Rattle.store.proofs.forms.bitmap_of.Goals as goal
use Rattle.store.proofs.forms.bitmap_of.Goals.{After-rows_in}

-- all rows of the lists are all their entries
all_rows : (c : After-rows_in) → let s = c.sparse.inside in c.rows_in.result.entries ≡ along s.cols (entries_in s.lists)
all_rows c =
    let s = c.sparse.inside in
    let stored = held_stored s.rows s.cols s.lists.ends.items s.lists.inner.items s.lists.words.items c.sparse.invariant in
    let es = along s.cols (entries_in s.lists) in
    rw (← c.sparse.view_is) at c.rows_in.ensures.entries ∙ entries_between-all s.rows s.cols (word_at es) ∙ entries_of-words s.rows s.cols es stored.order stored.inside

pub put_rows-requires : goal.put_rows-requires
put_rows-requires c =
    let s = c.sparse.inside in
    let stored = held_stored s.rows s.cols s.lists.ends.items s.lists.inner.items s.lists.words.items c.sparse.invariant in
    rw (c.in_ok-bitmap.ensures.rows, c.in_ok-bitmap.ensures.cols, all_rows (search rules)) stored.inside

pub returns-clause-entries : goal.returns-clause-entries
returns-clause-entries c =
    let s = c.sparse.inside in
    let new = c.put_rows.new.bitmap in
    let stored = held_stored s.rows s.cols s.lists.ends.items s.lists.inner.items s.lists.words.items c.sparse.invariant in
    let high : new.rows ≡ s.rows = c.put_rows.ensures.rows ∙ c.in_ok-bitmap.ensures.rows in
    let wide : new.cols ≡ s.cols = c.put_rows.ensures.cols ∙ c.in_ok-bitmap.ensures.cols in
    let inside : IsInside s.rows s.cols new.entries = rw (high, wide) at c.rows.ensures.inside in
    rw (← c.sparse.view_is) (same_entries s.rows s.cols new.entries (along s.cols (entries_in s.lists)) c.rows.ensures.order inside stored.order stored.inside
    (λ i j. c.put_rows.ensures.content i j
    ∙ ap (option_or (word_at c.rows_in.result.entries i j)) (c.in_ok-bitmap.ensures.content i j)
    ∙ or_none (word_at c.rows_in.result.entries i j)
    ∙ ap (λ es. word_at es i j) (all_rows (search rules))))
