-- What rows have at listed columns, collected by the places of the columns.
use Rattle.std.specs.Prelude.{ℕ, ◌≡◌, ◌<◌, ◌≤◌, ◌==◌, if◌then◌else◌, List, map, Some, None, slice_get}
use Rattle.std.specs.Option.{option_and_then}
use Rattle.std.specs.List.{All, flat_map}
use Rattle.model.specs.declared.entry.Entry.{Entry}
use Rattle.model.specs.Entries.{entry_at, row_entries, word_at}
use Rattle.model.specs.Object.{Content}
use Rattle.store.specs.Stored.{AreIn}

-- a 0 at the row and the column of each index and its place
abbrev pub index_content : List ℕ → Content
index_content cols = λ i j. option_and_then (λ col. if col == i then Some 0 else None) (slice_get cols j)

-- the word of each entry at each place of its column, in another row
abbrev pub collected : ℕ → ℕ → Content → List Entry → List Entry
collected index n places es = flat_map (λ e. map (λ s. entry_at index s.col e.word) (row_entries n places e.col)) es

-- entries of a map, of which in the rows from first up to before next none is missing
pub record IsCollected (made : Content) (first next past cols : ℕ) (es : List Entry) : Type 0 where
  pub low : first ≤ next
  pub are : All (λ e. made e.row e.col ≡ Some e.word) es
  pub inside : AreIn first past cols es
  pub whole : (i j : ℕ) → first ≤ i → i < next → word_at es i j ≡ None → made i j ≡ None
