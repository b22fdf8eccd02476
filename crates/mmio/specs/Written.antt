-- What is appended to a text.
use Rattle.std.specs.Prelude.{ℕ, ◌≡◌, ◌<◌, ◌^◌, ◌++◌, List, map}
use Rattle.std.specs.List.{flat_map}
use Rattle.algebra.specs.declared.domain.Domain.{Domain}
use Rattle.model.specs.Entries.{entries_between}
use Rattle.model.specs.Text.{ended, entry_line}
use Rattle.store.specs.Stored.{Stored, content_of}

-- the old bytes stay at the front
abbrev pub Grows : List ℕ → List ℕ → Type 0
Grows old new = (more : List ℕ) × (new ≡ old ++ more)

-- rows and columns, counted from 1, are numbers of 64 bits
abbrev pub IsCountable : Stored → Type 0
IsCountable store = (store.rows < 2 ^ 64) × (store.cols < 2 ^ 64)

-- the lines of the entries of the rows from first up to before past
abbrev pub lines_between : Domain → Stored → ℕ → ℕ → List ℕ
lines_between domain store first past =
    flat_map ended (map (entry_line domain) (entries_between first past store.cols (content_of store)))
