-- What a row has at columns that are listed.
use Rattle.std.specs.Prelude.{ℕ, ◌≡◌, ◌<◌, ◌++◌, nat_lt, if◌then◌else◌, List, length, None, slice_get}
use Rattle.std.specs.Option.{option_and_then}
use Rattle.std.specs.List.{All, AllPairs}
use Rattle.model.specs.Entries.{word_at}
use Rattle.store.specs.declared.lists.FiberLists.{FiberLists}
use Rattle.store.specs.Fibers.{entries_along}

-- places of the first so many listed columns, and words: those that a row has
pub record ArePicks (cs ws listed : List ℕ) (count : ℕ) (places words : List ℕ) : Type 0 where
  pub lengths : length words ≡ length places
  pub rising : AllPairs (λ a b. a < b) places
  pub inside : All (λ place. place < count) places
  pub words_are : (i j : ℕ) → word_at (entries_along i places words) i j
      ≡ (if nat_lt j count then option_and_then (word_at (entries_along i cs ws) i) (slice_get listed j) else None)

-- behind what the old lists have stand such places and words, in no fiber as yet
pub record HasPicks (cs ws listed : List ℕ) (count : ℕ) (old new : FiberLists) : Type 0 where
  pub places : List ℕ
  pub words : List ℕ
  pub picks : ArePicks cs ws listed count places words
  pub ends : new.ends.items ≡ old.ends.items
  pub inner : new.inner.items ≡ old.inner.items ++ places
  pub added : new.words.items ≡ old.words.items ++ words
