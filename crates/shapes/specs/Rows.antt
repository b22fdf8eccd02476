-- Rows of maps: those that are left of a walk, and those that are put behind others into lists.
use Rattle.std.specs.Prelude.{ℕ, ◌≡◌, ◌<◌, ◌≤◌, ◌++◌, ◌∷◌, [], ◌==◌, if◌then◌else◌, List, length}
use Rattle.std.specs.List.{All, AllPairs}
use Rattle.model.specs.declared.entry.Entry.{Entry}
use Rattle.model.specs.Entries.{word_at}
use Rattle.model.specs.Object.{Content}
use Rattle.store.specs.declared.lists.FiberLists.{FiberLists}
use Rattle.store.specs.Fibers.{AreFlat, end_at, entries_along, entries_in, last_end}
use Rattle.store.specs.Stored.{AreIn}

-- the lists have the rows of a map from first up to before next, of so many columns, each as a fiber
pub record IsMade (c : Content) (first next cols : ℕ) (lists : FiberLists) : Type 0 where
  pub low : first ≤ next
  pub flat : AreFlat lists.ends.items lists.inner.items lists.words.items
  pub outers : All (λ r. r.outer < next) lists.ends.items
  pub inside : AreIn first next cols (entries_in lists)
  pub words : (i j : ℕ) → first ≤ i → i < next → word_at (entries_in lists) i j ≡ c i j

-- entries that are left of a walk have the words of a map in the rows from next up to before past, in so many columns
pub record IsWalk (c : Content) (next past cols : ℕ) (rest : List Entry) : Type 0 where
  pub inside : AreIn next past cols rest
  pub words : (i j : ℕ) → next ≤ i → i < past → word_at rest i j ≡ c i j

-- columns and words are a row of a map with so many columns
pub record IsRowOf (c : Content) (index cols : ℕ) (cs ws : List ℕ) : Type 0 where
  pub lengths : length ws ≡ length cs
  pub rising : AllPairs (λ a b. a < b) cs
  pub inside : All (λ col. col < cols) cs
  pub words : (j : ℕ) → word_at (entries_along index cs ws) index j ≡ c index j

-- behind the rows in the lists stands a row of these columns and words, where there are some
pub record HasRow (index : ℕ) (cs ws : List ℕ) (old new : FiberLists) : Type 0 where
  pub inner : new.inner.items ≡ old.inner.items ++ cs
  pub words : new.words.items ≡ old.words.items ++ ws
  pub ends : new.ends.items ≡ (if last_end 0 old.ends.items == length new.inner.items
      then old.ends.items
      else old.ends.items ++ end_at index (length new.inner.items) ∷ [])

-- behind the rows in the lists stands a row of a map
pub record HasRowOf (c : Content) (index cols : ℕ) (old new : FiberLists) : Type 0 where
  pub cs : List ℕ
  pub ws : List ℕ
  pub row : IsRowOf c index cols cs ws
  pub put : HasRow index cs ws old new
