-- Parts of lists of indices, in rising order.
use Rattle.std.specs.Prelude.{ℕ, ◌≡◌, ◌<◌, ◌≤◌, ◌==◌, ◌&&◌, Bool, if◌then◌else◌, List, Some, None, length, replicate}
use Rattle.std.specs.List.{All, AllPairs, list_any}
use Rattle.model.specs.Object.{Content}
use Rattle.store.specs.declared.lists.FiberLists.{FiberLists}
use Rattle.store.specs.Fibers.{AreFlat, entries_along, entries_in}

-- whether a number is in a list
abbrev pub has_index : List ℕ → ℕ → Bool
has_index list i = list_any (λ x. x == i) list

-- the numbers of a list lie in a range, and of those in it the list has such as pass a test
pub record IsPartIn (first past : ℕ) (has : ℕ → Bool) (list : List ℕ) : Type 0 where
  pub inside : All (λ x. (first ≤ x) × (x < past)) list
  pub members : (i : ℕ) → first ≤ i → i < past → has_index list i ≡ has i

-- the same, each number once, in rising order
pub record AreOnce (first past : ℕ) (has : ℕ → Bool) (list : List ℕ) : Type 0 where
  pub rising : AllPairs (λ a b. a < b) list
  pub part : IsPartIn first past has list

-- a word at each position of some rows and some columns
abbrev pub spread : List ℕ → List ℕ → ℕ → Content
spread rows cols word = λ i j. if has_index rows i && has_index cols j then Some word else None

-- a map, but at the rows that a list has another
abbrev pub with_rows : List ℕ → Content → Content → Content
with_rows list new old = λ i j. if has_index list i then new i j else old i j

-- the lists have a word at each of some rows of one column, which is one fiber
pub record IsFilledColumn (rows : List ℕ) (word : ℕ) (lists : FiberLists) : Type 0 where
  pub flat : AreFlat lists.ends.items lists.inner.items lists.words.items
  pub entries : entries_in lists ≡ entries_along 0 rows (replicate (length rows) word)
