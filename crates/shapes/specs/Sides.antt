-- What a map has inside the positions that lists name, or outside of them.
use Rattle.std.specs.Prelude.{ℕ, ◌≡◌, ◌++◌, Bool, not, if◌then◌else◌, List, None, map, take}
use Rattle.std.specs.List.{filter}
use Rattle.model.specs.declared.entry.Entry.{Entry}
use Rattle.model.specs.Indices.{Indices}
use Rattle.model.specs.Object.{Content}
use Rattle.model.specs.Regions.{is_listed}
use Rattle.store.specs.declared.lists.FiberLists.{FiberLists}
use Rattle.store.specs.Fibers.{entries_along}
use Rattle.shapes.specs.Lists.{has_index}

-- whether a position is on a side
abbrev pub on_side : Bool → Bool → Bool
on_side inside listed = if inside then listed else not listed

abbrev pub one_side : Bool → ℕ → ℕ → Indices → Indices → Content → Content
one_side inside m n rows cols c = λ i j. if on_side inside (is_listed m n rows cols i j) then c i j else None

-- the first entries of a row whose columns are on a side of a list
abbrev pub kept_first : Bool → List ℕ → ℕ → List Entry → List Entry
kept_first inside sorted count es = filter (λ e. on_side inside (has_index sorted e.col)) (take count es)

-- behind what the old lists have stand such entries of the first so many of a row, in no fiber as yet
pub record HasKept (inside : Bool) (sorted cs ws : List ℕ) (count : ℕ) (old new : FiberLists) : Type 0 where
  pub ends : new.ends.items ≡ old.ends.items
  pub inner : new.inner.items ≡ old.inner.items ++ map (λ e. e.col)
      (kept_first inside sorted count (entries_along 0 cs ws))
  pub words : new.words.items ≡ old.words.items ++ map (λ e. e.word)
      (kept_first inside sorted count (entries_along 0 cs ws))
