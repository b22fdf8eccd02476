-- Entries that came row by row, and those behind them.
use Rattle.std.specs.Prelude.{ℕ, ◌≡◌, ◌<◌, ◌≤◌, ◌⊎◌, ◌++◌, ◌∷◌, [], List, length, take}
use Rattle.std.specs.List.{All, flat_map}
use Rattle.std.specs.Global.{Vec}
use Rattle.model.specs.declared.entry.Entry.{Entry}
use Rattle.model.specs.Entries.{InOrder, Precedes, entry_at}
use Rattle.store.specs.declared.lists.FiberEnd.{FiberEnd}
use Rattle.store.specs.declared.lists.FiberLists.{FiberLists}
use Rattle.store.specs.Fibers.{AreFlat, AreOthers, end_at, entries_in}

-- an entry stands at a row and a column, or before
abbrev pub IsUpTo : ℕ → ℕ → Entry → Type 0
IsUpTo row col e = (e.row < row) ⊎ ((e.row ≡ row) × (e.col ≤ col))

-- a list of entries begins with one
abbrev pub IsFirst : Entry → List Entry → Type 0
IsFirst e es = (others : List Entry) × (es ≡ e ∷ others)

-- the lists are fibers, of which the last entry stands at a row and a column
pub record AreRows (rows : FiberLists) (row col : ℕ) : Type 0 where
  pub flat : AreFlat rows.ends.items rows.inner.items rows.words.items
  pub up_to : All (IsUpTo row col) (entries_in rows)
  pub last : 0 < length rows.ends.items → All (λ e. Precedes e (entry_at row col 0)) (entries_in rows) → ⊥

-- the last fiber ends behind so many entries: the one at an outer index, which was there or is a new one
pub record HasEnd (outer end : ℕ) (before after : List FiberEnd) : Type 0 where
  pub others : ℕ
  pub are_others : AreOthers before (end_at outer end ∷ []) others
  pub ends : after ≡ take others before ++ end_at outer end ∷ []

-- the entries of lists, one behind the other
abbrev pub listed : List (Vec Entry) → List Entry
listed lists = flat_map (λ list. list.items) lists

abbrev pub NoneIsEmpty : List (Vec Entry) → Type 0
NoneIsEmpty lists = All (λ list. 0 < length list.items) lists

-- entries are listed behind the rows where they don't go on from there in order
pub record AreTuples (rows : FiberLists) (row col : ℕ) (joined : List (Vec Entry)) (list : List Entry) : Type 0 where
  pub are_rows : AreRows rows row col
  pub some : NoneIsEmpty joined
  pub unordered : 0 < length (listed joined ++ list) → InOrder (entries_in rows ++ (listed joined ++ list)) → ⊥
