-- Two lists of entries in order, merged by their positions.
use Rattle.std.specs.Prelude.{ℕ, ◌≡◌, ◌==◌, if◌then◌else◌, List, Option, Some, None, map, replicate, take}
use Rattle.std.specs.List.{AllPairs, filter_map}
use Rattle.model.specs.declared.entry.Entry.{Entry}
use Rattle.model.specs.Entries.{Precedes, entry_at}
use Rattle.store.specs.declared.lists.FiberEnd.{FiberEnd}
use Rattle.store.specs.Fibers.{AreApart, Rises, entries_along, last_end, outers}

-- a place of a merge: its position, the words of both sides, and which of them are there: 1 for the left
-- alone, 2 for the right alone, else both
pub record Place : Type 0 where
  pub row : ℕ
  pub col : ℕ
  pub left : ℕ
  pub right : ℕ
  pub side : ℕ

abbrev pub position : Place → Entry
position p = entry_at p.row p.col 0

abbrev pub left_entry : Place → Option Entry
left_entry p = if p.side == 2 then None else Some (entry_at p.row p.col p.left)

abbrev pub right_entry : Place → Option Entry
right_entry p = if p.side == 1 then None else Some (entry_at p.row p.col p.right)

abbrev pub Stand : List Place → Type 0
Stand ps = AllPairs (λ p q. Precedes (position p) (position q)) ps

-- the lists are places in order, whose left words are the entries of a, and the right words those of b
pub record IsMerge (a b : List Entry) (rows cols lefts rights sides : List ℕ) : Type 0 where
  pub places : List Place
  pub rows_are : rows ≡ map (λ p. p.row) places
  pub cols_are : cols ≡ map (λ p. p.col) places
  pub lefts_are : lefts ≡ map (λ p. p.left) places
  pub rights_are : rights ≡ map (λ p. p.right) places
  pub sides_are : sides ≡ map (λ p. p.side) places
  pub left : filter_map left_entry places ≡ a
  pub right : filter_map right_entry places ≡ b
  pub order : Stand places

-- the first places of the lists are the merge of two fibers, whatever their outer index
abbrev pub IsFiberMerge : List ℕ → List ℕ → List ℕ → List ℕ → ℕ → List ℕ → List ℕ → List ℕ → List ℕ → Type 0
IsFiberMerge left left_words right right_words count inner lefts rights sides = (outer : ℕ) → IsMerge
    (entries_along outer left left_words) (entries_along outer right right_words) (replicate count outer)
    (take count inner) (take count lefts) (take count rights) (take count sides)

-- the first places of the lists are the merge of a and b, and their fibers end there
pub record AreMerged (a b : List Entry) (count : ℕ) (ends : List FiberEnd) (inner lefts rights sides : List ℕ)
    : Type 0 where
  pub rises : Rises 0 ends
  pub whole : last_end 0 ends ≡ count
  pub apart : AreApart ends
  pub merge : IsMerge a b (outers 0 ends) (take count inner) (take count lefts) (take count rights) (take count sides)
