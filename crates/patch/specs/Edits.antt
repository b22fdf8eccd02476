-- Edits of a map, one after the other.
use Rattle.std.specs.Prelude.{ℕ, ◌<◌, List, fold}
use Rattle.model.specs.declared.entry.Entry.{Entry}
use Rattle.model.specs.Entries.{entry_at}
use Rattle.model.specs.Object.{Content, with_entry, without_entry}
use Rattle.patch.specs.declared.edits.Edit.{Edit}
use Rattle.patch.specs.declared.edits.Edit.TheVariants.{Set, Remove}

-- a map after one edit
abbrev pub edited_once : Content → Edit → Content
edited_once c (Set i j word) = with_entry c i j word
edited_once c (Remove i j) = without_entry c i j

-- a map after edits, from the first to the last
abbrev pub edited : List Edit → Content → Content
edited edits c = fold edited_once c edits

-- an edit of a position in so many rows and columns
abbrev pub IsInside : ℕ → ℕ → Edit → Type 0
IsInside rows cols (Set i j word) = (i < rows) × (j < cols)
IsInside rows cols (Remove i j) = (i < rows) × (j < cols)

-- an edit sets an entry
abbrev pub IsSet : Edit → Type 0
IsSet (Set i j word) = Unit {0}
IsSet (Remove i j) = ⊥

-- the row and the column of an edit
abbrev pub place_of : Edit → ℕ × ℕ
place_of (Set i j word) = (i, j)
place_of (Remove i j) = (i, j)

-- the entry that an edit sets; where it removes one, the word is 0
abbrev pub set_entry : Edit → Entry
set_entry (Set i j word) = entry_at i j word
set_entry (Remove i j) = entry_at i j 0

-- an entry where an edit stands, with the word 1 where it removes one, and else 0
abbrev pub removal_entry : Edit → Entry
removal_entry (Set i j word) = entry_at i j 0
removal_entry (Remove i j) = entry_at i j 1
