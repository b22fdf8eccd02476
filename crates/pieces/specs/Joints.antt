-- Fibers of several blocks, whose lists are put together at the end.
use Rattle.std.specs.Prelude.{ℕ, ◌≡◌, List, ◌++◌, length, map}
use Rattle.std.specs.List.{concat}
use Rattle.std.specs.Global.{Vec}
use Rattle.model.specs.declared.entry.Entry.{Entry}
use Rattle.pieces.specs.declared.joint.Joint.{Joint}
use Rattle.store.specs.Fibers.{AreFlat, entries_from}
use Rattle.store.specs.Stored.{AreIn, Block, along}

-- the numbers of lists, one behind the other
abbrev pub words_in : List (Vec ℕ) → List ℕ
words_in lists = concat (map (λ list. list.items) lists)

abbrev pub entries_of : Joint → List Entry
entries_of joint = entries_from 0 joint.ends.items (words_in joint.inner.items) (words_in joint.words.items)

-- the lists are fibers once they are put together
pub record IsOfFibers (joint : Joint) : Type 0 where
  pub flat : AreFlat joint.ends.items (words_in joint.inner.items) (words_in joint.words.items)
  pub counted : joint.count ≡ length (words_in joint.inner.items)

-- the new ones have a block's entries behind the old ones
pub record IsBehind (block : Block) (old new : Joint) : Type 0 where
  pub fibers : IsOfFibers new
  pub part : List Entry
  pub whole : entries_of new ≡ entries_of old ++ part
  pub entries : along block.cols part ≡ block.entries
  pub inside : AreIn block.first block.past block.cols block.entries
