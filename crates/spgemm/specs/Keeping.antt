-- The sums of a row of which some are kept, in the same lists.
use Rattle.std.specs.Prelude.{ℕ, ◌≡◌, ◌<◌, ◌≤◌, ◌++◌, ◌&&◌, Bool, List, length, take, drop}
use Rattle.std.specs.List.{All}
use Rattle.masks.specs.declared.view.MaskTest.{MaskTest}
use Rattle.masks.specs.Keeps.{kept_by}
use Rattle.masks.specs.Masks.{lets_word}
use Rattle.model.specs.declared.entry.Entry.{Entry}
use Rattle.model.specs.Entries.{word_at}
use Rattle.store.specs.declared.lists.FiberLists.{FiberLists}
use Rattle.store.specs.Fibers.{entries_along}
use Rattle.spgemm.specs.Vectors.{in_range}

-- the part from low up to before high of what stands behind a place
abbrev pub part_behind : ℕ → ℕ → ℕ → List ℕ → List ℕ
part_behind start low high list = drop low (take high (drop start list))

-- whether a mask, by the entries of its store, lets a column of a row through that lies in a range
abbrev pub keeps_among : MaskTest → ℕ → ℕ → List Entry → ℕ → ℕ → Bool
keeps_among test first past entries row col = in_range first past col && lets_word test (word_at entries row col)

-- of what stands behind a place, that which a mask keeps of a part of it, by the columns and words of a row of
-- its store
pub record HasKept (test : MaskTest) (cols words : List ℕ) (start low high : ℕ) (old new : FiberLists) : Type 0 where
  pub kept : List ℕ
  pub kept_words : List ℕ
  pub lengths : length kept_words ≡ length kept
  pub entries : (row : ℕ) → entries_along row kept kept_words
      ≡ kept_by test (entries_along row cols words)
      (entries_along row (part_behind start low high old.inner.items) (part_behind start low high old.words.items))
  pub inner : new.inner.items ≡ take start old.inner.items ++ kept
  pub words_are : new.words.items ≡ take start old.words.items ++ kept_words
  pub ends : new.ends ≡ old.ends

-- the columns from first up to before past are those at the places from low up to before high
pub record IsPart (first past : ℕ) (cols : List ℕ) (low high : ℕ) : Type 0 where
  pub order : low ≤ high
  pub bound : high ≤ length cols
  pub before : All (λ col. col < first) (take low (take high cols))
  pub within : All (λ col. (first ≤ col) × (col < past)) (drop low (take high cols))
  pub behind : All (λ col. past ≤ col) (drop high cols)
