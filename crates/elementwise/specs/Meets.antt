-- The entries that two lists have at the same positions.
use Rattle.std.specs.Prelude.{ℕ, ◌≡◌, List, take}
use Rattle.std.specs.List.{filter_map}
use Rattle.std.specs.Option.{option_map}
use Rattle.algebra.specs.Operators.{eval_of}
use Rattle.algebra.specs.declared.binary.BinaryOp.{BinaryOp}
use Rattle.lanes.specs.Lists.{zip_with}
use Rattle.model.specs.declared.entry.Entry.{Entry}
use Rattle.model.specs.ElementWise.{of_both}
use Rattle.model.specs.Entries.{entry_at, word_at}
use Rattle.model.specs.Object.{Content}
use Rattle.store.specs.declared.lists.FiberEnd.{FiberEnd}
use Rattle.store.specs.Fibers.{AreApart, AreFlat, Rises, entries_along, entries_from, last_end, outers, placed}

-- what a function gives for both words at each position of a that b has too
abbrev pub met : (ℕ → ℕ → ℕ) → List Entry → List Entry → List Entry
met f a b = filter_map (λ e. option_map (λ word. entry_at e.row e.col (f e.word word)) (word_at b e.row e.col)) a

-- the intersection of two maps
abbrev pub met_content : BinaryOp → Content → Content → Content
met_content op left right = λ i j. of_both (eval_of op.kind op.domain) (left i j) (right i j)

-- the first places of the lists are the inner indices that two fibers have both, with the words of each side by side,
-- whatever their outer index
abbrev pub AreFiberPairs : List ℕ → List ℕ → List ℕ → List ℕ → ℕ → List ℕ → List ℕ → List ℕ → Type 0
AreFiberPairs left left_words right right_words count inner lefts rights = (outer : ℕ) (f : ℕ → ℕ → ℕ)
    → entries_along outer (take count inner) (zip_with f (take count lefts) (take count rights))
    ≡ met f (entries_along outer left left_words) (entries_along outer right right_words)

-- the first places of the lists are the positions that a and b have both, with the words of each side by side, and
-- their fibers end there
pub record AreMet (a b : List Entry) (count : ℕ) (ends : List FiberEnd) (inner lefts rights : List ℕ) : Type 0 where
  pub rises : Rises 0 ends
  pub whole : last_end 0 ends ≡ count
  pub apart : AreApart ends
  pub each : (f : ℕ → ℕ → ℕ) → placed (outers 0 ends) (take count inner)
      (zip_with f (take count lefts) (take count rights)) ≡ met f a b

-- fibers that lie flat have what an operator gives for the entries of two sides
pub record HasMeet (op : BinaryOp) (a b : List Entry) (ends : List FiberEnd) (inner words : List ℕ) : Type 0 where
  pub flat : AreFlat ends inner words
  pub whole : entries_from 0 ends inner words ≡ met (eval_of op.kind op.domain) a b
