-- The join of two maps: where both have a word what is made of both, and where one has, what is made of it alone.
use Rattle.std.specs.Prelude.{ℕ, ◌≡◌, ◌<◌, ◌≤◌, ◌+◌, ◌==◌, if◌then◌else◌, List, drop, length, map, slice_index, take}
use Rattle.std.specs.Prelude.{Option}
use Rattle.std.specs.List.{All, zip}
use Rattle.algebra.specs.Operators.{answer_domain, eval_of}
use Rattle.algebra.specs.Value.{cast_of}
use Rattle.model.specs.declared.entry.Entry.{Entry}
use Rattle.model.specs.ElementWise.{of_either}
use Rattle.model.specs.Entries.{InOrder, entry_at, word_at}
use Rattle.model.specs.Object.{Content}
use Rattle.store.specs.declared.lists.FiberEnd.{FiberEnd}
use Rattle.store.specs.Fibers.{AreFlat, entries_along, entries_from}
use Rattle.masks.specs.declared.full.Side.{Side}
use Rattle.masks.specs.declared.full.Side.TheVariants as sides
use Rattle.masks.specs.declared.join.Joining.{Joining}
use Rattle.masks.specs.declared.join.Joining.TheVariants.{Accumulate, Right, Unite}

-- what is made of a word of one side alone
abbrev pub alone_of : Joining → ℕ → ℕ
alone_of Right word = word
alone_of (Accumulate op) word = word
alone_of (Unite op) word = cast_of op.domain (answer_domain op.kind op.domain) word

-- what is made of the words of both
abbrev pub both_of : Joining → ℕ → ℕ → ℕ
both_of Right left right = right
both_of (Accumulate op) left right = eval_of op.kind op.domain left right
both_of (Unite op) left right = eval_of op.kind op.domain left right

-- the join of the words at a position
abbrev pub join_word : Joining → Option ℕ → Option ℕ → Option ℕ
join_word by left right = of_either (alone_of by) (alone_of by) (both_of by) left right

-- the join of two maps
abbrev pub joined : Joining → Content → Content → Content
joined by left right = λ i j. join_word by (left i j) (right i j)

-- the word of a place, of which the side says which words are there: 1 the left alone, 2 the right alone, else both
abbrev pub joined_word : (ℕ → ℕ) → (ℕ → ℕ → ℕ) → ℕ → ℕ → ℕ → ℕ
joined_word alone both side left right =
    if side == 1 then alone left else if side == 2 then alone right else both left right

-- the words of a join, one for each place
pub record AreJoined (alone : ℕ → ℕ) (both : ℕ → ℕ → ℕ) (sides lefts rights words : List ℕ) : Type 0 where
  pub long : length words ≡ length sides
  pub each : (k : ℕ) → k < length words → slice_index words k
      ≡ joined_word alone both (slice_index sides k) (slice_index lefts k) (slice_index rights k)

-- where an entry stands
abbrev pub place_of : Entry → Entry
place_of e = entry_at e.row e.col 0

-- the entries of two sides stand at the same positions, one by one
abbrev pub HaveSamePlaces : List Entry → List Entry → Type 0
HaveSamePlaces a b = map place_of a ≡ map place_of b

-- each entry of a with what a function gives for its word and that of the entry of b beside it
abbrev pub beside : (ℕ → ℕ → ℕ) → List Entry → List Entry → List Entry
beside f a b = map (λ p. entry_at p.0.row p.0.col (f p.0.word p.1.word)) (zip a b)

-- entries are the join of those of two sides
pub record IsJoin (by : Joining) (a b part : List Entry) : Type 0 where
  pub order : InOrder part
  pub words : (i j : ℕ) → word_at part i j ≡ joined by (word_at a) (word_at b) i j

-- fibers that lie flat have the join of the entries of two sides
pub record HasJoin (by : Joining) (a b : List Entry) (ends : List FiberEnd) (inner words : List ℕ) : Type 0 where
  pub flat : AreFlat ends inner words
  pub joined : IsJoin by a b (entries_from 0 ends inner words)

-- each number of a list is less than each of another
abbrev pub AreBelow : List ℕ → List ℕ → Type 0
AreBelow xs ys = All (λ x. All (λ y. x < y) ys) xs

-- columns and words are the join of the first so many entries of two fibers, and the others stand behind all these
pub record IsJoinSoFar (by : Joining) (left left_words right right_words : List ℕ) (i k : ℕ) (cols words : List ℕ)
    : Type 0 where
  pub lengths : length words ≡ length cols
  pub high : i ≤ length left
  pub joined_are : (outer : ℕ) → IsJoin by (entries_along outer (take i left) (take i left_words))
      (entries_along outer (take k right) (take k right_words)) (entries_along outer cols words)
  pub left_right : AreBelow (take i left) (drop k right)
  pub right_left : AreBelow (take k right) (drop i left)
  pub part_left : AreBelow cols (drop i left)
  pub part_right : AreBelow cols (drop k right)

-- the indices of a fiber have no gaps, and those of another lie between its ends
pub record IsAround (full other : List ℕ) : Type 0 where
  pub steps : (k : ℕ) → k < length full → slice_index full k ≡ slice_index full 0 + k
  pub inside : All (λ x. (slice_index full 0 ≤ x) × (x < slice_index full 0 + length full)) other

-- what is made of the words of both, of which that of the fiber without gaps is on one side
abbrev pub both_beside : Side → Joining → ℕ → ℕ → ℕ
both_beside sides.Left by full other = both_of by full other
both_beside sides.Right by full other = both_of by other full

-- entries are those of a and b, with what a function makes of the words of both where both are
pub record IsJoinBy (f : ℕ → ℕ → ℕ) (a b part : List Entry) : Type 0 where
  pub order : InOrder part
  pub words : (i j : ℕ) → word_at part i j ≡ of_either (λ w. w) (λ w. w) f (word_at a i j) (word_at b i j)
