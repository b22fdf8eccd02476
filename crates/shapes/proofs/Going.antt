-- Rows of a map that are made of a store's, one row after another.
use Rattle.std.proofs.Common.{true, false, ltb, length, take, Result, Ok, Err, IfOk, OnOk, ◌≡◌, ℕ, ◌+◌, ◌<◌, ◌≤◌, List, [], None, arith}
use Rattle.std.specs.List.{AllPairs}
use Rattle.std.specs.List.Sorted.{IsPartitionPoint}
use Rattle.model.specs.Entries.{word_at}
use Rattle.model.specs.Regions.{cut_to}
use Rattle.store.specs.Fibers.{entries_along}
use Rattle.shapes.proofs.RowWords.{cut_row}
use Rattle.model.specs.declared.entry.Entry.{Entry}
use Rattle.model.specs.Object.{Content}
use Rattle.model.specs.declared.memory.NoMemory.{NoMemory}
use Rattle.store.specs.declared.lists.FiberLists.{FiberLists}
use Rattle.store.specs.Walks.{IsFirstRow}
use Rattle.shapes.specs.Rows.{HasRow, HasRowOf, IsMade, IsRowOf, IsWalk}
use Rattle.shapes.proofs.Made.{made_more, made_none, made_skip}
use Rattle.shapes.proofs.Walked.{walk_end, walk_step}

-- a map has nothing in the rows in which another has nothing
abbrev pub StaysEmpty : Content → Content → Type 0
StaysEmpty source made = (i : ℕ) → ((j : ℕ) → source i j ≡ None) → (j : ℕ) → made i j ≡ None

-- the rows of a map up to some row are in the lists, and behind it the rest of a walk along another map's is left
pub record IsGoing (source made : Content) (first past source_cols cols : ℕ) (rest : List Entry) (lists : FiberLists) : Type 0 where
  pub next : ℕ
  pub high : next ≤ past
  pub rows : IsMade made first next cols lists
  pub walk : IsWalk source next past source_cols rest

pub going_from : (source made : Content) (first past source_cols cols : ℕ) (rest : List Entry) (lists : FiberLists)
    → first ≤ past → IsWalk source first past source_cols rest
    → lists.ends.items ≡ [] → lists.inner.items ≡ [] → lists.words.items ≡ []
    → IsGoing source made first past source_cols cols rest lists
going_from source made first past source_cols cols rest lists up walk ends inner words = record {
  next = first;
  high = up;
  rows = made_none made first cols lists ends inner words;
  walk = walk;
}

-- one row more
pub going_more : (source made : Content) (first past source_cols cols index : ℕ) (cs ws : List ℕ)
    (rest others : List Entry) (old new : FiberLists) → StaysEmpty source made
    → IsGoing source made first past source_cols cols rest old
    → IsFirstRow index cs ws rest others → HasRowOf made index cols old new
    → IsGoing source made first past source_cols cols others new
going_more source made first past source_cols cols index cs ws rest others old new empty here starts put =
    let step = walk_step source here.next past source_cols index cs ws rest others here.walk starts in
    let up = made_skip made first here.next index cols old here.rows step.low (λ i j low below. empty i (λ j. step.gap i j low below) j) in
    let below = step.high in
    record {
      next = index + 1;
      high = omega arith;
      rows = made_more made first index cols old new up put;
      walk = step.left;
    }

-- where nothing is left, all rows are in the lists
pub going_end : (source made : Content) (first past source_cols cols : ℕ) (rest : List Entry) (lists : FiberLists)
    → StaysEmpty source made → IsGoing source made first past source_cols cols rest lists → rest ≡ []
    → IsMade made first past cols lists
going_end source made first past source_cols cols rest lists empty here none =
    let nothing = walk_end source here.next past source_cols rest here.walk none in
    made_skip made first here.next past cols lists here.rows here.high (λ i j low below. empty i (λ j. nothing i j low below) j)

-- ---- answers that may be refused

-- what follows where an answer is no error
pub ok_then : {A E : Type 0} (X Y : Type 0) (r : Result A E) → (X → Y) → OnOk r X → OnOk r Y
ok_then X Y (Ok a) f h = f h
ok_then X Y (Err e) f h = h

pub ok_row : (c : Content) (index cols : ℕ) (cs ws : List ℕ) (old new : FiberLists) (r : Result (Unit {0}) NoMemory)
    → IsRowOf c index cols cs ws → OnOk r (HasRow index cs ws old new) → OnOk r (HasRowOf c index cols old new)
ok_row c index cols cs ws old new r row put = ok_then (HasRow index cs ws old new) (HasRowOf c index cols old new) r (λ put. record { cs = cs; ws = ws; row = row; put = put }) put

pub if_ok : {A E : Type 0} (P Q : A → Type 0) (r : Result A E) → ((a : A) → P a → Q a) → IfOk r P → IfOk r Q
if_ok P Q (Ok a) f h = f a h
if_ok P Q (Err e) f h = h

-- a row that is cut
pub cut_ok : (index cols n : ℕ) (cs ws : List ℕ) (old new : FiberLists) (r : Result (Unit {0}) NoMemory)
    → length ws ≡ length cs → AllPairs (λ a b. a < b) cs
    → IsPartitionPoint (λ c. ltb c cols ≡ true) (λ c. ltb c cols ≡ false) cs n
    → OnOk r (HasRow index (take n cs) (take n ws) old new)
    → OnOk r ((c : Content) (rows : ℕ) → index < rows → ((j : ℕ) → word_at (entries_along index cs ws) index j ≡ c index j) → HasRowOf (cut_to rows cols c) index cols old new)
cut_ok index cols n cs ws old new r same rises point put =
    ok_then (HasRow index (take n cs) (take n ws) old new) ((c : Content) (rows : ℕ) → index < rows → ((j : ℕ) → word_at (entries_along index cs ws) index j ≡ c index j) → HasRowOf (cut_to rows cols c) index cols old new) r
    (λ put c rows inside words. record { cs = take n cs; ws = take n ws; row = cut_row c index rows cols n cs ws inside same rises point words; put = put }) put
