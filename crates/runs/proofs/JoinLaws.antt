-- Entries in order, of which those of one position are joined, and the fibers that they make.
use Rattle.std.proofs.Common.{◌≡◌, ◌≢◌, ℕ, ◌<◌, ◌&&◌, true, false, eqb, List, [], ◌∷◌, ◌++◌, length, Option, refl, sym, ◌∙◌, ap, inl, inr, arith, append_assoc, length-append}
use Rattle.std.specs.List.{All, AllPairs}
use Rattle.std.proofs.lemmas.Bool.{ne_eqb}
use Rattle.std.proofs.lemmas.Bool.Decides.{nat_tests}
use Rattle.std.proofs.lemmas.List.{append-nil}
use Rattle.std.proofs.lemmas.List.Elements.{All-head, All-nil, All-push, All-tail, All-weaker}
use Rattle.std.proofs.lemmas.List.Quantifiers.{all_pairs_push}
use Rattle.algebra.specs.declared.operator_names.OpName.{OpName}
use Rattle.model.specs.Builds.{joined}
use Rattle.model.specs.declared.entry.Entry.{Entry}
use Rattle.model.specs.Entries.{IsNotBehind, entry_at}
use Rattle.store.specs.declared.lists.FiberEnd.{FiberEnd}
use Rattle.store.specs.Fibers.{AreFlat, end_at, entries_along, entries_from, last_end, outers}
use Rattle.store.proofs.CloseLaws.{close_fiber, closed}
use Rattle.store.proofs.FlatLaws.{flat_none}
use Rattle.store.proofs.Order.{all_pairs_cons, all_pairs_head, all_pairs_nil, all_pairs_tail, all_pairs_across}
use Rattle.runs.specs.Runs.{runs_from}

-- ---- the fibers so far

-- Whole fibers, and behind them the entries so far of one more, in which the last entry is the next; with that and
-- what is left they make the same as all
pub record AreOpen (joins : Option OpName) (ends : List FiberEnd) (inner words : List ℕ) (last : Entry) (rest all : List Entry) : Type 0 where
  pub before_inner : List ℕ
  pub before_words : List ℕ
  pub cols : List ℕ
  pub added : List ℕ
  pub inner_is : inner ≡ before_inner ++ cols
  pub words_are : words ≡ before_words ++ added
  pub flat : AreFlat ends before_inner before_words
  pub above : All (λ r. r.outer < last.row) ends
  pub lengths : length added ≡ length cols
  pub rising : AllPairs (λ a b. a < b) (cols ++ last.col ∷ [])
  pub order : AllPairs IsNotBehind (last ∷ rest)
  pub gives : (entries_from 0 ends before_inner before_words ++ entries_along last.row cols added) ++ runs_from joins last rest ≡ all

one_rises : (c : ℕ) → AllPairs (λ a b. a < b) (c ∷ [])
one_rises c = all_pairs_cons (λ a b. a < b) c [] (All-nil (λ b. c < b)) (all_pairs_nil (λ a b. a < b))

pub open_first : (joins : Option OpName) (first : Entry) (rest : List Entry) → AllPairs IsNotBehind (first ∷ rest)
    → AreOpen joins [] [] [] first rest (runs_from joins first rest)
unfolding outers
open_first joins first rest order = record {
  before_inner = [];
  before_words = [];
  cols = [];
  added = [];
  inner_is = refl;
  words_are = refl;
  flat = flat_none;
  above = All-nil (λ (r : FiberEnd). r.outer < first.row);
  lengths = refl;
  rising = one_rises first.col;
  order = order;
  gives = refl;
}

-- a word more at the last position
pub open_same : (joins : Option OpName) (ends : List FiberEnd) (inner words : List ℕ) (last e : Entry)
    (rest all : List Entry) → AreOpen joins ends inner words last (e ∷ rest) all
    → (eqb last.row e.row && eqb last.col e.col) ≡ true
    → AreOpen joins ends inner words (entry_at last.row last.col (joined joins last.word e.word)) rest all
unfolding runs_from
open_same joins ends inner words last e rest all here same =
    let new = entry_at last.row last.col (joined joins last.word e.word) in
    record {
      before_inner = here.before_inner;
      before_words = here.before_words;
      cols = here.cols;
      added = here.added;
      inner_is = here.inner_is;
      words_are = here.words_are;
      flat = here.flat;
      above = here.above;
      lengths = here.lengths;
      rising = here.rising;
      order =
          all_pairs_cons IsNotBehind new rest (All-tail (IsNotBehind last) e rest (all_pairs_head IsNotBehind last (e ∷ rest) here.order))
          (all_pairs_tail IsNotBehind e rest (all_pairs_tail IsNotBehind last (e ∷ rest) here.order));
      gives = rw same at here.gives;
    }

along_more : (o : ℕ) (cs ws : List ℕ) (c w : ℕ) → length ws ≡ length cs
    → entries_along o (cs ++ c ∷ []) (ws ++ w ∷ []) ≡ entries_along o cs ws ++ entry_at o c w ∷ []
along_more o [] [] c w h = refl
along_more o [] (x ∷ ws) c w h = absurd (omega arith)
along_more o (y ∷ cs) [] c w h = absurd (omega arith)
along_more o (y ∷ cs) (x ∷ ws) c w h = ap (λ es. entry_at o y x ∷ es) (along_more o cs ws c w (omega arith))

shifted : (xs ys zs : List Entry) (e : Entry) → (xs ++ (ys ++ e ∷ [])) ++ zs ≡ (xs ++ ys) ++ e ∷ zs
shifted xs ys zs e = simp append_assoc

one_longer : (xs ys : List ℕ) (x y : ℕ) → length xs ≡ length ys → length (xs ++ x ∷ []) ≡ length (ys ++ y ∷ [])
one_longer [] [] x y h = refl
one_longer [] (b ∷ ys) x y h = absurd (omega arith)
one_longer (a ∷ xs) [] x y h = absurd (omega arith)
one_longer (a ∷ xs) (b ∷ ys) x y h = let rest = one_longer xs ys x y (omega arith) in omega arith

-- the next entry, where it stands at another position
next_apart : (joins : Option OpName) (last e : Entry) (rest : List Entry)
    → (eqb last.row e.row && eqb last.col e.col) ≡ false
    → runs_from joins last (e ∷ rest) ≡ last ∷ runs_from joins e rest
unfolding runs_from
next_apart joins last e rest other = rw other refl

-- of two that stand side by side the later one is behind, where it stands at another position
next_behind : (last e : Entry) (rest : List Entry) → AllPairs IsNotBehind (last ∷ e ∷ rest) → IsNotBehind last e
next_behind last e rest order = All-head (IsNotBehind last) e rest (all_pairs_head IsNotBehind last (e ∷ rest) order)

col_behind : (last e : Entry) → IsNotBehind last e → (eqb last.row e.row && eqb last.col e.col) ≡ false
    → e.row ≡ last.row → last.col < e.col
col_behind last e before other row = grind (arith, nat_tests)

row_behind : (last e : Entry) → IsNotBehind last e → e.row ≢ last.row → last.row < e.row
row_behind last e (inl before) other = before
row_behind last e (inr before) other = absurd (other (sym before.0))

all_below_next : (cols : List ℕ) (c next : ℕ) → AllPairs (λ a b. a < b) (cols ++ c ∷ []) → c < next
    → All (λ a. a < next) (cols ++ c ∷ [])
all_below_next cols c next rising below =
    let before : All (λ a. a < c) cols = λ k d within. all_pairs_across (λ a b. a < b) cols (c ∷ []) rising k d within 0 d (omega arith) in
    All-push (λ a. a < next) cols c (All-weaker (λ a. a < c) (λ a. a < next) (λ a p. omega arith) cols before) below

-- an entry of the same fiber more
pub open_more : (joins : Option OpName) (ends : List FiberEnd) (inner words : List ℕ) (last e : Entry)
    (rest all : List Entry) → AreOpen joins ends inner words last (e ∷ rest) all
    → (eqb last.row e.row && eqb last.col e.col) ≡ false → e.row ≡ last.row
    → AreOpen joins ends (inner ++ last.col ∷ []) (words ++ last.word ∷ []) e rest all
open_more joins ends inner words last e rest all here other row =
    let before = next_behind last e rest here.order in
    let below = col_behind last e before other row in
    let along = along_more last.row here.cols here.added last.col last.word here.lengths in
    let F = entries_from 0 ends here.before_inner here.before_words in
    record {
      before_inner = here.before_inner;
      before_words = here.before_words;
      cols = here.cols ++ last.col ∷ [];
      added = here.added ++ last.word ∷ [];
      inner_is = rw here.inner_is (append_assoc here.before_inner here.cols (last.col ∷ []));
      words_are = rw here.words_are (append_assoc here.before_words here.added (last.word ∷ []));
      flat = here.flat;
      above = rw row here.above;
      lengths = one_longer here.added here.cols last.word last.col here.lengths;
      rising = all_pairs_push (λ a b. a < b) (here.cols ++ last.col ∷ []) e.col here.rising (all_below_next here.cols last.col e.col here.rising below);
      order = all_pairs_tail IsNotBehind last (e ∷ rest) here.order;
      gives =
          ap (λ o. (F ++ entries_along o (here.cols ++ last.col ∷ []) (here.added ++ last.word ∷ [])) ++ runs_from joins e rest) row
          ∙ ap (λ es. (F ++ es) ++ runs_from joins e rest) along
          ∙ shifted F (entries_along last.row here.cols here.added) (runs_from joins e rest) last
          ∙ ap (λ es. (F ++ entries_along last.row here.cols here.added) ++ es) (sym (next_apart joins last e rest other))
          ∙ here.gives;
    }

-- where the fiber that the last entry stands in ends
abbrev pub end_behind : Entry → List ℕ → FiberEnd
end_behind last inner = end_at last.row (length (inner ++ last.col ∷ []))

-- the fibers with one more, in the lists as they stand
record AreEnded (ends : List FiberEnd) (inner words : List ℕ) (last : Entry) (before : List Entry) : Type 1 where
  pub flat : AreFlat (ends ++ end_behind last inner ∷ []) (inner ++ last.col ∷ []) (words ++ last.word ∷ [])
  pub entries : entries_from 0 (ends ++ end_behind last inner ∷ []) (inner ++ last.col ∷ [])
      (words ++ last.word ∷ []) ≡ before ++ last ∷ []
  pub outers_are : (P : ℕ → Type 0) → All (λ r. P r.outer) ends → P last.row
      → All (λ r. P r.outer) (ends ++ end_behind last inner ∷ [])

-- the last fiber ends before the one that is not empty
one_end_more : (ends : List FiberEnd) (outer count : ℕ) → last_end 0 ends < count
    → closed ends outer count ≡ ends ++ end_at outer count ∷ []
one_end_more ends outer count below =
    let other : last_end 0 ends ≢ count = λ e. absurd (omega arith) in
    rw (ne_eqb (last_end 0 ends) count other) refl

-- the fiber ends with the last entry
ended : (joins : Option OpName) (ends : List FiberEnd) (inner words : List ℕ) (last : Entry) (rest all : List Entry)
    (here : AreOpen joins ends inner words last rest all)
    → AreEnded ends inner words last (entries_from 0 ends here.before_inner here.before_words ++ entries_along last.row here.cols here.added)
ended joins ends inner words last rest all here =
    let F = entries_from 0 ends here.before_inner here.before_words in
    let cols = here.cols ++ last.col ∷ [] in
    let added = here.added ++ last.word ∷ [] in
    let fiber = close_fiber ends here.before_inner here.before_words last.row cols added here.flat here.above (one_longer here.added here.cols last.word last.col here.lengths) here.rising in
    let inner_is : inner ++ last.col ∷ [] ≡ here.before_inner ++ cols = rw here.inner_is (append_assoc here.before_inner here.cols (last.col ∷ [])) in
    let words_are : words ++ last.word ∷ [] ≡ here.before_words ++ added = rw here.words_are (append_assoc here.before_words here.added (last.word ∷ [])) in
    let whole = here.flat.whole in
    let long = length-append here.before_inner cols in
    let longer = length-append here.cols (last.col ∷ []) in
    let more = one_end_more ends last.row (length (here.before_inner ++ cols)) (omega arith) in
    let entries = fiber.entries ∙ ap (λ es. F ++ es) (along_more last.row here.cols here.added last.col last.word here.lengths) ∙ sym (append_assoc F (entries_along last.row here.cols here.added) (last ∷ [])) in
    record {
      flat = rw (inner_is, words_are) (rw more at fiber.flat);
      entries = rw (inner_is, words_are) (rw more at entries);
      outers_are = λ P h at. rw inner_is (rw more at (fiber.outers_are P h at));
    }

-- an entry of the next fiber
pub open_next : (joins : Option OpName) (ends : List FiberEnd) (inner words : List ℕ) (last e : Entry)
    (rest all : List Entry) → AreOpen joins ends inner words last (e ∷ rest) all
    → (eqb last.row e.row && eqb last.col e.col) ≡ false → e.row ≢ last.row
    → AreOpen joins (ends ++ end_behind last inner ∷ []) (inner ++ last.col ∷ []) (words ++ last.word ∷ []) e rest all
open_next joins ends inner words last e rest all here other row =
    let below = row_behind last e (next_behind last e rest here.order) row in
    let fiber = ended joins ends inner words last (e ∷ rest) all here in
    let before = entries_from 0 ends here.before_inner here.before_words ++ entries_along last.row here.cols here.added in
    record {
      before_inner = inner ++ last.col ∷ [];
      before_words = words ++ last.word ∷ [];
      cols = [];
      added = [];
      inner_is = sym (append-nil (inner ++ last.col ∷ []));
      words_are = sym (append-nil (words ++ last.word ∷ []));
      flat = fiber.flat;
      above = fiber.outers_are (λ o. o < e.row) (All-weaker (λ (r : FiberEnd). r.outer < last.row) (λ (r : FiberEnd). r.outer < e.row) (λ r p. omega arith) ends here.above) below;
      lengths = refl;
      rising = one_rises e.col;
      order = all_pairs_tail IsNotBehind last (e ∷ rest) here.order;
      gives =
          ap (λ es. es ++ runs_from joins e rest) (append-nil _ ∙ fiber.entries)
          ∙ append_assoc before (last ∷ []) (runs_from joins e rest)
          ∙ ap (λ es. before ++ es) (sym (next_apart joins last e rest other))
          ∙ here.gives;
    }

-- no entry is left behind the last
pub open_end : (joins : Option OpName) (ends : List FiberEnd) (inner words : List ℕ) (last : Entry) (all : List Entry)
    → AreOpen joins ends inner words last [] all
    → AreFlat (ends ++ end_behind last inner ∷ []) (inner ++ last.col ∷ []) (words ++ last.word ∷ [])
    × (entries_from 0 (ends ++ end_behind last inner ∷ []) (inner ++ last.col ∷ []) (words ++ last.word ∷ []) ≡ all)
unfolding runs_from
open_end joins ends inner words last all here =
    let fiber = ended joins ends inner words last [] all here in
    (fiber.flat, fiber.entries ∙ here.gives)

pub no_runs : entries_from 0 [] [] [] ≡ []
unfolding outers
no_runs = refl
