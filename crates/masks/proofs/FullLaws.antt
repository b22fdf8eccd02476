-- Entries that are joined into a fiber without gaps.
use Rattle.std.proofs.Common.{◌≡◌, ℕ, zero, suc, ◌+◌, ◌-◌, ◌<◌, ◌≤◌, Bool, true, false, cond, ◌&&◌, eqb, List, [], ◌∷◌, ◌++◌, length, get_or, set, take, Option, Some, None, refl, sym, ◌∙◌, ap, subst, arith}
use Rattle.std.specs.List.{All, AllPairs}
use Rattle.std.proofs.lemmas.Bool.{and_parts, eqb-true}
use Rattle.std.proofs.lemmas.List.{get_or_default, length-set, length-take-le, take_more}
use Rattle.std.proofs.lemmas.List.Elements.{All-nil}
use Rattle.model.specs.declared.entry.Entry.{Entry}
use Rattle.model.specs.ElementWise.{of_either}
use Rattle.model.specs.Entries.{Precedes, entry_at, word_at}
use Rattle.lanes.specs.Lists.{zip_with}
use Rattle.store.specs.declared.lists.FiberEnd.{FiberEnd}
use Rattle.store.specs.Fibers.{AreFlat, entries_along, entries_from, outers}
use Rattle.store.proofs.CloseLaws.{close_fiber, closed}
use Rattle.store.proofs.FlatLaws.{flat_none}
use Rattle.store.proofs.Places.{length_row, row_at}
use Rattle.store.proofs.Positions.{has_set_over}
use Rattle.masks.specs.Joins.{IsAround, IsJoinBy}
use Rattle.masks.proofs.FewLaws.{below_along, below_first, fiber_order, none_behind, rising_split, word_at_both, either_word}
use Rattle.masks.proofs.Keeps.{along_append, word_found}

-- ---- numbers that rise

-- numbers rise by one at least from each to the next
rise_by : (xs : List ℕ) (i n : ℕ) → AllPairs (λ x y. x < y) xs → i + n < length xs
    → get_or xs i 0 + n ≤ get_or xs (i + n) 0
rise_by xs i zero rises within = let same : i + 0 ≡ i = omega arith in rw same (omega arith)
rise_by xs i (suc n) rises within =
    let before = rise_by xs i n rises (omega arith) in
    let next : get_or xs (i + n) 0 < get_or xs (i + suc n) 0 = rises (i + n) (i + suc n) 0 (omega arith) within in
    omega (arith, before, next)

pub rise_to : (xs : List ℕ) (i j : ℕ) → AllPairs (λ x y. x < y) xs → i ≤ j → j < length xs
    → get_or xs i 0 + (j - i) ≤ get_or xs j 0
rise_to xs i j rises low within = let is : i + (j - i) ≡ j = omega arith in subst (λ k. get_or xs i 0 + (j - i) ≤ get_or xs k 0) is (rise_by xs i (j - i) rises (rw is within))

-- they have no gaps where the last is as far behind the first as its place
pub around : (xs ys : List ℕ) → AllPairs (λ x y. x < y) xs → AllPairs (λ x y. x < y) ys → 0 < length xs → 0 < length ys
    → get_or xs (length xs - 1) 0 - get_or xs 0 0 ≡ length xs - 1 → get_or xs 0 0 ≤ get_or ys 0 0
    → get_or ys (length ys - 1) 0 ≤ get_or xs (length xs - 1) 0 → IsAround xs ys
around xs ys rises rises' some some' wide low high =
    let n = length xs - 1 in
    let m = length ys - 1 in
    record {
      steps = λ k within.
          let behind = rise_to xs 0 k rises (omega arith) within in
          let before = rise_to xs k n rises (omega arith) (omega arith) in
          omega (arith, behind, before, wide);
      inside = λ k d within.
          let is : get_or ys k d ≡ get_or ys k 0 = get_or_default ys k d 0 within in
          let behind = rise_to ys 0 k rises' (omega arith) within in
          let before = rise_to ys k m rises' (omega arith) (omega arith) in
          rw is (omega (arith, behind, low), omega (arith, before, high, wide));
    }

-- the ends of numbers without gaps, and of those that lie between them
pub ends_around : (xs ys : List ℕ) → 0 < length xs → 0 < length ys → IsAround xs ys
    → (get_or xs (length xs - 1) 0 - get_or xs 0 0 ≡ length xs - 1) × (get_or xs 0 0 ≤ get_or ys 0 0)
    × (get_or ys (length ys - 1) 0 ≤ get_or xs (length xs - 1) 0)
ends_around xs ys some some' is =
    let last = is.steps (length xs - 1) (omega arith) in
    let low = is.inside 0 0 some' in
    let high = is.inside (length ys - 1) 0 (omega arith) in
    (omega (arith, last), low.0, omega (arith, last, high.1))

-- ---- words

with_none : (f : ℕ → ℕ → ℕ) (o : Option ℕ) → o ≡ of_either (λ w. w) (λ w. w) f o None
with_none f None = refl
with_none f (Some w) = refl

either_none : (o : Option ℕ) → either_word o None ≡ o
either_none None = refl
either_none (Some w) = refl

-- ---- one entry after the other

pub put_none : (f : ℕ → ℕ → ℕ) (o : ℕ) (full fw : List ℕ) → length fw ≡ length full → AllPairs (λ x y. x < y) full
    → IsJoinBy f (entries_along o full fw) [] (entries_along o full fw)
unfolding word_at
put_none f o full fw long rises = record {
  order = fiber_order o full fw long rises;
  words = λ i j. with_none f (word_at (entries_along o full fw) i j);
}

along_set : (o : ℕ) (xs ws : List ℕ) (p v : ℕ) → length ws ≡ length xs → p < length xs
    → entries_along o xs (set ws p v) ≡ set (entries_along o xs ws) p (entry_at o (get_or xs p 0) v)
along_set o [] ws p v long within = absurd (omega arith)
along_set o (x ∷ xs) [] p v long within = absurd (omega arith)
along_set o (x ∷ xs) (w ∷ ws) zero v long within = refl
along_set o (x ∷ xs) (w ∷ ws) (suc p) v long within = ap (λ es. entry_at o x w ∷ es) (along_set o xs ws p v (omega arith) (omega arith))

one_there : (o y w i j : ℕ) → (eqb i o && eqb j y) ≡ true → word_at (entry_at o y w ∷ []) i j ≡ Some w
unfolding word_at
one_there o y w i j at = rw at refl

one_away : (o y w i j : ℕ) → (eqb i o && eqb j y) ≡ false → word_at (entry_at o y w ∷ []) i j ≡ None
unfolding word_at
one_away o y w i j away = rw away refl

is_none : (o : Option ℕ) (w : ℕ) (p : Option ℕ) → p ≡ Some w → ((v : ℕ) → o ≡ Some v → p ≡ None) → o ≡ None
is_none None w p is none = refl
is_none (Some v) w p is none = let away = none v refl in cc

put_word : (c : Bool) (f : ℕ → ℕ → ℕ) (v w x : ℕ) (a b e one : Option ℕ) → v ≡ f x w
    → e ≡ of_either (λ w. w) (λ w. w) f a b → (c ≡ true → one ≡ Some w) → (c ≡ false → one ≡ None)
    → (c ≡ true → a ≡ Some x) → (c ≡ true → b ≡ None)
    → cond c (Some v) e ≡ of_either (λ w. w) (λ w. w) f a (either_word b one)
put_word true f v w x a b e one is here there away at none = rw (there refl, at refl, none refl) (ap Some is)
put_word false f v w x a b e one is here there away at none = rw (away refl, either_none b) here

before_it : (front : List Entry) (o y w i j : ℕ) → All (λ e. All (Precedes e) (entry_at o y w ∷ [])) front
    → (eqb i o && eqb j y) ≡ true → word_at front i j ≡ None
before_it front o y w i j below at = is_none (word_at front i j) w (word_at (entry_at o y w ∷ []) i j) (one_there o y w i j at) (λ v is. none_behind front (entry_at o y w ∷ []) i j v below is)

-- the entries before one of a fiber aren't at its position
none_before : (o : ℕ) (ys yw : List ℕ) (k : ℕ) (i j : ℕ) → length yw ≡ length ys → AllPairs (λ x y. x < y) ys
    → k < length ys → (eqb i o && eqb j (get_or ys k 0)) ≡ true
    → word_at (entries_along o (take k ys) (take k yw)) i j ≡ None
none_before o ys yw k i j long rises within at =
    let y = get_or ys k 0 in
    let w = get_or yw k 0 in
    let front = entries_along o (take k ys) (take k yw) in
    let front_long : length (take k yw) ≡ length (take k ys) = length-take-le k yw (omega arith) ∙ sym (length-take-le k ys (omega arith)) in
    let below = below_along o (take k ys) (take k yw) (y ∷ []) (w ∷ []) front_long refl (below_first (take k ys) ys k within (rising_split ys k rises)) in
    before_it front o y w i j below at

pub put_one : (f : ℕ → ℕ → ℕ) (o : ℕ) (full fw ys yw : List ℕ) (k p : ℕ) (ws : List ℕ) (v : ℕ)
    → length fw ≡ length full → length yw ≡ length ys → length ws ≡ length full → AllPairs (λ x y. x < y) full
    → AllPairs (λ x y. x < y) ys
    → k < length ys → p < length full → get_or full p 0 ≡ get_or ys k 0 → v ≡ f (get_or fw p 0) (get_or yw k 0)
    → IsJoinBy f (entries_along o full fw) (entries_along o (take k ys) (take k yw)) (entries_along o full ws)
    → IsJoinBy f (entries_along o full fw) (entries_along o (take (k + 1) ys) (take (k + 1) yw))
    (entries_along o full (set ws p v))
put_one f o full fw ys yw k p ws v long long' long'' rises rises' some inside same is here =
    let x = get_or full p 0 in
    let w = get_or yw k 0 in
    let a = entries_along o full fw in
    let b = entries_along o (take k ys) (take k yw) in
    let es = entries_along o full ws in
    let e = entry_at o x v in
    let one = entry_at o x w in
    let front_long : length (take k yw) ≡ length (take k ys) = length-take-le k yw (omega arith) ∙ sym (length-take-le k ys (omega arith)) in
    let more : entries_along o (take (k + 1) ys) (take (k + 1) yw) ≡ b ++ one ∷ [] = rw (take_more ys k 0 some, take_more yw k 0 (omega arith), same) (along_append o (take k ys) (take k yw) (get_or ys k 0 ∷ []) (w ∷ []) front_long) in
    let put = has_set_over e es p here.order (omega (arith, length_row o full ws long'')) (λ d. rw (row_at o full ws p d long'' inside) (refl, refl)) in
    record {
      order = fiber_order o full (set ws p v) (length-set ws p v ∙ long'') rises;
      words = λ i j.
          rw (along_set o full ws p v long'' inside, more, word_at_both b (one ∷ []) i j)
          (put.words i j ∙ put_word (eqb i o && eqb j x) f v w (get_or fw p 0) (word_at a i j) (word_at b i j) (word_at es i j) (word_at (one ∷ []) i j) is (here.words i j) (one_there o x w i j) (one_away o x w i j)
          (λ at. let parts = and_parts (eqb i o) (eqb j x) at in rw (eqb-true i o parts.0, eqb-true j x parts.1) (word_found o x full fw p long rises inside refl))
          (λ at. none_before o ys yw k i j long' rises' some (rw (sym same) at)));
    }

-- ---- lists

pub zip_turned : (f : ℕ → ℕ → ℕ) (xs ys : List ℕ) → zip_with f xs ys ≡ zip_with (λ y x. f x y) ys xs
zip_turned f [] [] = refl
zip_turned f [] (y ∷ ys) = refl
zip_turned f (x ∷ xs) [] = refl
zip_turned f (x ∷ xs) (y ∷ ys) = ap (λ zs. f x y ∷ zs) (zip_turned f xs ys)

-- the fiber that was closed
pub closed_full : (f : ℕ → ℕ → ℕ) (o : ℕ) (full ws : List ℕ) (ends : List FiberEnd) (a b : List Entry)
    → length ws ≡ length full → AllPairs (λ x y. x < y) full → ends ≡ closed [] o (length full)
    → IsJoinBy f a b (entries_along o full ws)
    → AreFlat ends full ws × IsJoinBy f a b (entries_from 0 ends full ws)
unfolding outers
closed_full f o full ws ends a b long rises are here =
    let made = close_fiber [] [] [] o full ws flat_none (All-nil (λ (r : FiberEnd). r.outer < o)) long rises in
    rw (are, made.entries) (made.flat, here)
