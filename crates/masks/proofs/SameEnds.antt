-- Where entries stand says where their fibers end.
use Rattle.std.proofs.Common.{◌≡◌, ℕ, zero, suc, ◌+◌, ◌-◌, ◌<◌, ◌≤◌, List, [], ◌∷◌, ◌++◌, length, map, replicate, slice_index_or, subst, refl, inl, inr, sym, ◌∙◌, ap, arith}
use Rattle.std.specs.List.{All}
use Rattle.std.proofs.lemmas.List.{length-append, length-map, length-replicate}
use Rattle.std.proofs.lemmas.Bool.{cases_eq}
use Rattle.std.proofs.lemmas.List.Elements.{All-head}
use Rattle.store.specs.declared.lists.FiberEnd.{FiberEnd}
use Rattle.store.specs.Fibers.{last_end, AreApart, Rises, end_at, end_back, outers}
use Rattle.store.proofs.Order.{all_pairs_head, all_pairs_tail}
use Rattle.store.proofs.Places.{all_outers, length_outers, length_placed}
use Rattle.store.proofs.CopyLaws.{copied}
use Rattle.store.specs.Walks.{AreLeft}
use Rattle.model.specs.declared.entry.Entry.{Entry}
use Rattle.store.specs.Fibers.{entries_from, placed}
use Rattle.masks.specs.Joins.{HaveSamePlaces, place_of}
use Rattle.masks.proofs.SamePlaces.{same_places}

abbrev first_of : List ℕ → ℕ
first_of [] = 0
first_of (x ∷ xs) = x

abbrev rest_of : List ℕ → List ℕ
rest_of [] = []
rest_of (x ∷ xs) = xs

abbrev first_end : List FiberEnd → FiberEnd
first_end [] = end_at 0 0
first_end (r ∷ rs) = r

abbrev rest_ends : List FiberEnd → List FiberEnd
rest_ends [] = []
rest_ends (r ∷ rs) = rs

-- runs of one number, before greater ones, are as long
runs_same : (c d o : ℕ) (xs ys : List ℕ) → All (λ x. o < x) xs → All (λ y. o < y) ys
    → replicate c o ++ xs ≡ replicate d o ++ ys → (c ≡ d) × (xs ≡ ys)
runs_same zero zero o xs ys above above' same = (refl, same)
runs_same zero (suc d) o [] ys above above' same = cc
runs_same zero (suc d) o (x ∷ xs) ys above above' same = let first = All-head (λ x. o < x) x xs above in let is : x ≡ o = ap first_of same in absurd (omega arith)
runs_same (suc c) zero o xs [] above above' same = cc
runs_same (suc c) zero o xs (y ∷ ys) above above' same = let first = All-head (λ x. o < x) y ys above' in let is : o ≡ y = ap first_of same in absurd (omega arith)
runs_same (suc c) (suc d) o xs ys above above' same = let rest = runs_same c d o xs ys above above' (ap rest_of same) in (ap suc rest.0, rest.1)

first_same : (c d o u : ℕ) (xs ys : List ℕ) → 0 < c → 0 < d → replicate c o ++ xs ≡ replicate d u ++ ys → o ≡ u
first_same zero d o u xs ys some some' same = absurd (omega arith)
first_same (suc c) zero o u xs ys some some' same = absurd (omega arith)
first_same (suc c) (suc d) o u xs ys some some' same = ap first_of same

-- fibers with the same outer index at each place are at the same indices and as long
pub ends_same : (p q m n : ℕ) (rs ss : List FiberEnd) → p ≤ m → q ≤ n → m - p ≡ n - q → Rises m rs → Rises n ss
    → AreApart rs → AreApart ss → outers m rs ≡ outers n ss → map (end_back p) rs ≡ map (end_back q) ss
unfolding Rises outers
ends_same p q m n [] [] low low' same rises rises' apart apart' is = refl
ends_same p q m n [] (s ∷ ss) low low' same rises rises' apart apart' is = absurd (let long = ap length is in let some = rises'.0 in omega (arith, length-append (replicate (s.end - n) s.outer) (outers s.end ss), length-replicate (s.end - n) s.outer))
ends_same p q m n (r ∷ rs) [] low low' same rises rises' apart apart' is = absurd (let long = ap length is in let some = rises.0 in omega (arith, length-append (replicate (r.end - m) r.outer) (outers r.end rs), length-replicate (r.end - m) r.outer))
ends_same p q m n (r ∷ rs) (s ∷ ss) low low' same rises rises' apart apart' is =
    let some = rises.0 in
    let some' = rises'.0 in
    let less : (r s : FiberEnd) → Type 0 = λ r s. r.outer < s.outer in
    let outer : r.outer ≡ s.outer = first_same (r.end - m) (s.end - n) r.outer s.outer (outers r.end rs) (outers s.end ss) (omega arith) (omega arith) is in
    let above = all_outers (λ x. r.outer < x) r.end rs (all_pairs_head less r rs apart) in
    let above' = all_outers (λ x. s.outer < x) s.end ss (all_pairs_head less s ss apart') in
    let runs = runs_same (r.end - m) (s.end - n) r.outer (outers r.end rs) (outers s.end ss) above (rw outer above') (is ∙ rw outer refl) in
    let long = runs.0 in
    let back : r.end - p ≡ s.end - q = omega arith in
    rw (outer, back, ends_same p q r.end s.end rs ss (omega arith) (omega arith) back rises.1 rises'.1 (all_pairs_tail less r rs apart) (all_pairs_tail less s ss apart') runs.1) refl

pub long_back : (p q : ℕ) (rs ss : List FiberEnd) → map (end_back p) rs ≡ map (end_back q) ss → length rs ≡ length ss
long_back p q [] [] same = refl
long_back p q [] (s ∷ ss) same = cc
long_back p q (r ∷ rs) [] same = cc
long_back p q (r ∷ rs) (s ∷ ss) same = ap suc (long_back p q rs ss (ap rest_ends same))

pub fiber_back : (p q : ℕ) (rs ss : List FiberEnd) (k : ℕ) → map (end_back p) rs ≡ map (end_back q) ss → k < length rs
    → length rs ≡ length ss
    → end_back p (slice_index_or rs k (end_at 0 0)) ≡ end_back q (slice_index_or ss k (end_at 0 0))
fiber_back p q [] ss k same within long = absurd (omega arith)
fiber_back p q (r ∷ rs) [] k same within long = absurd (omega arith)
fiber_back p q (r ∷ rs) (s ∷ ss) zero same within long = ap first_end same
fiber_back p q (r ∷ rs) (s ∷ ss) (suc k) same within long = fiber_back p q rs ss k (ap rest_ends same) (omega arith) (omega arith)

-- ---- the places of entries as they lie

rows_placed : (os is ws : List ℕ) → length is ≡ length os → length ws ≡ length os
    → map (λ (e : Entry). e.row) (map place_of (placed os is ws)) ≡ os
rows_placed [] is ws long long' = refl
rows_placed (o ∷ os) [] ws long long' = absurd (omega arith)
rows_placed (o ∷ os) (i ∷ is) [] long long' = absurd (omega arith)
rows_placed (o ∷ os) (i ∷ is) (w ∷ ws) long long' = ap (λ os. o ∷ os) (rows_placed os is ws (omega arith) (omega arith))

cols_placed : (os is ws : List ℕ) → length is ≡ length os → length ws ≡ length os
    → map (λ (e : Entry). e.col) (map place_of (placed os is ws)) ≡ is
cols_placed [] [] ws long long' = refl
cols_placed [] (i ∷ is) ws long long' = absurd (omega arith)
cols_placed (o ∷ os) [] ws long long' = absurd (omega arith)
cols_placed (o ∷ os) (i ∷ is) [] long long' = absurd (omega arith)
cols_placed (o ∷ os) (i ∷ is) (w ∷ ws) long long' = ap (λ is. i ∷ is) (cols_placed os is ws (omega arith) (omega arith))

places_none : (a : List Entry) (os ws : List ℕ) → a ≡ placed os [] ws → a ≡ []
places_none a [] ws is = is
places_none a (o ∷ os) ws is = is

no_places : (xs : List ℕ) → length xs ≡ 0 → xs ≡ []
no_places [] none = refl
no_places (x ∷ xs) none = absurd (omega arith)

-- the rows and columns of fibers that are left
record Lie (from : ℕ) (head : FiberEnd) (others : List FiberEnd) (inner : List ℕ) (a : List Entry) : Type 0 where
  rows_are : map (λ (e : Entry). e.row) (map place_of a) ≡ outers from (head ∷ others)
  cols_are : map (λ (e : Entry). e.col) (map place_of a) ≡ inner
  count_is : length a ≡ length inner

lie : (from : ℕ) (head : FiberEnd) (others : List FiberEnd) (inner words : List ℕ) (a : List Entry)
    → AreLeft from head others inner words → a ≡ entries_from from (head ∷ others) inner words → 0 < length inner
    → Lie from head others inner a
lie from head others inner words a left is some =
    let long = left.same_length in
    let whole = left.whole some in
    let all : from + length (outers from (head ∷ others)) ≡ last_end from (head ∷ others) = length_outers from (head ∷ others) (left.rises some) in
    let os = outers from (head ∷ others) in
    record {
      rows_are = rw is (rows_placed os inner words (omega arith) (omega arith));
      cols_are = rw is (cols_placed os inner words (omega arith) (omega arith));
      count_is = rw is (length_placed os inner words (omega arith) (omega arith) ∙ omega arith);
    }

-- where entries stand at the same positions, so do their ends, and they have the same inner indices
pub ends_told : (p : ℕ) (head : FiberEnd) (others : List FiberEnd) (inner words : List ℕ) (q : ℕ) (head' : FiberEnd)
    (others' : List FiberEnd) (inner' words' : List ℕ) (a b : List Entry)
    → AreLeft p head others inner words → AreLeft q head' others' inner' words'
    → a ≡ entries_from p (head ∷ others) inner words → b ≡ entries_from q (head' ∷ others') inner' words'
    → 0 < length inner → 0 < length inner' → HaveSamePlaces a b
    → (map (end_back p) (head ∷ others) ≡ map (end_back q) (head' ∷ others')) × (inner ≡ inner')
ends_told p head others inner words q head' others' inner' words' a b left left' is is' some some' same =
    let here = lie p head others inner words a left is some in
    let there = lie q head' others' inner' words' b left' is' some' in
    let rows = sym here.rows_are ∙ ap (map (λ (e : Entry). e.row)) same ∙ there.rows_are in (
      ends_same p q p q (head ∷ others) (head' ∷ others') (omega arith) (omega arith) (omega arith) (left.rises some) (left'.rises some') left.apart left'.apart rows,
      sym here.cols_are ∙ ap (map (λ (e : Entry). e.col)) same ∙ there.cols_are,
    )

-- and the other way round
pub places_told : (p : ℕ) (head : FiberEnd) (others : List FiberEnd) (inner words : List ℕ) (q : ℕ) (head' : FiberEnd)
    (others' : List FiberEnd) (inner' words' : List ℕ) (a b : List Entry)
    → AreLeft p head others inner words → AreLeft q head' others' inner' words'
    → a ≡ entries_from p (head ∷ others) inner words → b ≡ entries_from q (head' ∷ others') inner' words'
    → 0 < length inner → map (end_back p) (head ∷ others) ≡ map (end_back q) (head' ∷ others') → inner ≡ inner'
    → HaveSamePlaces a b
places_told p head others inner words q head' others' inner' words' a b left left' is is' some ends same =
    let a_is = is ∙ sym (copied p head others inner words left some).1 in
    let b_is = is' ∙ sym (copied q head' others' inner' words' left' (subst (λ xs. 0 < length xs) same some)).1 in
    let long = left.same_length in
    let long' = left'.same_length in
    let count = ap length same in
    rw (a_is, b_is, ends, same) (same_places (outers 0 (map (end_back q) (head' ∷ others'))) inner' words words' (omega arith))

pub none_told : (p : ℕ) (head : FiberEnd) (others : List FiberEnd) (inner words : List ℕ) (q : ℕ) (head' : FiberEnd)
    (others' : List FiberEnd) (inner' words' : List ℕ) (a b : List Entry)
    → a ≡ entries_from p (head ∷ others) inner words → b ≡ entries_from q (head' ∷ others') inner' words'
    → length inner ≡ 0 → length inner' ≡ 0 → HaveSamePlaces a b
none_told p head others inner words q head' others' inner' words' a b is is' none none' =
    let a_is = places_none a (outers p (head ∷ others)) words (is ∙ rw (no_places inner none) refl) in
    let b_is = places_none b (outers q (head' ∷ others')) words' (is' ∙ rw (no_places inner' none') refl) in
    rw (a_is, b_is) refl

-- as many entries
pub counts_told : (p : ℕ) (head : FiberEnd) (others : List FiberEnd) (inner words : List ℕ) (a : List Entry)
    → AreLeft p head others inner words → a ≡ entries_from p (head ∷ others) inner words → length a ≡ length inner
counts_told p head others inner words a left is =
    elim (cases_eq (length inner) 0) [
      | inl none ↦ ap length (places_none a (outers p (head ∷ others)) words (is ∙ rw (no_places inner none) refl)) ∙ sym none
      | inr some ↦ (lie p head others inner words a left is (omega arith)).count_is
    ]

pub same_counts : (a b : List Entry) → HaveSamePlaces a b → length a ≡ length b
same_counts a b same = sym (length-map a place_of) ∙ ap length same ∙ length-map b place_of
