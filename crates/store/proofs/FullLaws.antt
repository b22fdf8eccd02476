-- Columns with an entry in each row.
use Rattle.std.proofs.Common.{◌≡◌, ℕ, zero, suc, ◌+◌, ◌-◌, ◌*◌, ◌<◌, ◌≤◌, eqb, ltb, ◌&&◌, true, false, List, [], ◌∷◌, length, get_or, Some, refl, sym, subst, ◌∙◌, inl, inr, arith}
use Rattle.std.specs.List.{All, AllPairs}
use Rattle.std.proofs.lemmas.Bool.{cases_Bool}
use Rattle.std.proofs.lemmas.Bool.Decides.{nat_tests}
use Rattle.bitmap.specs.Bitmaps.{place_of}
use Rattle.model.specs.declared.entry.Entry.{Entry}
use Rattle.model.specs.Entries.{InOrder, IsInside, word_at}
use Rattle.store.specs.declared.lists.FiberEnd.{FiberEnd}
use Rattle.store.specs.Fibers.{entries_from}
use Rattle.store.specs.Stored.{AreHeld, along}
use Rattle.store.specs.Walks.{entries_down}
use Rattle.store.proofs.ColumnPuts.{length_held}
use Rattle.store.proofs.Content.{nothing_outside}
use Rattle.store.proofs.Contents.{held_stored, one_column}
use Rattle.store.proofs.FormLaws.{column_below, same_entries}

-- ---- numbers that rise

-- numbers rise by one at least from each to the next
rise_by : (xs : List ℕ) (i n : ℕ) → AllPairs (λ x y. x < y) xs → i + n < length xs
    → get_or xs i 0 + n ≤ get_or xs (i + n) 0
rise_by xs i zero rises within = let same : i + 0 ≡ i = omega arith in rw same (omega arith)
rise_by xs i (suc n) rises within =
    let before = rise_by xs i n rises (omega arith) in
    let next : get_or xs (i + n) 0 < get_or xs (i + suc n) 0 = rises (i + n) (i + suc n) 0 (omega arith) within in
    omega (arith, before, next)

-- as many as there are below their bound are all of these
all_below : (xs : List ℕ) (k : ℕ) → AllPairs (λ x y. x < y) xs → All (λ x. x < length xs) xs → k < length xs
    → get_or xs k 0 ≡ k
all_below xs k rises below within =
    let last = length xs - 1 in
    let to : k + (last - k) ≡ last = omega arith in
    let low = rise_by xs 0 k rises (omega arith) in
    let from : 0 + k ≡ k = omega arith in
    let behind : get_or xs 0 0 + k ≤ get_or xs k 0 = rw from at low in
    let high : get_or xs k 0 + (last - k) ≤ get_or xs last 0 = rw to at (rise_by xs k (last - k) rises (omega arith)) in
    let end : get_or xs last 0 < length xs = below last 0 (omega arith) in
    omega arith

-- ---- entries in each row

word_down : (first : ℕ) (rows words : List ℕ) (i : ℕ) → length words ≡ length rows
    → ((k : ℕ) → k < length rows → get_or rows k 0 ≡ first + k) → i < length rows
    → word_at (entries_down rows words) (first + i) 0 ≡ Some (get_or words i 0)
unfolding word_at
word_down first [] words i same each within = absurd (omega arith)
word_down first (r ∷ rows) [] i same each within = absurd (omega arith)
word_down first (r ∷ rows) (w ∷ words) zero same each within =
    let is : r ≡ first + 0 = each 0 (omega arith) in
    let here : (eqb (first + 0) r && eqb 0 0) ≡ true = grind (arith, nat_tests) in
    rw here refl
word_down first (r ∷ rows) (w ∷ words) (suc i) same each within =
    let is : r ≡ first + 0 = each 0 (omega arith) in
    let away : (eqb (first + suc i) r && eqb 0 0) ≡ false = grind (arith, nat_tests) in
    let next : first + suc i ≡ first + 1 + i = omega arith in
    let rest = word_down (first + 1) rows words i (omega arith) (λ k less. each (suc k) (omega arith) ∙ (omega arith)) (omega arith) in
    rw away (rw next rest)

-- ---- columns

-- there are as many words as rows, and so as places
pub full_words : (rows cols : ℕ) (ends : List FiberEnd) (inner words : List ℕ) → cols ≡ 1
    → AreHeld 0 rows cols ends inner words → length (along cols (entries_from 0 ends inner words)) ≡ rows
    → length words ≡ rows * cols
full_words rows cols ends inner words one held full =
    let long = length_held cols ends inner words held.flat in
    let same = held.flat.same_length in
    rw one (omega arith)

-- what has the words in each row has these entries
pub full_entries : (rows cols : ℕ) (ends : List FiberEnd) (inner words : List ℕ) (es : List Entry) → cols ≡ 1
    → AreHeld 0 rows cols ends inner words → length (along cols (entries_from 0 ends inner words)) ≡ rows
    → InOrder es → IsInside rows cols es
    → ((i j : ℕ) → i < rows → j < cols → word_at es i j ≡ Some (get_or words (place_of cols i j) 0))
    → es ≡ along cols (entries_from 0 ends inner words)
full_entries rows cols ends inner words es one held full order inside words_are =
    let is : eqb cols 1 ≡ true = grind (arith, nat_tests) in
    let stored = held_stored rows cols ends inner words held in
    let column = one_column 0 rows cols ends inner words is held in
    let long : length inner ≡ rows = sym (length_held cols ends inner words held.flat) ∙ full in
    let below : All (λ x. x < length inner) inner = subst (λ n. All (λ x. x < n) inner) (sym long) (column_below 0 rows cols ends inner words is held) in
    let all = along cols (entries_from 0 ends inner words) in
    same_entries rows cols es all order inside stored.order stored.inside
    (λ i j. elim (cases_Bool (ltb i rows && ltb j cols)) [
      | inl within ↦
          let row : i < rows = grind (arith, nat_tests) in
          let col : j < cols = grind (arith, nat_tests) in
          let first : j ≡ 0 = omega arith in
          let place : place_of cols i j ≡ i = rw (one, first) (omega arith) in
          let there : word_at (entries_down inner words) (0 + i) 0 ≡ Some (get_or words i 0) = word_down 0 inner words i column.lengths (λ k less. all_below inner k column.rising below less ∙ (omega arith)) (omega arith) in
          let from : 0 + i ≡ i = omega arith in
          let here : word_at (entries_down inner words) i 0 ≡ Some (get_or words i 0) = rw from at there in
          words_are i j row col ∙ rw (place, column.down, first) (sym here)
      | inr out ↦ nothing_outside rows cols es i j inside out ∙ sym (nothing_outside rows cols all i j stored.inside out)
    ])
