-- Entries put into a column, from the back.
use Rattle.std.proofs.Common.{◌≡◌, ℕ, zero, suc, ◌+◌, ◌-◌, ◌<◌, ◌≤◌, ◌||◌, ◌&&◌, Bool, cond, eqb, not, true, false, List, [], ◌∷◌, ◌++◌, length, get_or, set, take, drop, Option, Some, refl, sym, ◌∙◌, ap, subst, inl, inr, arith, append_assoc, add-zero, length-append, length-take, length-drop, take-append-drop}
use Rattle.std.specs.List.{All, AllPairs, copy_within, filter, insert}
use Rattle.std.specs.Option.{option_or}
use Rattle.std.proofs.Math.Seq.{set-append_seam}
use Rattle.std.proofs.lemmas.Bool.{cases_Bool, cases_eq, cases_lt}
use Rattle.std.proofs.lemmas.Bool.Decides.{nat_tests}
use Rattle.std.proofs.lemmas.List.{append-nil, drop-drop, drop_all, drop_at, drop_more, drop-set, get_or_append_left, get_or-append_right, get_or-drop, get_or-take, get_or_default, length-take-le, length-set, take_all, take_at, take-append-le, take-set-le, take-take, drop-take}
use Rattle.std.proofs.lemmas.List.Elements.{All-cons, All-nil, All-head, All-tail, All-weaker}
use Rattle.std.proofs.lemmas.List.Folds.{list_any-append, list_any_at, list_any_none}
use Rattle.std.proofs.lemmas.List.Sums.{count_by_more_no, count_by_more_yes, length-filter}
use Rattle.model.specs.declared.entry.Entry.{Entry}
use Rattle.model.specs.Entries.{InOrder, Precedes, entry_at, word_at}
use Rattle.store.specs.Entries.{HasSet, IsAt, IsGap}
use Rattle.store.specs.Fibers.{IsAbsent, IsFound, RisesIn, entries_along}
use Rattle.store.specs.Puts.{HasPut, around, has, missing}
use Rattle.store.specs.Walks.{entries_down}
use Rattle.store.proofs.Contents.{down_at, down_rise, length_down, transposed_along, transposed_order}
use Rattle.store.proofs.FlatLaws.{all_rows, row_in_order}
use Rattle.store.proofs.Order.{all_drop, all_take}
use Rattle.store.proofs.Positions.{has_set_between, has_set_over}

-- ---- a list around a gap

around_whole : (left : ℕ) (xs : List ℕ) → around left 0 xs ≡ xs
around_whole left xs = rw add-zero (take-append-drop left xs)

length_around : (left gap : ℕ) (xs : List ℕ) → left + gap ≤ length xs
    → length (around left gap xs) + gap ≡ length xs
length_around left gap xs within =
    omega (arith, length-append (take left xs) (drop (left + gap) xs), length-take left xs, length-drop (left + gap) xs)

-- what stands before the gap
around_before : (left gap n d : ℕ) (xs : List ℕ) → n < left → left ≤ length xs
    → get_or (around left gap xs) n d ≡ get_or xs n d
around_before left gap n d xs less within =
    get_or_append_left (take left xs) (drop (left + gap) xs) d n (omega (arith, length-take left xs)) ∙ get_or-take left xs n d less

-- and behind it
around_behind : (left gap n d : ℕ) (xs : List ℕ) → left ≤ n → left ≤ length xs
    → get_or (around left gap xs) n d ≡ get_or xs (n + gap) d
around_behind left gap n d xs le within =
    let at : left + gap + (n - left) ≡ n + gap = omega arith in
    get_or-append_right (take left xs) (drop (left + gap) xs) left n d (length-take-le left xs within) le
    ∙ get_or-drop (left + gap) xs (n - left) d ∙ ap (λ k. get_or xs k d) at

-- a run moved behind the gap
pub around_moved : (at left gap : ℕ) (xs : List ℕ) → at ≤ left → left + gap ≤ length xs
    → around at gap (copy_within xs at left (at + gap)) ≡ around left gap xs
around_moved at left gap xs low high =
    let m = at + gap in
    let n = left - at in
    let q = take n (drop at xs) in
    let rest = drop (m + n) xs in
    let sum : m + n ≡ left + gap = omega arith in
    let total : at + n ≡ left = omega arith in
    let long : length (take m xs) ≡ m = length-take-le m xs (omega arith) in
    let whole : (take m xs ++ q) ++ rest ≡ take m xs ++ (q ++ rest) = append_assoc (take m xs) q rest in
    let front : take at (take m xs ++ (q ++ rest)) ≡ take at xs = take-append-le at (take m xs) (q ++ rest) (omega arith) ∙ take-take at m xs (omega arith) in
    let behind : drop m (take m xs ++ (q ++ rest)) ≡ q ++ rest = drop_at (take m xs) (q ++ rest) m long in
    let run : q ≡ drop at (take left xs) = sym (drop-take at n xs) ∙ ap (λ k. drop at (take k xs)) total in
    let first : take at xs ≡ take at (take left xs) = sym (take-take at left xs low) in
    let joined : take at xs ++ q ≡ take left xs = rw (first, run) (take-append-drop at (take left xs)) in
    rw (whole, front, behind) (sym (append_assoc (take at xs) q rest) ∙ rw (joined, sum) refl)

-- ..where it is no longer than the gap, and is copied from what is before its new place into what is behind that
pub around_copied : (from end gap : ℕ) (xs low high run : List ℕ) → from ≤ end → end ≤ from + gap
    → end + gap ≤ length xs → low ≡ take (from + gap) xs → high ≡ drop (from + gap) xs
    → run ≡ take (end - from) (drop from low)
    → around from gap (low ++ (run ++ drop (end - from) high)) ≡ around end gap xs
around_copied from end gap xs low high run order fits inside low_is high_is run_is =
    let m = from + gap in
    let n = end - from in
    let q = take n (drop from xs) in
    let cut : drop from low ≡ take gap (drop from xs) = ap (drop from) low_is ∙ drop-take from gap xs in
    let same : run ≡ q = run_is ∙ ap (take n) cut ∙ take-take n gap (drop from xs) (omega arith) in
    let rest : drop n high ≡ drop (m + n) xs = ap (drop n) high_is ∙ drop-drop n m xs in
    ap (around from gap) (rw (low_is, same, rest) (sym (append_assoc (take m xs) q (drop (m + n) xs))))
    ∙ around_moved from end gap xs order inside

-- a word over that in the first place behind the gap
around_set : (at gap v : ℕ) (xs : List ℕ) → at + gap < length xs
    → around at gap (set xs (at + gap) v) ≡ set (around at gap xs) at v
around_set at gap v xs within =
    let more = drop_more xs (at + gap) 0 within in
    let long : length (take at xs) ≡ at = length-take-le at xs (omega arith) in
    let last = set-append_seam (take at xs) (get_or xs (at + gap) 0) (drop (at + gap + 1) xs) v in
    let last' : set (take at xs ++ get_or xs (at + gap) 0 ∷ drop (at + gap + 1) xs) at v ≡ take at xs ++ v ∷ drop (at + gap + 1) xs = rw long at last in
    rw (take-set-le at xs (at + gap) v (omega arith), drop-set xs (at + gap) v within, more) (sym last')

-- an item in the last place of the gap
around_insert : (at gap v : ℕ) (xs : List ℕ) → at + gap < length xs
    → around at gap (set xs (at + gap) v) ≡ insert (around at (gap + 1) xs) at v
around_insert at gap v xs within =
    let long : length (take at xs) ≡ at = length-take-le at xs (omega arith) in
    let sum : at + (gap + 1) ≡ at + gap + 1 = omega arith in
    rw (take-set-le at xs (at + gap) v (omega arith), drop-set xs (at + gap) v within, sum, take_at (take at xs) (drop (at + gap + 1) xs) at long, drop_at (take at xs) (drop (at + gap + 1) xs) at long) refl

-- ---- an entry of a column more, or another word

-- entries of a column stand in order where its rows rise
down_in_order : (rows words : List ℕ) → AllPairs (λ x y. x < y) rows → InOrder (entries_down rows words)
down_in_order rows words rising =
    subst InOrder (transposed_along rows words) (transposed_order (entries_along 0 rows words) (row_in_order 0 rows words rising) (All-weaker (λ e. e.row ≡ 0) (λ e. e.row < 1) (λ e is. omega arith) (entries_along 0 rows words) (all_rows 0 rows words)))

down_set : (rows words : List ℕ) (p w : ℕ) → length words ≡ length rows
    → entries_down rows (set words p w) ≡ set (entries_down rows words) p (entry_at (get_or rows p 0) 0 w)
down_set [] words p w same = refl
down_set (r ∷ rows) [] p w same = absurd (omega arith)
down_set (r ∷ rows) (v ∷ words) zero w same = refl
down_set (r ∷ rows) (v ∷ words) (suc p) w same = ap (λ es. entry_at r 0 v ∷ es) (down_set rows words p w (omega arith))

down_insert : (rows words : List ℕ) (p r w : ℕ) → length words ≡ length rows → p ≤ length rows
    → entries_down (insert rows p r) (insert words p w) ≡ insert (entries_down rows words) p (entry_at r 0 w)
down_insert rows words zero r w same within = refl
down_insert [] words (suc p) r w same within = absurd (omega arith)
down_insert (a ∷ rows) [] (suc p) r w same within = absurd (omega arith)
down_insert (a ∷ rows) (v ∷ words) (suc p) r w same within = ap (λ es. entry_at a 0 v ∷ es) (down_insert rows words p r w (omega arith) (omega arith))

-- a word over that of an entry that is there
down_over : (row word p : ℕ) (rows words : List ℕ) → length words ≡ length rows → InOrder (entries_down rows words)
    → p < length rows → get_or rows p 0 ≡ row
    → HasSet (entry_at row 0 word) (entries_down rows words) (entries_down rows (set words p word))
down_over row word p rows words same order within is =
    let at : (d : Entry) → IsAt row 0 (get_or (entries_down rows words) p d) = λ d. rw (down_at rows words p d same within) (is, refl) in
    rw (down_set rows words p word same, is) (has_set_over (entry_at row 0 word) (entries_down rows words) p order (omega (arith, length_down rows words same)) at)

-- an entry that is absent, in its place
down_between : (row word p : ℕ) (rows words : List ℕ) → length words ≡ length rows → InOrder (entries_down rows words)
    → p ≤ length rows → ((n : ℕ) → n < p → get_or rows n 0 < row)
    → ((n : ℕ) → p ≤ n → n < length rows → row < get_or rows n 0)
    → HasSet (entry_at row 0 word) (entries_down rows words) (entries_down (insert rows p row) (insert words p word))
down_between row word p rows words same order within before behind =
    let es = entries_down rows words in
    let long = length_down rows words same in
    let gap : IsGap row 0 es p = record {
      before = all_take (λ e. Precedes e (entry_at row 0 0)) p es (λ n d _ less. rw (down_at rows words n d same (omega arith)) (inl (before n less)));
      behind = all_drop (Precedes (entry_at row 0 0)) p es (λ n d from less. rw (down_at rows words n d same (omega arith)) (inl (behind n from (omega arith))));
    } in
    rw (down_insert rows words p row word same within) (has_set_between (entry_at row 0 word) es p order gap)

-- ---- the place of a row among those before a gap

pub has_found : (row at left : ℕ) (xs : List ℕ) → left ≤ length xs → IsFound row 0 left xs at
    → has (take left xs) row ≡ true
has_found row at left xs within found =
    let high = found.high in
    let is : get_or (take left xs) at 0 ≡ row = get_or-take left xs at 0 high ∙ found.is in
    list_any_at (λ x. eqb x row) (take left xs) at 0 (omega (arith, length-take left xs)) (grind (arith, nat_tests))

pub has_absent : (row at left : ℕ) (xs : List ℕ) → left ≤ length xs → IsAbsent row 0 left xs at
    → has (take left xs) row ≡ false
has_absent row at left xs within absent =
    list_any_none (λ x. eqb x row) (take left xs) (λ k d less.
    let high : k < left = omega (arith, length-take left xs) in
    let is : get_or (take left xs) k d ≡ get_or xs k 0 = get_or-take left xs k d high ∙ get_or_default xs k d 0 (omega arith) in
    rw is (elim (cases_lt k at) [
      | inl before ↦ let h = absent.before k (omega arith) before in grind (arith, nat_tests)
      | inr behind ↦ let h = absent.behind k behind high in grind (arith, nat_tests)
    ]))

-- from a place on no number is below a row
abbrev pub IsFloor : ℕ → ℕ → List ℕ → Type 0
IsFloor row at xs = (n : ℕ) → at ≤ n → n < length xs → row ≤ get_or xs n 0

all_floor : (row at : ℕ) (xs : List ℕ) → IsFloor row at xs → All (λ x. row ≤ x) (drop at xs)
all_floor row at xs floor = all_drop (λ x. row ≤ x) at xs (λ n d from less. rw (get_or_default xs n d 0 less) (floor n from less))

floor_found : (row at left gap : ℕ) (xs : List ℕ) → left + gap ≤ length xs → AllPairs (λ a b. a < b) (around left gap xs)
    → IsFound row 0 left xs at → IsFloor row at (around left gap xs)
floor_found row at left gap xs inside rising found n from less =
    let high = found.high in
    let is : get_or (around left gap xs) at 0 ≡ row = around_before left gap at 0 xs high (omega arith) ∙ found.is in
    elim (cases_eq at n) [
      | inl same ↦ rw (← same, is) (omega arith)
      | inr other ↦ let more = rising at n 0 (omega arith) less in omega arith
    ]

above_absent : (row at left gap : ℕ) (xs : List ℕ) → left + gap ≤ length xs
    → All (λ x. row < x) (drop (left + gap) xs) → IsAbsent row 0 left xs at
    → (n : ℕ) → at ≤ n → n < length (around left gap xs) → row < get_or (around left gap xs) n 0
above_absent row at left gap xs inside above absent n from less =
    elim (cases_lt n left) [
      | inl before ↦ rw (around_before left gap n 0 xs before (omega arith)) (absent.behind n from before)
      | inr behind ↦
          let long = length_around left gap xs inside in
          let at_is : left + gap + (n - left) ≡ n + gap = omega arith in
          let h = above (n - left) 0 (omega (arith, length-drop (left + gap) xs)) in
          rw (around_behind left gap n 0 xs behind (omega arith)) (rw (get_or-drop (left + gap) xs (n - left) 0, at_is) at h)
    ]

pub rises_first : (left : ℕ) (xs : List ℕ) → left ≤ length xs → AllPairs (λ a b. a < b) xs → RisesIn 0 left xs
rises_first left xs within rising m n low le high =
    elim (cases_lt m n) [
      | inl less ↦ let more = rising m n 0 less (omega arith) in omega arith
      | inr same ↦ let is : m ≡ n = omega arith in rw is (omega arith)
    ]

-- the numbers before the gap rise
pub around_rises : (left gap : ℕ) (inner words : List ℕ) → length words ≡ length inner → left + gap ≤ length inner
    → InOrder (entries_down (around left gap inner) (around left gap words)) → RisesIn 0 left inner
around_rises left gap inner words same inside order m n low le high =
    let v = around left gap inner in
    let v_long = length_around left gap inner inside in
    let w_long = length_around left gap words (omega arith) in
    elim (cases_lt m n) [
      | inl less ↦
          let more = down_rise v (around left gap words) (omega arith) order m n 0 less (omega arith) in
          let more' : get_or inner m 0 < get_or inner n 0 = rw (around_before left gap m 0 inner (omega arith) (omega arith), around_before left gap n 0 inner high (omega arith)) at more in
          omega arith
      | inr same ↦ let is : m ≡ n = omega arith in rw is (omega arith)
    ]

-- what is left behind a place that was sought
pub behind_found : (row at left : ℕ) (xs : List ℕ) → left ≤ length xs → RisesIn 0 left xs → IsFound row 0 left xs at
    → All (λ x. row ≤ x) (drop at (take left xs))
behind_found row at left xs within rises found =
    all_floor row at (take left xs) (λ n from less.
    let high : n < left = omega (arith, length-take left xs) in
    let le = rises at n (omega arith) from high in
    let is = found.is in
    rw (get_or-take left xs n 0 high) (omega arith))

pub behind_absent : (row at left : ℕ) (xs : List ℕ) → left ≤ length xs → IsAbsent row 0 left xs at
    → All (λ x. row ≤ x) (drop at (take left xs))
behind_absent row at left xs within absent =
    all_floor row at (take left xs) (λ n from less.
    let high : n < left = omega (arith, length-take left xs) in
    let more = absent.behind n from high in
    rw (get_or-take left xs n 0 high) (omega arith))

-- what is left before the gap
floor_left : (row at left gap : ℕ) (xs : List ℕ) → left + gap ≤ length xs → IsFloor row at (around left gap xs)
    → All (λ x. row ≤ x) (drop at (take left xs))
floor_left row at left gap xs inside floor =
    let long = length_around left gap xs inside in
    all_floor row at (take left xs) (λ n from less.
    let high : n < left = omega (arith, length-take left xs) in
    rw (get_or-take left xs n 0 high, ← around_before left gap n 0 xs high (omega arith)) (floor n from (omega arith)))

-- what is behind it
floor_behind : (row at gap : ℕ) (xs ys : List ℕ) → at ≤ length xs → around at gap xs ≡ ys
    → All (λ x. row ≤ x) (drop at ys) → All (λ x. row ≤ x) (drop (at + gap) xs)
floor_behind row at gap xs ys within is h =
    let behind : drop at (around at gap xs) ≡ drop (at + gap) xs = drop_at (take at xs) (drop (at + gap) xs) at (length-take-le at xs within) in
    rw (← behind, is) h

-- a row and its word put among those before a gap, of which at are left then, and a gap
pub record IsPutBefore (row word left gap : ℕ) (inner words : List ℕ) (at new_gap : ℕ) (new_inner new_words : List ℕ)
    : Type 0 where
  pub behind : All (λ x. row ≤ x) (drop at (take left inner))
  pub above : All (λ x. row ≤ x) (drop (at + new_gap) new_inner)
  pub set : HasSet (entry_at row 0 word) (entries_down (around left gap inner) (around left gap words))
      (entries_down (around at new_gap new_inner) (around at new_gap new_words))

pub put_found : (row word at left gap : ℕ) (inner words moved moved_words : List ℕ) → length words ≡ length inner
    → left + gap ≤ length inner → InOrder (entries_down (around left gap inner) (around left gap words))
    → IsFound row 0 left inner at → length moved ≡ length inner → length moved_words ≡ length words
    → around at gap moved ≡ around left gap inner → around at gap moved_words ≡ around left gap words
    → IsPutBefore row word left gap inner words at gap moved (set moved_words (at + gap) word)
put_found row word at left gap inner words moved moved_words same inside order found long long_words is words_is =
    let v = around left gap inner in
    let high = found.high in
    let v_long = length_around left gap inner inside in
    let w_long = length_around left gap words (omega arith) in
    let floor = floor_found row at left gap inner inside (down_rise v (around left gap words) (omega arith) order) found in
    let row_is : get_or v at 0 ≡ row = around_before left gap at 0 inner high (omega arith) ∙ found.is in
    record {
      behind = floor_left row at left gap inner inside floor;
      above = floor_behind row at gap moved v (omega arith) is (all_floor row at v floor);
      set = rw (is, around_set at gap word moved_words (omega arith), words_is) (down_over row word at v (around left gap words) (omega arith) order (omega arith) row_is);
    }

pub put_absent : (row word at left last gap : ℕ) (inner words moved moved_words : List ℕ) → gap + 1 ≡ last → length words ≡ length inner
    → left + last ≤ length inner
    → InOrder (entries_down (around left last inner) (around left last words))
    → All (λ x. row < x) (drop (left + last) inner) → IsAbsent row 0 left inner at
    → length moved ≡ length inner → length moved_words ≡ length words
    → around at last moved ≡ around left last inner
    → around at last moved_words ≡ around left last words
    → IsPutBefore row word left last inner words at gap (set moved (at + gap) row) (set moved_words (at + gap) word)
put_absent row word at left last gap inner words moved moved_words one same inside order above absent long long_words is words_is =
    let v = around left last inner in
    let w = around left last words in
    let high = absent.high in
    let v_long = length_around left last inner inside in
    let w_long = length_around left last words (omega arith) in
    let more = above_absent row at left last inner inside above absent in
    let floor : IsFloor row at v = λ n from less. let h = more n from less in omega arith in
    let new : around at gap (set moved (at + gap) row) ≡ insert v at row = around_insert at gap row moved (omega arith) ∙ ap (λ g. insert (around at g moved) at row) one ∙ ap (λ xs. insert xs at row) is in
    let new_words : around at gap (set moved_words (at + gap) word) ≡ insert w at word = around_insert at gap word moved_words (omega arith) ∙ ap (λ g. insert (around at g moved_words) at word) one ∙ ap (λ xs. insert xs at word) words_is in
    let rest : drop at (insert v at row) ≡ row ∷ drop at v = drop_at (take at v) (row ∷ drop at v) at (length-take-le at v (omega arith)) in
    record {
      behind = floor_left row at left last inner inside floor;
      above = floor_behind row at gap (set moved (at + gap) row) (insert v at row) (omega (arith, length-set moved (at + gap) row)) new (rw rest (All-cons (λ x. row ≤ x) row (drop at v) (omega arith) (all_floor row at v floor)));
      set = rw (new, new_words) (down_between row word at v w (omega arith) order (omega arith)
          (λ n less. rw (around_before left last n 0 inner (omega arith) (omega arith)) (absent.before n (omega arith) less)) more);
    }

-- ---- the rows that are still to be put

first_word : (b : Bool) (x : ℕ) (y z w : Option ℕ) → w ≡ option_or y z
    → cond b (Some x) w ≡ option_or (cond b (Some x) y) z
first_word true x y z w h = refl
first_word false x y z w h = h

or_false : (b : Bool) → (b || false) ≡ b
or_false true = refl
or_false false = refl

-- entries put with one more before them
put_more : (e : Entry) (put old between new : List Entry) → HasPut put old between → HasSet e between new
    → HasPut (e ∷ put) old new
unfolding word_at
put_more e put old between new h set = record {
  order = set.order;
  inside = λ rows cols all others.
      let P : Entry → Type 0 = λ x. (x.row < rows) × (x.col < cols) in
      let first = All-head P e put all in
      set.inside rows cols first.0 first.1 (h.inside rows cols (All-tail P e put all) others);
  words = λ i j. set.words i j ∙ first_word (eqb i e.row && eqb j e.col) e.word (word_at put i j) (word_at old i j) (word_at between i j) (h.words i j);
}

has_before : (y row n : ℕ) (xs : List ℕ) → y < row → All (λ x. row ≤ x) (drop n xs) → has (take n xs) y ≡ has xs y
has_before y row n xs less above =
    let none : has (drop n xs) y ≡ false = list_any_none (λ x. eqb x y) (drop n xs) (λ k d within. let h = above k d within in grind (arith, nat_tests)) in
    let parts = list_any-append (λ x. eqb x y) (take n xs) (drop n xs) in
    let whole : has xs y ≡ (has (take n xs) y || has (drop n xs) y) = rw (take-append-drop n xs) at parts in
    sym (whole ∙ rw none (or_false (has (take n xs) y)))

kept_same : (xs zs ys : List ℕ) → All (λ y. has xs y ≡ has zs y) ys
    → filter (λ y. not (has xs y)) ys ≡ filter (λ y. not (has zs y)) ys
kept_same xs zs [] h = refl
kept_same xs zs (y ∷ ys) h =
    rw (All-head (λ y. has xs y ≡ has zs y) y ys h, kept_same xs zs ys (All-tail (λ y. has xs y ≡ has zs y) y ys h)) refl

missing_same : (xs zs ys : List ℕ) → All (λ y. has xs y ≡ has zs y) ys → missing xs ys ≡ missing zs ys
missing_same xs zs ys h =
    sym (length-filter (λ y. not (has xs y)) ys) ∙ ap length (kept_same xs zs ys h) ∙ length-filter (λ y. not (has zs y)) ys

missing_more : (xs ys : List ℕ) (k : ℕ) → k < length ys
    → missing xs (take (k + 1) ys) ≡ missing xs (take k ys) + cond (has xs (get_or ys k 0)) 0 1
missing_more xs ys k within =
    elim (cases_Bool (has xs (get_or ys k 0))) [
      | inl there ↦ rw there (count_by_more_no (λ y. not (has xs y)) ys k 0 within (rw there refl) ∙ sym (add-zero (missing xs (take k ys))))
      | inr absent ↦ rw absent (count_by_more_yes (λ y. not (has xs y)) ys k 0 within (rw absent refl))
    ]

-- the last of some rows, and those before it, which aren't behind its place
missing_step : (xs rows : List ℕ) (left at k : ℕ) → k < length rows → AllPairs (λ x y. x < y) rows → at ≤ left
    → All (λ x. get_or rows k 0 ≤ x) (drop at (take left xs))
    → missing (take left xs) (take (k + 1) rows) ≡ missing (take at xs) (take k rows) + cond (has (take left xs) (get_or rows k 0)) 0 1
missing_step xs rows left at k within rising low behind =
    let row = get_or rows k 0 in
    let each : All (λ y. has (take left xs) y ≡ has (take at xs) y) (take k rows) = λ m d less.
    let m_less : m < k = omega (arith, length-take k rows) in
    let is : get_or (take k rows) m d ≡ get_or rows m 0 = get_or-take k rows m d m_less ∙ get_or_default rows m d 0 (omega arith) in
    let rises : get_or rows m 0 < row = rising m k 0 m_less within in
    rw is (sym (has_before (get_or rows m 0) row at (take left xs) rises behind) ∙ ap (λ ys. has ys (get_or rows m 0)) (take-take at left xs low)) in
    missing_more (take left xs) rows k within ∙ ap (λ n. n + cond (has (take left xs) row) 0 1) (missing_same (take left xs) (take at xs) (take k rows) each)

-- A merge from the back: of the rows so many are still to be put among the old ones that are left before the gap. The
-- others are put.
pub record IsMergedFrom (old old_words rows row_words : List ℕ) (left gap k : ℕ) (inner words : List ℕ) : Type 0 where
  pub high : k ≤ length rows
  pub lengths : length words ≡ length inner
  pub inside : left + gap ≤ length inner
  pub gap_is : gap ≡ missing (take left inner) (take k rows)
  pub above : (m : ℕ) → m < k → All (λ x. get_or rows m 0 < x) (drop (left + gap) inner)
  pub put : HasPut (entries_down (drop k rows) (drop k row_words)) (entries_down old old_words)
      (entries_down (around left gap inner) (around left gap words))

none_put : (es : List Entry) → InOrder es → HasPut [] es es
unfolding word_at
none_put es order = record { order = order; inside = λ rows cols none all. all; words = λ i j. refl }

pub merge_start : (old : ℕ) (inner words rows row_words : List ℕ) → length words ≡ length inner
    → length row_words ≡ length rows → AllPairs (λ x y. x < y) (take old inner)
    → length inner ≡ old + missing (take old inner) rows
    → IsMergedFrom (take old inner) (take old words) rows row_words old (length inner - old) (length rows) inner words
merge_start old inner words rows row_words same row_same rising room =
    let gap = length inner - old in
    let all : take (length rows) rows ≡ rows = take_all (length rows) rows (omega arith) in
    let none : drop (old + gap) inner ≡ [] = drop_all (old + gap) inner (omega arith) in
    let none_words : drop (old + gap) words ≡ [] = drop_all (old + gap) words (omega arith) in
    let front : around old gap inner ≡ take old inner = ap (λ xs. take old inner ++ xs) none ∙ append-nil (take old inner) in
    let front_words : around old gap words ≡ take old words = ap (λ xs. take old words ++ xs) none_words ∙ append-nil (take old words) in
    let no_rows : drop (length rows) rows ≡ [] = drop_all (length rows) rows (omega arith) in
    let order = down_in_order (take old inner) (take old words) rising in
    record {
      high = omega arith;
      lengths = same;
      inside = omega arith;
      gap_is = rw all (omega arith);
      above = λ m less. rw none (All-nil (λ x. get_or rows m 0 < x));
      put = rw (no_rows, front, front_words) (none_put (entries_down (take old inner) (take old words)) order);
    }

pub merge_step : (old old_words rows row_words : List ℕ) (left gap k j : ℕ) (inner words : List ℕ) (at new_gap : ℕ)
    (new_inner new_words : List ℕ) → IsMergedFrom old old_words rows row_words left gap j inner words → k + 1 ≡ j
    → length row_words ≡ length rows → AllPairs (λ x y. x < y) rows → length new_inner ≡ length inner
    → length new_words ≡ length words → at ≤ left
    → new_gap + cond (has (take left inner) (get_or rows k 0)) 0 1 ≡ gap → take at new_inner ≡ take at inner
    → All (λ x. get_or rows k 0 ≤ x) (drop at (take left inner))
    → All (λ x. get_or rows k 0 ≤ x) (drop (at + new_gap) new_inner)
    → HasSet (entry_at (get_or rows k 0) 0 (get_or row_words k 0)) (entries_down (around left gap inner) (around left gap words)) (entries_down (around at new_gap new_inner) (around at new_gap new_words))
    → IsMergedFrom old old_words rows row_words at new_gap k new_inner new_words
merge_step old old_words rows row_words left gap k j inner words at new_gap new_inner new_words h one row_same rising long long_words low gap_is kept behind above set =
    let row = get_or rows k 0 in
    let high = h.high in
    let same = h.lengths in
    let inside = h.inside in
    let step = missing_step inner rows left at k (omega arith) rising low behind in
    let room : gap ≡ missing (take left inner) (take (k + 1) rows) = h.gap_is ∙ ap (λ n. missing (take left inner) (take n rows)) (sym one) in
    let fewer : new_gap ≡ missing (take at inner) (take k rows) = omega arith in
    let first : drop k rows ≡ row ∷ drop (k + 1) rows = drop_more rows k 0 (omega arith) in
    let first_word : drop k row_words ≡ get_or row_words k 0 ∷ drop (k + 1) row_words = drop_more row_words k 0 (omega arith) in
    let put : HasPut (entries_down (drop (k + 1) rows) (drop (k + 1) row_words)) (entries_down old old_words) (entries_down (around left gap inner) (around left gap words)) = rw one h.put in
    record {
      high = omega arith;
      lengths = omega arith;
      inside = omega arith;
      gap_is = fewer ∙ ap (λ xs. missing xs (take k rows)) (sym kept);
      above = λ m less.
          let rises : get_or rows m 0 < row = rising m k 0 less (omega arith) in
          All-weaker (λ x. row ≤ x) (λ x. get_or rows m 0 < x) (λ x le. omega arith) (drop (at + new_gap) new_inner) above;
      put = rw (first, first_word) (put_more (entry_at row 0 (get_or row_words k 0)) (entries_down (drop (k + 1) rows) (drop (k + 1) row_words)) (entries_down old old_words) (entries_down (around left gap inner) (around left gap words)) (entries_down (around at new_gap new_inner) (around at new_gap new_words)) put set);
    }

pub merge_end : (old old_words rows row_words : List ℕ) (left gap : ℕ) (inner words : List ℕ)
    → IsMergedFrom old old_words rows row_words left gap 0 inner words
    → HasPut (entries_down rows row_words) (entries_down old old_words) (entries_down inner words)
merge_end old old_words rows row_words left gap inner words h =
    let none : gap ≡ 0 = h.gap_is in
    rw (none, around_whole left inner, around_whole left words) at h.put

-- ---- the column that they are put into

pub some_rows : (xs ys : List ℕ) → 0 < length ys → 0 < length xs + missing xs ys
some_rows [] [] some = absurd (omega arith)
some_rows [] (y ∷ ys) some =
    let long : missing [] (y ∷ ys) ≡ suc (length (filter (λ y. not (has [] y)) ys)) = sym (length-filter (λ y. not (has [] y)) (y ∷ ys)) in omega arith
some_rows (x ∷ xs) ys some = omega arith

-- ---- the rows of which there are none yet

at_most_one : (b : Bool) → cond b 0 1 ≤ 1
at_most_one true = omega arith
at_most_one false = omega arith

-- so many of the rows from a place on aren't in a list, and those before it aren't behind what is left of the list
pub record AreCounted (xs rows : List ℕ) (left k count : ℕ) : Type 0 where
  pub low : left ≤ length xs
  pub high : k ≤ length rows
  pub few : count + k ≤ length rows
  pub count_is : missing xs rows ≡ missing (take left xs) (take k rows) + count

pub count_step : (xs rows : List ℕ) (left k j count at more : ℕ) → AllPairs (λ x y. x < y) rows
    → AreCounted xs rows left j count → k + 1 ≡ j → at ≤ left
    → All (λ x. get_or rows k 0 ≤ x) (drop at (take left xs)) → cond (has (take left xs) (get_or rows k 0)) 0 1 ≡ more
    → AreCounted xs rows at k (count + more)
count_step xs rows left k j count at more rising h one low behind is =
    let high = h.high in
    let inside = h.low in
    let few = h.few in
    let step = missing_step xs rows left at k (omega arith) rising low behind in
    let before : missing xs rows ≡ missing (take left xs) (take (k + 1) rows) + count = h.count_is ∙ ap (λ n. missing (take left xs) (take n rows) + count) (sym one) in
    let little : cond (has (take left xs) (get_or rows k 0)) 0 1 ≤ 1 = at_most_one (has (take left xs) (get_or rows k 0)) in
    record { low = omega arith; high = omega arith; few = omega arith; count_is = omega arith }
