-- What a mask keeps of fibers, one fiber after another, in the same lists.
use Rattle.std.proofs.Common.{◌≡◌, ℕ, ◌+◌, ◌-◌, ◌<◌, ◌≤◌, Bool, true, false, eqb, ltb, List, [], ◌∷◌, ◌++◌, length, get_or, set, take, drop, refl, sym, ◌∙◌, ap, subst, inl, inr, arith, append_assoc, length-append, length-take, length-drop}
use Rattle.std.specs.List.{All, AllPairs, filter}
use borrow.Rule.Slice.PartMut.{put_mid}
use Rattle.std.proofs.lemmas.Bool.{cases_eq, eq-eqb, ne_eqb}
use Rattle.std.proofs.lemmas.Bool.Decides.{nat_tests}
use Rattle.std.proofs.lemmas.List.{append-nil, drop-drop, drop-set-lt, drop-take, drop_all, drop_more, get_or-drop, get_or-set_other, length-set, take-set-le, take_more_set}
use Rattle.std.proofs.lemmas.List.Elements.{All-head, All-nil, All-tail, All-weaker, filter-append}
use Rattle.std.proofs.lemmas.Slice.{drop-put_mid}
use Rattle.model.specs.declared.entry.Entry.{Entry}
use Rattle.model.specs.Entries.{InOrder, Precedes, word_at}
use Rattle.store.specs.declared.lists.FiberEnd.{FiberEnd}
use Rattle.store.specs.Fibers.{AreFlat, AreFrom, Rises, end_at, entries_along, entries_from, last_end, outers}
use Rattle.store.proofs.CloseLaws.{close_fiber, closed}
use Rattle.store.proofs.Contents.{no_entries}
use Rattle.store.proofs.FlatLaws.{all_rows, flat_none, rises_le, row_in_order}
use Rattle.store.proofs.Order.{all_pairs_filter, all_pairs_head}
use Rattle.store.proofs.RangeLaws.{from_left, in_parts}
use Rattle.store.proofs.Walks.{cols_rise, step_next}
use Rattle.masks.specs.declared.view.MaskTest.{MaskTest}
use Rattle.masks.specs.Keeps.{kept_by}
use Rattle.masks.specs.Masks.{lets_word}
use Rattle.masks.proofs.FiberMerges.{length_put, put_take}

-- so many fibers and entries are kept, of those before the fiber at; those from there on are as they were
pub record IsKeeping (mask : MaskTest) (stored all rest : List Entry) (ends : List FiberEnd) (inner words : List ℕ) (at fibers kept start : ℕ) : Type 0 where
  pub fewer_fibers : fibers ≤ at
  pub fewer : kept ≤ start
  pub in_ends : at ≤ length ends
  pub in_inner : start ≤ length inner
  pub words_long : length words ≡ length inner
  pub left : AreFrom start (drop at ends) (drop start inner) (drop start words)
  pub done : AreFlat (take fibers ends) (take kept inner) (take kept words)
  pub before : All (λ r. All (λ s. r.outer < s.outer) (drop at ends)) (take fibers ends)
  pub whole : kept_by mask stored all ≡ entries_from 0 (take fibers ends) (take kept inner)
      (take kept words) ++ kept_by mask stored (entries_from start (drop at ends) (drop start inner) (drop start words))
  pub masked : (i j : ℕ) → at < length ends → (get_or ends at (end_at 0 0)).outer ≤ i
      → word_at rest i j ≡ word_at stored i j

pub keeping_none : (mask : MaskTest) (stored : List Entry) (ends : List FiberEnd) (inner words : List ℕ)
    → AreFlat ends inner words
    → IsKeeping mask stored (entries_from 0 ends inner words) stored ends inner words 0 0 0 0
unfolding outers
keeping_none mask stored ends inner words flat = record {
  fewer_fibers = omega arith;
  fewer = omega arith;
  in_ends = omega arith;
  in_inner = omega arith;
  words_long = flat.same_length;
  left = flat;
  done = flat_none;
  before = All-nil (λ (r : FiberEnd). All (λ (s : FiberEnd). r.outer < s.outer) ends);
  whole = refl;
  masked = λ i j within low. refl;
}

-- where the next fiber ends
pub record IsNext (ends : List FiberEnd) (inner : List ℕ) (at start outer end : ℕ) : Type 0 where
  pub first : drop at ends ≡ end_at outer end ∷ drop (at + 1) ends
  pub some : start < end
  pub inside : end ≤ length inner

pub next_fiber : (mask : MaskTest) (stored all rest : List Entry) (ends : List FiberEnd) (inner words : List ℕ)
    (at fibers kept start outer end : ℕ) → IsKeeping mask stored all rest ends inner words at fibers kept start
    → at < length ends → get_or ends at (end_at 0 0) ≡ end_at outer end → IsNext ends inner at start outer end
unfolding Rises last_end
next_fiber mask stored all rest ends inner words at fibers kept start outer end here within is =
    let first : drop at ends ≡ end_at outer end ∷ drop (at + 1) ends = rw is at (drop_more ends at (end_at 0 0) within) in
    let flat : AreFrom start (end_at outer end ∷ drop (at + 1) ends) (drop start inner) (drop start words) = rw first at here.left in
    let rises = flat.rises in
    let whole = flat.whole in
    let up = rises_le end (drop (at + 1) ends) rises.1 in
    let in_inner = here.in_inner in
    record { first = first; some = rises.0; inside = omega (arith, length-drop start inner) }

-- the fiber's entries as they lie in the part that is lent
pub lent_part : (kept start end : ℕ) (xs : List ℕ) → kept ≤ start → start ≤ end
    → drop (start - kept) (take (end - kept) (drop kept xs)) ≡ take (end - start) (drop start xs)
lent_part kept start end xs low high =
    let whole : (start - kept) + (end - start) ≡ end - kept = omega arith in
    let on : kept + (start - kept) ≡ start = omega arith in
    ap (λ n. drop (start - kept) (take n (drop kept xs))) (sym whole) ∙ drop-take (start - kept) (end - start) (drop kept xs) ∙ ap (take (end - start)) (drop-drop (start - kept) kept xs ∙ ap (λ k. drop k xs) on)

step_le : (number : Bool → ℕ) (b : Bool) → number true ≡ 1 → number false ≡ 0 → number b ≤ 1
step_le number true one none = omega arith
step_le number false one none = omega arith

-- the next fiber's indices rise
pub next_rises : (mask : MaskTest) (stored all rest : List Entry) (ends : List FiberEnd) (inner words : List ℕ)
    (at fibers kept start outer end : ℕ) → IsKeeping mask stored all rest ends inner words at fibers kept start
    → IsNext ends inner at start outer end → AllPairs (λ a b. a < b) (take (end - start) (drop start inner))
next_rises mask stored all rest ends inner words at fibers kept start outer end here next =
    let flat : AreFrom start (end_at outer end ∷ drop (at + 1) ends) (drop start inner) (drop start words) = rw next.first at here.left in
    let some = next.some in
    let inside = next.inside in
    (step_next start (end_at outer end) (drop (at + 1) ends) (drop start inner) (drop start words) (from_left start (end_at outer end) (drop (at + 1) ends) (drop start inner) (drop start words) flat) (omega (arith, length-drop start inner))).rising

filter_same : {X : Type 0} (p q : X → Bool) (xs : List X) → All (λ x. p x ≡ q x) xs → filter p xs ≡ filter q xs
filter_same p q [] same = refl
filter_same p q (x ∷ xs) same = rw (All-head (λ x. p x ≡ q x) x xs same, filter_same p q xs (All-tail (λ x. p x ≡ q x) x xs same)) refl

-- the first places of the ends, after the next one was written
pub ends_more : (ends : List FiberEnd) (fibers kept count outer step : ℕ) (number : Bool → ℕ) → fibers < length ends
    → last_end 0 (take fibers ends) ≡ kept → step ≡ number (ltb 0 count) → number true ≡ 1 → number false ≡ 0
    → take (fibers + step)
    (set ends fibers (end_at outer (kept + count))) ≡ closed (take fibers ends) outer (kept + count)
ends_more ends fibers kept count outer step number room last stepped one none =
    let r = end_at outer (kept + count) in
    elim (cases_eq count 0) [
      | inl empty ↦
          let test : ltb 0 count ≡ false = grind (arith, nat_tests) in
          let still : fibers + step ≡ fibers = let by : step ≡ 0 = stepped ∙ ap number test ∙ none in omega arith in
          let same : eqb (last_end 0 (take fibers ends)) (kept + count) ≡ true = eq-eqb (last_end 0 (take fibers ends)) (kept + count) (omega arith) in
          rw (still, same) (take-set-le fibers ends fibers r (omega arith))
      | inr some ↦
          let test : ltb 0 count ≡ true = grind (arith, nat_tests) in
          let by : step ≡ 1 = stepped ∙ ap number test ∙ one in
          let other : eqb (last_end 0 (take fibers ends)) (kept + count) ≡ false = ne_eqb (last_end 0 (take fibers ends)) (kept + count) (λ same. absurd (omega arith)) in
          rw (by, other) (take_more_set ends fibers r room)
    ]

pub keeping_more : (mask : MaskTest) (stored all rest rest' : List Entry) (ends : List FiberEnd) (inner words : List ℕ)
    (at fibers kept start outer end count step : ℕ) (mi mw part part_words : List ℕ) (number : Bool → ℕ)
    → IsKeeping mask stored all rest ends inner words at fibers kept start → at < length ends
    → get_or ends at (end_at 0 0) ≡ end_at outer end
    → ((j : ℕ) → word_at (entries_along outer mi mw) outer j ≡ word_at rest outer j)
    → ((i j : ℕ) → outer < i → word_at rest' i j ≡ word_at rest i j)
    → count ≤ (end - kept) - (start - kept) → length part ≡ end - kept → length part_words ≡ end - kept
    → ((o : ℕ) → entries_along o (take count part) (take count part_words) ≡ kept_by mask (entries_along o mi mw) (entries_along o (drop (start - kept) (take (end - kept) (drop kept inner))) (drop (start - kept) (take (end - kept) (drop kept words)))))
    → step ≡ number (ltb 0 count) → number true ≡ 1 → number false ≡ 0
    → IsKeeping mask stored all rest' (set ends fibers (end_at outer (kept + count)))
    (put_mid kept (end - kept) inner part) (put_mid kept (end - kept) words part_words) (at + 1) (fibers + step)
    (kept + count) end
unfolding Rises last_end
keeping_more mask stored all rest rest' ends inner words at fibers kept start outer end count step mi mw part part_words number here within is at_outer behind few long long_words made stepped one none =
    let next = next_fiber mask stored all rest ends inner words at fibers kept start outer end here within is in
    let some = next.some in
    let inside = next.inside in
    let fewer = here.fewer in
    let fewer_fibers = here.fewer_fibers in
    let in_inner = here.in_inner in
    let words_long = here.words_long in
    let r = end_at outer end in
    let others = drop (at + 1) ends in
    let n = end - start in
    let I = drop start inner in
    let W = drop start words in
    let size_I = length-drop start inner in
    let size_W = length-drop start words in
    let flat : AreFrom start (r ∷ others) I W = rw next.first at here.left in
    let stepping = step_next start r others I W (from_left start r others I W flat) (omega arith) in
    let parts = in_parts start (r ∷ []) others I W flat in
    let xs = take n I in
    let ys = take n W in
    let size_xs = length-take n I in
    let size_ys = length-take n W in
    let cs = take count part in
    let ws = take count part_words in
    let size_cs = length-take count part in
    let size_ws = length-take count part_words in
    let on : start + n ≡ end = omega arith in
    let tail_inner : drop n I ≡ drop end inner = drop-drop n start inner ∙ ap (λ k. drop k inner) on in
    let tail_words : drop n W ≡ drop end words = drop-drop n start words ∙ ap (λ k. drop k words) on in
    let fiber : entries_along outer cs ws ≡ kept_by mask (entries_along outer mi mw) (entries_along outer xs ys) = rw (lent_part kept start end inner fewer (omega arith), lent_part kept start end words fewer (omega arith)) at (made outer) in
    let tests : kept_by mask (entries_along outer mi mw) (entries_along outer xs ys) ≡ kept_by mask stored (entries_along outer xs ys) =
    filter_same (λ e. lets_word mask (word_at (entries_along outer mi mw) e.row e.col)) (λ e. lets_word mask (word_at stored e.row e.col)) (entries_along outer xs ys)
    (All-weaker (λ (e : Entry). e.row ≡ outer) (λ (e : Entry). lets_word mask (word_at (entries_along outer mi mw) e.row e.col) ≡ lets_word mask (word_at stored e.row e.col))
    (λ e row. ap (lets_word mask) (ap (λ i. word_at (entries_along outer mi mw) i e.col) row ∙ at_outer e.col ∙ here.masked outer e.col within (rw is (omega arith)) ∙ ap (λ i. word_at stored i e.col) (sym row)))
    (entries_along outer xs ys) (all_rows outer xs ys)) in
    let rising : AllPairs (λ a b. a < b) cs = cols_rise outer cs ws (omega arith) (subst InOrder (sym fiber) (all_pairs_filter Precedes (λ e. lets_word mask (word_at (entries_along outer mi mw) e.row e.col)) (entries_along outer xs ys) (row_in_order outer xs ys stepping.rising))) in
    let ahead : All (λ (q : FiberEnd). All (λ (s : FiberEnd). q.outer < s.outer) (r ∷ others)) (take fibers ends) = rw next.first at here.before in
    let below : All (λ (q : FiberEnd). q.outer < outer) (take fibers ends) = All-weaker (λ (q : FiberEnd). All (λ (s : FiberEnd). q.outer < s.outer) (r ∷ others)) (λ (q : FiberEnd). q.outer < outer) (λ q all. All-head (λ (s : FiberEnd). q.outer < s.outer) r others all) (take fibers ends) ahead in
    let close = close_fiber (take fibers ends) (take kept inner) (take kept words) outer cs ws here.done below (omega arith) rising in
    let size_front = length-take kept inner in
    let size : length (take kept inner ++ cs) ≡ kept + count = omega (arith, length-append (take kept inner) cs) in
    let last : last_end 0 (take fibers ends) ≡ kept = let whole = here.done.whole in omega arith in
    let new_ends : take (fibers + step) (set ends fibers (end_at outer (kept + count))) ≡ closed (take fibers ends) outer (length (take kept inner ++ cs)) = rw size (ends_more ends fibers kept count outer step number (omega arith) last stepped one none) in
    let new_inner : take (kept + count) (put_mid kept (end - kept) inner part) ≡ take kept inner ++ cs = put_take kept (end - kept) count inner part (omega arith) (omega arith) in
    let new_words : take (kept + count) (put_mid kept (end - kept) words part_words) ≡ take kept words ++ ws = put_take kept (end - kept) count words part_words (omega arith) (omega arith) in
    let left_ends : drop (at + 1) (set ends fibers (end_at outer (kept + count))) ≡ others = drop-set-lt (at + 1) ends fibers (end_at outer (kept + count)) (omega arith) in
    let left_inner : drop end (put_mid kept (end - kept) inner part) ≡ drop end inner = drop-put_mid kept (end - kept) inner part end (omega arith) (omega arith) long in
    let left_words : drop end (put_mid kept (end - kept) words part_words) ≡ drop end words = drop-put_mid kept (end - kept) words part_words end (omega arith) (omega arith) long_words in
    let E = entries_from 0 (take fibers ends) (take kept inner) (take kept words) in
    let F = entries_along outer xs ys in
    let L = entries_from end others (drop end inner) (drop end words) in
    let keep : List Entry → List Entry = kept_by mask stored in
    let split : entries_from start (drop at ends) I W ≡ F ++ L = ap (λ es. entries_from start es I W) next.first ∙ stepping.whole ∙ rw (tail_inner, tail_words) refl in
    let right : AreFrom end others (drop end inner) (drop end words) = rw (tail_inner, tail_words) at parts.right in
    let entries : entries_from 0 (take (fibers + step) (set ends fibers (end_at outer (kept + count)))) (take (kept + count) (put_mid kept (end - kept) inner part)) (take (kept + count) (put_mid kept (end - kept) words part_words)) ≡ E ++ entries_along outer cs ws =
    rw (new_ends, new_inner, new_words) close.entries in
    let one_step : step ≤ 1 = rw stepped (step_le number (ltb 0 count) one none) in
    let apart : All (λ (s : FiberEnd). outer < s.outer) others = all_pairs_head (λ (q s : FiberEnd). q.outer < s.outer) r others flat.apart in
    let same_inner = length_put kept (end - kept) inner part (omega arith) long in
    let same_words = length_put kept (end - kept) words part_words (omega arith) long_words in
    let same_ends = length-set ends fibers (end_at outer (kept + count)) in
    record {
      fewer_fibers = omega arith;
      fewer = omega arith;
      in_ends = omega arith;
      in_inner = omega arith;
      words_long = omega arith;
      left = rw (left_ends, left_inner, left_words) right;
      done = rw (new_ends, new_inner, new_words) close.flat;
      before = rw (new_ends, left_ends) (close.outers_are (λ o. All (λ (s : FiberEnd). o < s.outer) others)
          (All-weaker (λ (q : FiberEnd). All (λ (s : FiberEnd). q.outer < s.outer) (r ∷ others)) (λ (q : FiberEnd). All (λ (s : FiberEnd). q.outer < s.outer) others) (λ q all. All-tail (λ (s : FiberEnd). q.outer < s.outer) r others all) (take fibers ends) ahead) apart);
      whole =
          here.whole ∙ ap (λ es. E ++ keep es) split ∙ ap (λ es. E ++ es) (filter-append (λ e. lets_word mask (word_at stored e.row e.col)) F L) ∙ sym (append_assoc E (keep F) (keep L))
          ∙ ap (λ es. (E ++ es) ++ keep L) (sym tests ∙ sym fiber) ∙ ap (λ es. es ++ keep L) (sym entries)
          ∙ rw (left_ends, left_inner, left_words) refl;
      masked = λ i j more low.
          let room : at + 1 < length ends = omega arith in
          let d = end_at 0 0 in
          let there : get_or (set ends fibers (end_at outer (kept + count))) (at + 1) d ≡ get_or ends (at + 1) d = get_or-set_other ends fibers (at + 1) (end_at outer (kept + count)) d (λ same. absurd (omega arith)) in
          let low' : (get_or ends (at + 1) d).outer ≤ i = rw there at low in
          let first : get_or others 0 d ≡ get_or ends (at + 1) d = get_or-drop (at + 1) ends 0 d ∙ ap (λ k. get_or ends k d) (omega arith) in
          let later : outer < (get_or ends (at + 1) d).outer = rw first at (apart 0 d (omega (arith, length-drop (at + 1) ends))) in
          behind i j (omega arith) ∙ here.masked i j within (rw is (omega arith));
    }

-- all fibers are done
pub keeping_all : (mask : MaskTest) (stored all rest : List Entry) (ends : List FiberEnd) (inner words : List ℕ)
    (at fibers kept start : ℕ) → IsKeeping mask stored all rest ends inner words at fibers kept start
    → length ends ≤ at
    → entries_from 0 (take fibers ends) (take kept inner) (take kept words) ≡ kept_by mask stored all
keeping_all mask stored all rest ends inner words at fibers kept start here over =
    let done : drop at ends ≡ [] = drop_all at ends over in
    let none = no_entries start (drop at ends) (drop start inner) (drop start words) done in
    sym (here.whole ∙ ap (λ es. entries_from 0 (take fibers ends) (take kept inner) (take kept words) ++ kept_by mask stored es) none ∙ append-nil (entries_from 0 (take fibers ends) (take kept inner) (take kept words)))
