-- Entries that pass a test, fiber by fiber.
use Rattle.std.proofs.Common.{◌≡◌, ℕ, suc, ◌+◌, ◌-◌, ◌<◌, ◌≤◌, cond, eqb, Bool, true, false, List, [], ◌∷◌, ◌++◌, length, get_or, take, drop, refl, sym, ◌∙◌, ap, subst, arith, append_assoc, length-drop}
use Rattle.std.specs.Prelude.{slice_range}
use Rattle.std.specs.List.{All, AllPairs, filter}
use Rattle.std.proofs.lemmas.List.{append-nil, drop-drop, drop_all, drop_more}
use Rattle.std.proofs.lemmas.List.Elements.{All-nil, All-cons, All-head, All-tail, All-weaker, filter-append}
use Rattle.model.specs.declared.entry.Entry.{Entry}
use Rattle.model.specs.Entries.{InOrder, Precedes, entry_at}
use Rattle.store.specs.declared.lists.FiberEnd.{FiberEnd}
use Rattle.store.specs.Fibers.{AreFlat, end_at, entries_along, entries_from, last_end, outers}
use Rattle.store.proofs.CloseLaws.{close_fiber, closed}
use Rattle.store.proofs.FlatLaws.{flat_none}
use Rattle.store.proofs.Order.{all_pairs_cons, all_pairs_head, all_pairs_left, all_pairs_nil, all_pairs_right, all_pairs_tail}
use Rattle.store.proofs.Walks.{cols_rise}
use Rattle.elementwise.specs.Kept.{kept_indices, kept_words}
use Rattle.elementwise.proofs.Filled.{AreFilled, is_first}

-- ---- one fiber

all_kept : (P : ℕ → Type 0) (test : ℕ → ℕ → Bool) (cs ws : List ℕ) → All P cs → All P (kept_indices test cs ws)
unfolding kept_indices
all_kept P test [] ws h = All-nil P
all_kept P test (c ∷ cs) [] h = All-nil P
all_kept P test (c ∷ cs) (w ∷ ws) h =
    let rest = all_kept P test cs ws (All-tail P c cs h) in
    elim (test c w) as (λ b. All P (cond b (c ∷ kept_indices test cs ws) (kept_indices test cs ws))) [
      | true ↦ All-cons P c (kept_indices test cs ws) (All-head P c cs h) rest
      | false ↦ rest
    ]

kept_rise : (test : ℕ → ℕ → Bool) (cs ws : List ℕ) → AllPairs (λ a b. a < b) cs
    → AllPairs (λ a b. a < b) (kept_indices test cs ws)
unfolding kept_indices
kept_rise test [] ws h = all_pairs_nil (λ a b. a < b)
kept_rise test (c ∷ cs) [] h = all_pairs_nil (λ a b. a < b)
kept_rise test (c ∷ cs) (w ∷ ws) h =
    let rest = kept_rise test cs ws (all_pairs_tail (λ a b. a < b) c cs h) in
    elim (test c w) as (λ b. AllPairs (λ a b. a < b) (cond b (c ∷ kept_indices test cs ws) (kept_indices test cs ws))) [
      | true ↦ all_pairs_cons (λ a b. a < b) c (kept_indices test cs ws) (all_kept (λ b. c < b) test cs ws (all_pairs_head (λ a b. a < b) c cs h)) rest
      | false ↦ rest
    ]

kept_long : (test : ℕ → ℕ → Bool) (cs ws : List ℕ) → length (kept_words test cs ws) ≡ length (kept_indices test cs ws)
unfolding kept_indices kept_words
kept_long test [] ws = refl
kept_long test (c ∷ cs) [] = refl
kept_long test (c ∷ cs) (w ∷ ws) = elim (test c w) as (λ b. length (cond b (w ∷ kept_words test cs ws) (kept_words test cs ws)) ≡ length (cond b (c ∷ kept_indices test cs ws) (kept_indices test cs ws))) [
  | true ↦ ap suc (kept_long test cs ws)
  | false ↦ kept_long test cs ws
]

kept_along : (test : ℕ → ℕ → ℕ → Bool) (o : ℕ) (cs ws : List ℕ)
    → entries_along o (kept_indices (test o) cs ws) (kept_words (test o) cs ws) ≡ filter (λ e. test e.row e.col e.word)
    (entries_along o cs ws)
unfolding kept_indices kept_words
kept_along test o [] ws = refl
kept_along test o (c ∷ cs) [] = refl
kept_along test o (c ∷ cs) (w ∷ ws) =
    let rest = kept_along test o cs ws in
    elim (test o c w) as (λ b. entries_along o (cond b (c ∷ kept_indices (test o) cs ws) (kept_indices (test o) cs ws)) (cond b (w ∷ kept_words (test o) cs ws) (kept_words (test o) cs ws))
    ≡ cond b (entry_at o c w ∷ filter (λ e. test e.row e.col e.word) (entries_along o cs ws)) (filter (λ e. test e.row e.col e.word) (entries_along o cs ws))) [
      | true ↦ ap (λ es. entry_at o c w ∷ es) rest
      | false ↦ rest
    ]

-- ---- fiber by fiber

-- the first fibers are done, of which what passes lies in lists; start is where they end
pub record ArePassing (test : ℕ → ℕ → ℕ → Bool) (from : ℕ) (ends : List FiberEnd) (inner words : List ℕ) (to : List FiberEnd) (to_inner to_words : List ℕ) (at start : ℕ) : Type 0 where
  pub left : AreFilled (from + start) (drop at ends) (drop start inner) (drop start words)
  pub order : InOrder (entries_from (from + start) (drop at ends) (drop start inner) (drop start words))
  pub flat : AreFlat to to_inner to_words
  pub below : All (λ r. All (λ q. r.outer < q.outer) (drop at ends)) to
  pub entries : entries_from 0 to to_inner to_words ++ filter (λ e. test e.row e.col e.word)
      (entries_from (from + start) (drop at ends) (drop start inner) (drop start words))
      ≡ filter (λ e. test e.row e.col e.word) (entries_from from ends inner words)

pub passing_none : (test : ℕ → ℕ → ℕ → Bool) (from : ℕ) (ends : List FiberEnd) (inner words : List ℕ)
    → AreFilled from ends inner words → InOrder (entries_from from ends inner words)
    → ArePassing test from ends inner words [] [] [] 0 0
unfolding outers
passing_none test from ends inner words filled order =
    let same : from + 0 ≡ from = omega arith in
    record {
      left = rw same filled;
      order = rw same order;
      flat = flat_none;
      below = All-nil (λ (r : FiberEnd). All (λ (q : FiberEnd). r.outer < q.outer) ends);
      entries = rw same refl;
    }

-- where the next fiber ends
pub record IsNextPart (from start end count : ℕ) : Type 0 where
  pub low : from ≤ end
  pub rises : start ≤ end - from
  pub inside : end - from ≤ count

split_at : (ends : List FiberEnd) (at : ℕ) (r : FiberEnd) → at < length ends → r ≡ get_or ends at r
    → drop at ends ≡ r ∷ drop (at + 1) ends
split_at ends at r within is = drop_more ends at r within ∙ ap (λ (q : FiberEnd). q ∷ drop (at + 1) ends) (sym is)

pub next_part : (test : ℕ → ℕ → ℕ → Bool) (from : ℕ) (ends : List FiberEnd) (inner words : List ℕ) (to : List FiberEnd)
    (to_inner to_words : List ℕ) (at start : ℕ) (r : FiberEnd)
    → ArePassing test from ends inner words to to_inner to_words at start → start ≤ length inner → at < length ends
    → r ≡ get_or ends at r → IsNextPart from start r.end (length inner)
next_part test from ends inner words to to_inner to_words at start r h room within is =
    let filled : AreFilled (from + start) (r ∷ drop (at + 1) ends) (drop start inner) (drop start words) = rw (split_at ends at r within is) at h.left in
    let f = is_first (from + start) r (drop (at + 1) ends) (drop start inner) (drop start words) filled in
    let end = f.room.0 in
    let count = f.room.1 in
    let behind = length-drop start inner in
    record { low = omega arith; rises = omega arith; inside = omega arith }

pub passing_more : (test : ℕ → ℕ → ℕ → Bool) (from : ℕ) (ends : List FiberEnd) (inner words : List ℕ)
    (to : List FiberEnd) (to_inner to_words : List ℕ) (at start : ℕ) (r : FiberEnd) (next : List FiberEnd)
    (next_inner next_words : List ℕ)
    → ArePassing test from ends inner words to to_inner to_words at start → start ≤ length inner → at < length ends
    → r ≡ get_or ends at r
    → next_inner ≡ to_inner ++ kept_indices (test r.outer) (slice_range inner start (r.end - from))
    (slice_range words start (r.end - from))
    → next_words ≡ to_words ++ kept_words (test r.outer) (slice_range inner start (r.end - from))
    (slice_range words start (r.end - from))
    → next ≡ cond (eqb (length to_inner) (length next_inner)) to (to ++ end_at r.outer (length next_inner) ∷ [])
    → ArePassing test from ends inner words next next_inner next_words (at + 1) (r.end - from)
passing_more test from ends inner words to to_inner to_words at start r next next_inner next_words h room within is inner_is words_is next_is =
    let rest = drop (at + 1) ends in
    let split = split_at ends at r within is in
    let filled : AreFilled (from + start) (r ∷ rest) (drop start inner) (drop start words) = rw split at h.left in
    let order : InOrder (entries_from (from + start) (r ∷ rest) (drop start inner) (drop start words)) = rw split at h.order in
    let below : All (λ q. All (λ s. q.outer < s.outer) (r ∷ rest)) to = rw split at h.below in
    let f = is_first (from + start) r rest (drop start inner) (drop start words) filled in
    let np = next_part test from ends inner words to to_inner to_words at start r h room within is in
    let low = np.low in
    let up = np.rises in
    let n = r.end - (from + start) in
    let cs = take n (drop start inner) in
    let ws = take n (drop start words) in
    let count : r.end - from - start ≡ n = omega arith in
    let end : from + (r.end - from) ≡ r.end = omega arith in
    let past : start + n ≡ r.end - from = omega arith in
    let behind : (xs : List ℕ) → drop n (drop start xs) ≡ drop (r.end - from) xs = λ xs. drop-drop n start xs ∙ ap (λ k. drop k xs) past in
    let p = λ (e : Entry). test e.row e.col e.word in
    let left_over = entries_from r.end rest (drop n (drop start inner)) (drop n (drop start words)) in
    let in_parts : InOrder (entries_along r.outer cs ws ++ left_over) = subst InOrder f.parts order in
    let rising = cols_rise r.outer cs ws f.lengths (all_pairs_left Precedes (entries_along r.outer cs ws) left_over in_parts) in
    let ks = kept_indices (test r.outer) cs ws in
    let vs = kept_words (test r.outer) cs ws in
    let inner_is' : next_inner ≡ to_inner ++ ks = inner_is ∙ ap (λ k. to_inner ++ kept_indices (test r.outer) (take k (drop start inner)) (take k (drop start words))) count in
    let words_is' : next_words ≡ to_words ++ vs = words_is ∙ ap (λ k. to_words ++ kept_words (test r.outer) (take k (drop start inner)) (take k (drop start words))) count in
    let whole = h.flat.whole in
    let last : last_end 0 to ≡ length to_inner = omega arith in
    let next_is' : next ≡ closed to r.outer (length (to_inner ++ ks)) = rw last (next_is ∙ ap (λ xs. cond (eqb (length to_inner) (length xs)) to (to ++ end_at r.outer (length xs) ∷ [])) inner_is') in
    let one = close_fiber to to_inner to_words r.outer ks vs h.flat (All-weaker (λ (q : FiberEnd). All (λ (s : FiberEnd). q.outer < s.outer) (r ∷ rest)) (λ q. q.outer < r.outer) (λ q all. All-head (λ (s : FiberEnd). q.outer < s.outer) r rest all) to below) (kept_long (test r.outer) cs ws) (kept_rise (test r.outer) cs ws rising) in
    record {
      left = rw (end, ← behind inner, ← behind words) f.rest;
      order = rw (end, ← behind inner, ← behind words) (all_pairs_right Precedes (entries_along r.outer cs ws) left_over in_parts);
      flat = rw (next_is', inner_is', words_is') one.flat;
      below = rw next_is' (one.outers_are (λ o. All (λ (s : FiberEnd). o < s.outer) rest)
          (All-weaker (λ (q : FiberEnd). All (λ (s : FiberEnd). q.outer < s.outer) (r ∷ rest)) (λ q. All (λ (s : FiberEnd). q.outer < s.outer) rest) (λ q all. All-tail (λ (s : FiberEnd). q.outer < s.outer) r rest all) to below)
          (all_pairs_head (λ (q s : FiberEnd). q.outer < s.outer) r rest filled.apart));
      entries =
          rw (next_is', inner_is', words_is', end, ← behind inner, ← behind words)
          (ap (λ es. es ++ filter p left_over) (one.entries ∙ ap (λ es. entries_from 0 to to_inner to_words ++ es) (kept_along test r.outer cs ws))
          ∙ append_assoc (entries_from 0 to to_inner to_words) (filter p (entries_along r.outer cs ws)) (filter p left_over)
          ∙ ap (λ es. entries_from 0 to to_inner to_words ++ es) (sym (filter-append p (entries_along r.outer cs ws) left_over) ∙ ap (filter p) (sym f.parts) ∙ ap (λ es. filter p (entries_from (from + start) es (drop start inner) (drop start words))) (sym split))
          ∙ h.entries);
    }

pub passing_all : (test : ℕ → ℕ → ℕ → Bool) (from : ℕ) (ends : List FiberEnd) (inner words : List ℕ)
    (to : List FiberEnd) (to_inner to_words : List ℕ) (at start : ℕ)
    → ArePassing test from ends inner words to to_inner to_words at start → length ends ≤ at
    → entries_from 0 to to_inner to_words ≡ filter (λ e. test e.row e.col e.word) (entries_from from ends inner words)
unfolding outers
passing_all test from ends inner words to to_inner to_words at start h all =
    let p = λ (e : Entry). test e.row e.col e.word in
    let none : filter p (entries_from (from + start) (drop at ends) (drop start inner) (drop start words)) ≡ [] = ap (λ es. filter p (entries_from (from + start) es (drop start inner) (drop start words))) (drop_all at ends all) in
    sym (append-nil (entries_from 0 to to_inner to_words)) ∙ ap (λ es. entries_from 0 to to_inner to_words ++ es) (sym none) ∙ h.entries
