-- A fiber beside that of a mask's store: one step after another.
use Rattle.std.proofs.Common.{◌≡◌, ◌≢◌, ℕ, ◌+◌, ◌<◌, ◌≤◌, Bool, true, false, not, cond, eqb, leb, List, [], ◌∷◌, ◌++◌, length, get_or, set, take, drop, Some, None, refl, sym, ◌∙◌, ap, inl, inr, arith, length-drop}
use Rattle.std.specs.List.{All, AllPairs}
use Rattle.std.proofs.lemmas.Bool.{cases_eq, cases_order, eq-eqb, ne_eqb}
use Rattle.std.proofs.lemmas.Bool.Decides.{nat_tests}
use Rattle.std.proofs.lemmas.List.{append-nil, drop-set-lt, drop_all, drop_more, get_or-drop, get_or-set_other, length-set, set-get_or, take-set-le, take_more}
use Rattle.std.proofs.lemmas.List.Elements.{All-append, All-cons, All-nil, All-weaker}
use Rattle.model.specs.Entries.{word_at}
use Rattle.store.specs.Fibers.{entries_along}
use Rattle.store.proofs.Order.{all_pairs_tail}
use Rattle.masks.specs.declared.view.MaskTest.{MaskTest}
use Rattle.masks.specs.Keeps.{kept_by}
use Rattle.masks.specs.Masks.{lets_word}
use Rattle.masks.proofs.Keeps.{IsFirstFrom, keep_more, word_absent, word_found}

-- Of the entries from the place from on those before the place at are done, and so many of them were kept, at the
-- front; of the store's fiber, mi with the words mw, the indices before next are done.
pub record IsKept (mask : MaskTest) (all_inner all_words : List ℕ) (from : ℕ) (mi mw inner words : List ℕ) (kept at next : ℕ) : Type 0 where
  pub low : kept + from ≤ at
  pub within : at ≤ length inner
  pub inner_long : length inner ≡ length all_inner
  pub words_long : length words ≡ length all_inner
  pub bound : next ≤ length mi
  pub ahead : at < length inner → All (λ y. y < get_or inner at 0) (take next mi)
  pub rising : AllPairs (λ a b. a < b) (drop at inner)
  pub whole : (outer : ℕ) → kept_by mask (entries_along outer mi mw)
      (entries_along outer (drop from all_inner) (drop from all_words))
      ≡ entries_along outer (take kept inner) (take kept words) ++ kept_by mask (entries_along outer mi mw) (entries_along outer (drop at inner) (drop at words))

pub kept_none : (mask : MaskTest) (inner words : List ℕ) (from : ℕ) (mi mw : List ℕ) → from ≤ length inner
    → length words ≡ length inner → AllPairs (λ a b. a < b) (drop from inner)
    → IsKept mask inner words from mi mw inner words 0 from 0
kept_none mask inner words from mi mw room same rising = record {
  low = omega arith;
  within = room;
  inner_long = refl;
  words_long = same;
  bound = omega arith;
  ahead = λ some. All-nil (λ y. y < get_or inner from 0);
  rising = rising;
  whole = λ outer. refl;
}

one_le : (number : Bool → ℕ) (b : Bool) → number true ≡ 1 → number false ≡ 0 → number b ≤ 1
one_le number true one none = omega arith
one_le number false one none = omega arith

-- the entry at hand is done, and the mask's indices before next'
pub one_taken : (mask : MaskTest) (all_inner all_words : List ℕ) (from : ℕ) (mi mw inner words : List ℕ)
    (kept at next next' step : ℕ) (keep : Bool) (number : Bool → ℕ)
    → IsKept mask all_inner all_words from mi mw inner words kept at next → at < length inner → next' ≤ length mi
    → All (λ y. y ≤ get_or inner at 0) (take next' mi)
    → ((outer : ℕ) → lets_word mask (word_at (entries_along outer mi mw) outer (get_or inner at 0)) ≡ keep)
    → step ≡ number keep → number true ≡ 1 → number false ≡ 0
    → IsKept mask all_inner all_words from mi mw (set inner kept (get_or inner at 0))
    (set words kept (get_or words at 0)) (kept + step) (at + 1) next'
one_taken mask all_inner all_words from mi mw inner words kept at next next' step keep number here within bound before lets stepped one none =
    let x = get_or inner at 0 in
    let low = here.low in
    let long = here.inner_long in
    let long_words = here.words_long in
    let few : step ≤ 1 = rw stepped (one_le number keep one none) in
    let tail = drop-set-lt (at + 1) inner kept x (omega arith) in
    let size = length-set inner kept x in
    record {
      low = omega arith;
      within = omega arith;
      inner_long = size ∙ long;
      words_long = length-set words kept (get_or words at 0) ∙ long_words;
      bound = bound;
      ahead = λ more.
          let zero_on : at + 0 ≡ at = omega arith in
          let there : get_or (set inner kept x) (at + 1) 0 ≡ get_or inner (at + 1) 0 = get_or-set_other inner kept (at + 1) x 0 (λ same. absurd (omega arith)) in
          let two = here.rising 0 1 0 (omega arith) (omega (arith, length-drop at inner)) in
          let less : x < get_or inner (at + 1) 0 = rw (get_or-drop at inner 0 0, get_or-drop at inner 1 0, zero_on) at two in
          rw there (All-weaker (λ y. y ≤ x) (λ y. y < get_or inner (at + 1) 0) (λ y le. omega arith) (take next' mi) before);
      rising = rw tail (all_pairs_tail (λ a b. a < b) x (drop (at + 1) inner) (rw (drop_more inner at 0 within) at here.rising));
      whole = λ outer.
          keep_more (λ e. lets_word mask (word_at (entries_along outer mi mw) e.row e.col)) outer inner words kept at step keep number
          (kept_by mask (entries_along outer mi mw) (entries_along outer (drop from all_inner) (drop from all_words)))
          (omega arith) within (omega arith) (lets outer) stepped one none (here.whole outer);
    }

behind_set : (xs : List ℕ) (k at : ℕ) → k ≤ at → drop at (set xs k (get_or xs at 0)) ≡ drop at xs
behind_set xs k at low =
    elim (cases_eq k at) [
      | inl same ↦ rw (same, set-get_or xs at 0) refl
      | inr other ↦ drop-set-lt at xs k (get_or xs at 0) (omega arith)
    ]

there_set : (xs : List ℕ) (k at : ℕ) → get_or (set xs k (get_or xs at 0)) at 0 ≡ get_or xs at 0
there_set xs k at =
    elim (cases_eq at k) [
      | inl same ↦ rw (← same, set-get_or xs at 0) refl
      | inr other ↦ get_or-set_other xs k at (get_or xs at 0) 0 other
    ]

-- an index of the mask's that is below the entry at hand is passed over
pub one_passed : (mask : MaskTest) (all_inner all_words : List ℕ) (from : ℕ) (mi mw inner words : List ℕ)
    (kept at next : ℕ)
    → IsKept mask all_inner all_words from mi mw inner words kept at next → at < length inner → next < length mi
    → get_or mi next 0 < get_or inner at 0
    → IsKept mask all_inner all_words from mi mw (set inner kept (get_or inner at 0))
    (set words kept (get_or words at 0)) kept at (next + 1)
one_passed mask all_inner all_words from mi mw inner words kept at next here within some less =
    let x = get_or inner at 0 in
    let w = get_or words at 0 in
    let low = here.low in
    let P : ℕ → Type 0 = λ y. y < x in
    let behind = behind_set inner kept at (omega arith) in
    let behind_words = behind_set words kept at (omega arith) in
    record {
      low = low;
      within = let size = length-set inner kept x in omega arith;
      inner_long = length-set inner kept x ∙ here.inner_long;
      words_long = length-set words kept w ∙ here.words_long;
      bound = omega arith;
      ahead = λ more. rw (there_set inner kept at, take_more mi next 0 some) (All-append P (take next mi) (get_or mi next 0 ∷ []) (here.ahead within) (All-cons P (get_or mi next 0) [] less (All-nil P)));
      rising = rw behind here.rising;
      whole = λ outer. rw (behind, behind_words, take-set-le kept inner kept x (omega arith), take-set-le kept words kept w (omega arith)) (here.whole outer);
    }

-- what the two indices at hand choose
pub one_step : (mask : MaskTest) (all_inner all_words : List ℕ) (from : ℕ) (mi mw inner words : List ℕ)
    (kept at next step by_at by_next : ℕ) (keep : Bool) (number : Bool → ℕ)
    → IsKept mask all_inner all_words from mi mw inner words kept at next → length mw ≡ length mi
    → AllPairs (λ a b. a < b) mi → at < length inner → next < length mi
    → (get_or inner at 0 ≤ get_or mi next 0 → keep ≡ lets_word mask (cond (eqb (get_or inner at 0) (get_or mi next 0)) (Some (get_or mw next 0)) None)) → (get_or mi next 0 < get_or inner at 0 → keep ≡ false)
    → step ≡ number keep → by_at ≡ number (leb (get_or inner at 0) (get_or mi next 0))
    → by_next ≡ number (leb (get_or mi next 0) (get_or inner at 0)) → number true ≡ 1 → number false ≡ 0
    → IsKept mask all_inner all_words from mi mw (set inner kept (get_or inner at 0))
    (set words kept (get_or words at 0)) (kept + step) (at + by_at) (next + by_next)
one_step mask all_inner all_words from mi mw inner words kept at next step by_at by_next keep number here same rises within some stays passes stepped step_at step_next one none =
    let x = get_or inner at 0 in
    let y = get_or mi next 0 in
    let low_all : All (λ z. z ≤ x) (take next mi) = All-weaker (λ z. z < x) (λ z. z ≤ x) (λ z less. omega arith) (take next mi) (here.ahead within) in
    let Q : ℕ → Type 0 = λ z. z ≤ x in
    elim (cases_order x y) [
      | inl both ↦
          let up : leb x y ≡ true = grind (arith, nat_tests) in
          let down : leb y x ≡ true = grind (arith, nat_tests) in
          let e1 : by_at ≡ 1 = (rw up at step_at) ∙ one in
          let e2 : by_next ≡ 1 = (rw down at step_next) ∙ one in
          let kept_it : keep ≡ lets_word mask (Some (get_or mw next 0)) = rw (eq-eqb x y both) at (stays (omega arith)) in
          rw (e1, e2) (one_taken mask all_inner all_words from mi mw inner words kept at next (next + 1) step keep number here within (omega arith)
          (rw (take_more mi next 0 some) (All-append Q (take next mi) (y ∷ []) low_all (All-cons Q y [] (omega arith) (All-nil Q))))
          (λ outer. rw (word_found outer x mi mw next same rises some (sym both)) (sym kept_it)) stepped one none)
      | inr (inl less) ↦
          let up : leb x y ≡ true = grind (arith, nat_tests) in
          let down : leb y x ≡ false = grind (arith, nat_tests) in
          let e1 : by_at ≡ 1 = (rw up at step_at) ∙ one in
          let e2 : next + by_next ≡ next = let zero : by_next ≡ 0 = (rw down at step_next) ∙ none in omega arith in
          let apart : y ≢ x = λ is. absurd (omega arith) in
          let kept_it : keep ≡ lets_word mask None = rw (ne_eqb x y (λ is. apart (sym is))) at (stays (omega arith)) in
          let first : IsFirstFrom x mi next = record { bound = here.bound; before = here.ahead within; next = λ more. omega arith } in
          rw (e1, e2) (one_taken mask all_inner all_words from mi mw inner words kept at next next step keep number here within here.bound low_all
          (λ outer. rw (word_absent outer x mi mw next same rises first (λ more. apart)) (sym kept_it)) stepped one none)
      | inr (inr more) ↦
          let up : leb x y ≡ false = grind (arith, nat_tests) in
          let down : leb y x ≡ true = grind (arith, nat_tests) in
          let e0 : kept + step ≡ kept = let zero : step ≡ 0 = stepped ∙ ap number (passes more) ∙ none in omega arith in
          let e1 : at + by_at ≡ at = let zero : by_at ≡ 0 = (rw up at step_at) ∙ none in omega arith in
          let e2 : by_next ≡ 1 = (rw down at step_next) ∙ one in
          rw (e0, e1, e2) (one_passed mask all_inner all_words from mi mw inner words kept at next here within some more)
    ]

no_word_lets : (complement : Bool) → cond complement (not false) false ≡ complement
no_word_lets true = refl
no_word_lets false = refl

-- an entry behind all of the mask's
pub one_behind : (mask : MaskTest) (all_inner all_words : List ℕ) (from : ℕ) (mi mw inner words : List ℕ)
    (kept at next step : ℕ) (number : Bool → ℕ)
    → IsKept mask all_inner all_words from mi mw inner words kept at next → length mw ≡ length mi
    → AllPairs (λ a b. a < b) mi → at < length inner → length mi ≤ next
    → step ≡ number mask.complement → number true ≡ 1 → number false ≡ 0
    → IsKept mask all_inner all_words from mi mw (set inner kept (get_or inner at 0))
    (set words kept (get_or words at 0)) (kept + step) (at + 1) next
one_behind mask all_inner all_words from mi mw inner words kept at next step number here same rises within over stepped one none =
    let x = get_or inner at 0 in
    let first : IsFirstFrom x mi next = record { bound = here.bound; before = here.ahead within; next = λ more. absurd (omega arith) } in
    one_taken mask all_inner all_words from mi mw inner words kept at next next step mask.complement number here within here.bound
    (All-weaker (λ z. z < x) (λ z. z ≤ x) (λ z less. omega arith) (take next mi) (here.ahead within))
    (λ outer. rw (word_absent outer x mi mw next same rises first (λ more. absurd (omega arith))) (no_word_lets mask.complement)) stepped one none

-- some of the mask's indices below the entry at hand are passed over
pub some_passed : (mask : MaskTest) (all_inner all_words : List ℕ) (from : ℕ) (mi mw inner words : List ℕ)
    (kept at next next' : ℕ)
    → IsKept mask all_inner all_words from mi mw inner words kept at next → next' ≤ length mi
    → (at < length inner → All (λ y. y < get_or inner at 0) (take next mi) → All (λ y. y < get_or inner at 0) (take next' mi))
    → IsKept mask all_inner all_words from mi mw inner words kept at next'
some_passed mask all_inner all_words from mi mw inner words kept at next next' here bound passed = record {
  low = here.low;
  within = here.within;
  inner_long = here.inner_long;
  words_long = here.words_long;
  bound = bound;
  ahead = λ within. passed within (here.ahead within);
  rising = here.rising;
  whole = here.whole;
}

-- all entries are done
pub kept_all : (mask : MaskTest) (all_inner all_words : List ℕ) (from : ℕ) (mi mw inner words : List ℕ)
    (kept at next : ℕ) → IsKept mask all_inner all_words from mi mw inner words kept at next → length inner ≤ at
    → (outer : ℕ) → entries_along outer (take kept inner) (take kept words) ≡ kept_by mask (entries_along outer mi mw)
    (entries_along outer (drop from all_inner) (drop from all_words))
kept_all mask all_inner all_words from mi mw inner words kept at next here over outer =
    let none = drop_all at inner over in
    sym (here.whole outer ∙ rw none (append-nil (entries_along outer (take kept inner) (take kept words))))
