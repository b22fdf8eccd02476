-- Sums of fibers, fiber by fiber, and the sums of rows that they are.
use Rattle.std.proofs.Common.{◌≡◌, ℕ, ◌+◌, ◌-◌, ◌<◌, ◌≤◌, List, [], ◌∷◌, ◌++◌, length, get_or, set, take, drop, map, refl, sym, ◌∙◌, ap, subst, arith, append_assoc}
use Rattle.std.specs.Prelude.{slice_range}
use Rattle.std.proofs.lemmas.List.{append-nil, drop-drop, drop_more, drop_all, map-append, take_all, take_more, take_more_set}
use Rattle.algebra.specs.declared.domain.Domain.{Domain}
use Rattle.algebra.specs.declared.kinds.MonoidKind.{MonoidKind}
use Rattle.lanes.specs.Lists.{fold_of}
use Rattle.store.specs.declared.lists.FiberEnd.{FiberEnd}
use Rattle.store.specs.Fibers.{Rises, last_end}
use Rattle.store.proofs.FlatLaws.{rises_le}
use Rattle.elementwise.specs.Sums.{sums_of}

-- ---- fiber by fiber

-- the sums of the first fibers are written, which have so many words
pub record AreSummed (kind : MonoidKind) (d : Domain) (from : ℕ) (ends : List FiberEnd) (words rows sums : List ℕ) (at start : ℕ) : Type 0 where
  pub rises : Rises (from + start) (drop at ends)
  pub whole : last_end (from + start) (drop at ends) ≡ from + length words
  pub rows_are : take at rows ≡ map (λ (r : FiberEnd). r.outer) (take at ends)
  pub sums_are : take at sums ++ sums_of kind d (from + start) (drop at ends)
      (drop start words) ≡ sums_of kind d from ends words

pub summed_none : (kind : MonoidKind) (d : Domain) (from : ℕ) (ends : List FiberEnd) (words rows sums : List ℕ)
    → Rises from ends → last_end from ends ≡ from + length words → AreSummed kind d from ends words rows sums 0 0
summed_none kind d from ends words rows sums rises whole =
    let same : from + 0 ≡ from = omega arith in
    record {
      rises = rw same rises;
      whole = rw same whole;
      rows_are = refl;
      sums_are = rw same refl;
    }

-- where the next fiber ends
pub record IsNextSum (from start end count : ℕ) : Type 0 where
  pub low : from ≤ end
  pub rises : start ≤ end - from
  pub inside : end - from ≤ count

pub next_sum : (kind : MonoidKind) (d : Domain) (from : ℕ) (ends : List FiberEnd) (words rows sums : List ℕ)
    (at start : ℕ) (r : FiberEnd) → AreSummed kind d from ends words rows sums at start → at < length ends
    → r ≡ get_or ends at r → IsNextSum from start r.end (length words)
unfolding Rises last_end
next_sum kind d from ends words rows sums at start r h within is =
    let split : drop at ends ≡ r ∷ drop (at + 1) ends = drop_more ends at r within ∙ ap (λ (q : FiberEnd). q ∷ drop (at + 1) ends) (sym is) in
    let rises : Rises (from + start) (r ∷ drop (at + 1) ends) = subst (Rises (from + start)) split h.rises in
    let whole : last_end (from + start) (r ∷ drop (at + 1) ends) ≡ from + length words = sym (ap (last_end (from + start)) split) ∙ h.whole in
    let first = rises.0 in
    let rest = rises_le r.end (drop (at + 1) ends) rises.1 in
    record {
      low = omega arith;
      rises = omega arith;
      inside = omega arith;
    }

pub summed_more : (kind : MonoidKind) (d : Domain) (from : ℕ) (ends : List FiberEnd) (words rows sums : List ℕ)
    (at start sum : ℕ) (r : FiberEnd) → AreSummed kind d from ends words rows sums at start → at < length ends
    → r ≡ get_or ends at r → at < length rows → at < length sums
    → sum ≡ fold_of kind d (slice_range words start (r.end - from))
    → AreSummed kind d from ends words (set rows at r.outer) (set sums at sum) (at + 1) (r.end - from)
unfolding Rises last_end sums_of
summed_more kind d from ends words rows sums at start sum r h within is room room' sum_is =
    let rest = drop (at + 1) ends in
    let split : drop at ends ≡ r ∷ rest = drop_more ends at r within ∙ ap (λ (q : FiberEnd). q ∷ rest) (sym is) in
    let next = next_sum kind d from ends words rows sums at start r h within is in
    let low = next.low in
    let up = next.rises in
    let end : from + (r.end - from) ≡ r.end = omega arith in
    let count : r.end - from - start ≡ r.end - (from + start) = omega arith in
    let past : start + (r.end - (from + start)) ≡ r.end - from = omega arith in
    let rises : Rises (from + start) (r ∷ rest) = subst (Rises (from + start)) split h.rises in
    let whole : last_end (from + start) (r ∷ rest) ≡ from + length words = sym (ap (last_end (from + start)) split) ∙ h.whole in
    let sum_is' : sum ≡ fold_of kind d (take (r.end - (from + start)) (drop start words)) = sum_is ∙ ap (λ n. fold_of kind d (take n (drop start words))) count in
    let behind : drop (r.end - (from + start)) (drop start words) ≡ drop (r.end - from) words = drop-drop (r.end - (from + start)) start words ∙ ap (λ n. drop n words) past in
    let sums_left : sums_of kind d (from + start) (drop at ends) (drop start words) ≡ sum ∷ sums_of kind d r.end rest (drop (r.end - from) words) =
    ap (λ es. sums_of kind d (from + start) es (drop start words)) split
    ∙ ap (λ s. s ∷ sums_of kind d r.end rest (drop (r.end - (from + start)) (drop start words))) (sym sum_is')
    ∙ ap (λ ws. sum ∷ sums_of kind d r.end rest ws) behind in
    let ends_more : take (at + 1) ends ≡ take at ends ++ r ∷ [] = take_more ends at r within ∙ ap (λ (q : FiberEnd). take at ends ++ q ∷ []) (sym is) in
    record {
      rises = rw end rises.1;
      whole = rw end whole;
      rows_are =
          take_more_set rows at r.outer room ∙ ap (λ os. os ++ r.outer ∷ []) h.rows_are
          ∙ sym (map-append (λ (r : FiberEnd). r.outer) (take at ends) (r ∷ [])) ∙ ap (map (λ (r : FiberEnd). r.outer)) (sym ends_more);
      sums_are =
          rw end (ap (λ ss. ss ++ sums_of kind d r.end rest (drop (r.end - from) words)) (take_more_set sums at sum room')
          ∙ append_assoc (take at sums) (sum ∷ []) (sums_of kind d r.end rest (drop (r.end - from) words))
          ∙ ap (λ ss. take at sums ++ ss) (sym sums_left) ∙ h.sums_are);
    }

pub summed_rows : (kind : MonoidKind) (d : Domain) (from : ℕ) (ends : List FiberEnd) (words rows sums : List ℕ)
    (at start : ℕ) → AreSummed kind d from ends words rows sums at start → length ends ≤ at → length rows ≤ at
    → rows ≡ map (λ (r : FiberEnd). r.outer) ends
summed_rows kind d from ends words rows sums at start h all all' =
    sym (take_all at rows all') ∙ h.rows_are ∙ ap (map (λ (r : FiberEnd). r.outer)) (take_all at ends all)

pub summed_sums : (kind : MonoidKind) (d : Domain) (from : ℕ) (ends : List FiberEnd) (words rows sums : List ℕ)
    (at start : ℕ) → AreSummed kind d from ends words rows sums at start → length ends ≤ at → length sums ≤ at
    → sums ≡ sums_of kind d from ends words
unfolding sums_of
summed_sums kind d from ends words rows sums at start h all all' =
    let none : sums_of kind d (from + start) (drop at ends) (drop start words) ≡ [] = ap (λ es. sums_of kind d (from + start) es (drop start words)) (drop_all at ends all) in
    sym (append-nil sums) ∙ ap (λ ss. ss ++ []) (sym (take_all at sums all')) ∙ ap (λ ss. take at sums ++ ss) (sym none) ∙ h.sums_are
