-- A board on which nothing is to be done.
use Rattle.std.proofs.Common.{inl, inr, ◌≡◌, ◌∙◌, ℕ, zero, suc, ◌<◌, true, false, List, [], length, Some, slice_get, refl, sym, ap, arith}
use Rattle.std.proofs.lemmas.Bool.{and_from, cases_Bool}
use Rattle.std.proofs.lemmas.Option.{slice_get_within}
use Rattle.stages.specs.Flows.{Flows}
use Rattle.stages.specs.Places.{each}
use Rattle.stages.specs.Progress.{Progress, Untaken, Running, Joining, Made, Moved, Failed, allows, is_joining, is_made, is_running, is_unfinished, is_untaken}
use Rattle.stages.specs.Tasks.{Task}
use Rattle.stages.specs.Views.{is_fed, is_ready, offered}
use Rattle.stages.specs.Numbers.{has, numbers}
use Rattle.stages.proofs.FlowLaws.{below}
use Rattle.stages.proofs.ListLaws.{get_there}
use Rattle.stages.proofs.PlaceLaws.{each-at, each-from}
use Rattle.stages.proofs.NumberLaws.{numbers_has}
use Rattle.stages.proofs.ReadyLaws.{fed_at, offered_is, ready_within}

module _ (ts : List Task) (ps : List Progress) (flows : Flows ts ps) (unready : (k : ℕ) → is_ready ts ps k ≡ false)
    (idle : (k : ℕ) → (is_running (slice_get ps k) ≡ false) × (is_joining (slice_get ps k) ≡ false)) where
  finished_below : (n k : ℕ) (p : Progress) → k < n → slice_get ps k ≡ Some p → is_unfinished p ≡ false
  finished_below zero k p low at = absurd (omega arith)
  finished_below (suc n) k Made low at = refl
  finished_below (suc n) k Moved low at = refl
  finished_below (suc n) k Failed low at = refl
  finished_below (suc n) k Running low at = absurd (let e : is_running (slice_get ps k) ≡ true = ap is_running at in let f = (idle k).0 in cc (e, f))
  finished_below (suc n) k Joining low at = absurd (let e : is_joining (slice_get ps k) ≡ true = ap is_joining at in let f = (idle k).1 in cc (e, f))
  finished_below (suc n) k Untaken low at =
      let within = slice_get_within ps k Untaken at in
      let (t, is) = get_there ts k (omega (arith, within, flows.sized)) in
      let fed : each (λ i. is_made (slice_get ps i)) t.inputs ≡ true = each-from (λ i. is_made (slice_get ps i)) t.inputs (λ role i takes.
      let b : i < k = below ts ps k t role i flows is takes in
      let (q, has) = get_there ps i (omega (arith, b, within)) in
      let may : allows Untaken (slice_get ps i) ≡ true = each-at (λ i. allows Untaken (slice_get ps i)) t.inputs (flows.allowed k t Untaken is at) role i takes in
      ap is_made has ∙ made q (finished_below n i q (omega (arith, b, low)) has) (ap (allows Untaken) (sym has) ∙ may)) in
      let can : is_ready ts ps k ≡ true = and_from (is_untaken (slice_get ps k)) (is_fed ts ps k) (ap is_untaken at) (fed_at ts ps k t is ∙ fed) in
      absurd (let f = unready k in cc (can, f))
    where
      made : (q : Progress) → is_unfinished q ≡ false → allows Untaken (Some q) ≡ true → is_made (Some q) ≡ true
      made Untaken u a = absurd cc
      made Running u a = absurd cc
      made Joining u a = absurd cc
      made Made u a = refl
      made Moved u a = absurd cc
      made Failed u a = absurd cc

  -- every slot is finished
  pub settled : (k : ℕ) (p : Progress) → slice_get ps k ≡ Some p → is_unfinished p ≡ false
  settled k p at = finished_below (suc k) k p (omega arith) at

-- none can be taken where none is offered
pub unready : (ts : List Task) (ps : List Progress) → offered ts ps ≡ [] → (k : ℕ) → is_ready ts ps k ≡ false
unready ts ps none k = elim (cases_Bool (is_ready ts ps k)) [
  | inl can ↦
      let low = ready_within ts ps k can in
      let among : has k (numbers (is_ready ts ps) (length ts)) ≡ true = numbers_has (is_ready ts ps) (length ts) k low can in
      let empty : has k (numbers (is_ready ts ps) (length ts)) ≡ false = ap (has k) (offered_is ts ps ∙ none) in
      absurd (cc (among, empty))
  | inr cannot ↦ cannot
]
