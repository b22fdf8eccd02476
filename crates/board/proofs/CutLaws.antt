-- Tasks that are cut stay what they are, whatever happens to others.
use Rattle.std.proofs.Common.{inl, inr, ◌≡◌, ◌≢◌, ◌∙◌, ℕ, zero, suc, ◌<◌, ◌≤◌, Bool, true, false, cond, ltb, List, [], ◌∷◌, ◌++◌, length, map, Option, Some, None, slice_get, slice_set, refl, sym, ap, arith, subst}
use Rattle.std.specs.Arc.{arc_value}
use Rattle.std.specs.Option.{option_and_then, option_map, option_map_or}
use Rattle.std.proofs.lemmas.Bool.{and_parts, cases_eq, cases_lt, eq-eqb, ltb-true, ne_eqb}
use Rattle.std.proofs.lemmas.Option.{slice_get-map, slice_get_past}
use Rattle.calls.specs.declared.recipe.Recipe.{Recipe}
use Rattle.kernel.specs.Covers.{IsPartOf}
use Rattle.model.specs.Object.{IsObject, Object, cols_of}
use Rattle.runner.specs.Tickets.{IsStoreFor}
use Rattle.board.specs.Cuts.{AreCuts, Cutting, IsCutFor, IsPut, IsShared, at_slot, cutting_of, has_more, is_open}
use Rattle.board.specs.Events.{moved_by, sole_in, taken, with_moved}
use Rattle.board.specs.Pieces.{AreFor}
use Rattle.stages.specs.Progress.{Progress, Untaken, Running, Joining, Made, Moved, Failed, is_made, is_underway, is_untaken}
use Rattle.stages.specs.Tasks.{Task}
use Rattle.stages.specs.Views.{View, is_fed, is_ready}
use Rattle.board.specs.declared.cut.Cut.{Cut}
use Rattle.board.specs.declared.cut.Cut.TheVariants as cut
use Rattle.board.specs.declared.cut.CutTask.{CutTask}
use Rattle.board.specs.declared.piece.Stores.{Stores}
use Rattle.stages.proofs.ListLaws.{get_left, get_set_other}
use Rattle.board.proofs.ObjectLaws.{object_at_left}
use Rattle.stages.proofs.PlaceLaws.{each-at}
use Rattle.stages.proofs.ReadyLaws.{fed_at, untaken_some}
use Rattle.calls.specs.declared.role.Role.TheVariants.{Old}

-- ---- places

flat : {A : Type 0} → Option (Option A) → Option A
flat o = option_and_then (λ c. c) o

pub at_map : {A B : Type 0} (f : A → B) (cs : List (Option A)) (k : ℕ) → at_slot (map (option_map f) cs) k ≡ option_map f (at_slot cs k)
at_map {A = A} {B = B} f cs k = ap (option_and_then (λ c. c)) (slice_get-map (option_map f) cs k) ∙ inner (slice_get cs k)
  where
    inner : (o : Option (Option A)) → option_and_then (λ c. c) (option_map (option_map f) o) ≡ option_map f (option_and_then (λ c. c) o)
    inner None = refl
    inner (Some None) = refl
    inner (Some (Some x)) = refl

pub at_within : {A : Type 0} (cs : List (Option A)) (k : ℕ) (c : A) → at_slot cs k ≡ Some c → k < length cs
at_within cs k c at = elim (cases_lt k (length cs)) [
  | inl low ↦ low
  | inr past ↦ absurd (let e : at_slot cs k ≡ None = ap (option_and_then (λ c. c)) (slice_get_past cs k past) in cc (e, at))
]

pub at_set_other : {A : Type 0} (cs : List (Option A)) (k j : ℕ) (c : Option A) → j ≢ k → at_slot (slice_set cs k c) j ≡ at_slot cs j
at_set_other cs k j c far = ap (option_and_then (λ c. c)) (get_set_other cs k j c far)

pub at_set : {A : Type 0} (cs : List (Option A)) (k : ℕ) (c : Option A) → k < length cs → at_slot (slice_set cs k c) k ≡ c
at_set [] k c low = absurd (omega (arith, low))
at_set (x ∷ xs) zero c low = refl
at_set (x ∷ xs) (suc k) c low = at_set xs k c (omega (arith, low))

pub at_cleared : {A : Type 0} (cs : List (Option A)) (k : ℕ) → at_slot (slice_set cs k None) k ≡ None
at_cleared [] k = refl
at_cleared (x ∷ xs) zero = refl
at_cleared (x ∷ xs) (suc k) = at_cleared xs k

-- one is gone
pub put_none : (cs : List (Option Cut)) (k : ℕ)
    → IsPut (map (option_map cutting_of) cs) k None (map (option_map cutting_of) (slice_set cs k None))
put_none cs k j = elim (cases_eq j k) [
  | inl e ↦
      let here : at_slot (slice_set cs k None) j ≡ None = ap (at_slot (slice_set cs k None)) e ∙ at_cleared cs k in
      at_map cutting_of (slice_set cs k None) j ∙ (ap (option_map cutting_of) here ∙ sym (ap (λ b. cond b None (at_slot (map (option_map cutting_of) cs) j)) (eq-eqb j k e)))
  | inr far ↦
      at_map cutting_of (slice_set cs k None) j ∙ (ap (option_map cutting_of) (at_set_other cs k j None far)
      ∙ (sym (at_map cutting_of cs j) ∙ sym (ap (λ b. cond b None (at_slot (map (option_map cutting_of) cs) j)) (ne_eqb j k far))))
]

-- ---- what a task needs, with one slot more

pub for_left : (ts : List Task) (t : Task) (k : ℕ) (r : Recipe) (s : Stores) → AreFor ts k r s → k < length ts → AreFor (ts ++ t ∷ []) k r s
for_left ts t k r s needs low = record {
  recipe_is = ap (option_map (λ (u : Task). u.recipe)) (get_left ts (t ∷ []) k low) ∙ needs.recipe_is;
  lower = λ u at. needs.lower u (sym (get_left ts (t ∷ []) k low) ∙ at);
  takes = needs.takes;
  right = λ u role i st at takes has.
      let before = sym (get_left ts (t ∷ []) k low) ∙ at in
      let below = ltb-true i k (each-at (λ j. ltb j k) u.inputs (needs.lower u before) role i takes) in
      subst (λ (o : Object). IsStoreFor o st) (sym (object_at_left ts t i (omega (arith, below, low)))) (needs.right u role i st before takes has);
  makes = object_at_left ts t k low ∙ needs.makes;
  is_object = subst IsObject (sym (object_at_left ts t k low)) needs.is_object;
}

pub shared_left : (ts : List Task) (t : Task) (k : ℕ) (task : CutTask) → IsShared ts k task → k < length ts → IsShared (ts ++ t ∷ []) k task
shared_left ts t k task is low = record {
  needs = for_left ts t k (arc_value task.recipe) task.inputs is.needs low;
  rows = is.rows;
  right = λ j block at. subst (λ (o : Object). IsPartOf (cols_of o.shape) o.content block) (sym (object_at_left ts t k low)) (is.right j block at);
}

pub cut_left : (ts : List Task) (t : Task) (p q : Option Progress) (k : ℕ) (c : Cut) → IsCutFor ts p k c → q ≡ p → k < length ts → IsCutFor (ts ++ t ∷ []) q k c
cut_left ts t p q k (cut.Underway task) is same low = (same ∙ is.0, shared_left ts t k task.value is.1 low)
cut_left ts t p q k (cut.Joined count) is same low = same ∙ is

pub cut_same : (ts : List Task) (p q : Option Progress) (k : ℕ) (c : Cut) → IsCutFor ts p k c → q ≡ p → IsCutFor ts q k c
cut_same ts p q k (cut.Underway task) is same = (same ∙ is.0, is.1)
cut_same ts p q k (cut.Joined count) is same = same ∙ is

pub cut_underway : (ts : List Task) (p : Option Progress) (k : ℕ) (c : Cut) → IsCutFor ts p k c → is_underway p ≡ true
cut_underway ts p k (cut.Underway task) is = ap is_underway is.0
cut_underway ts p k (cut.Joined count) is = ap is_underway is

-- ---- boards

-- one slot more
pub cuts_issued : (ts : List Task) (ps : List Progress) (cuts : List (Option Cut)) (t : Task) (p : Progress) → AreCuts ts ps cuts → length ps ≡ length ts
    → AreCuts (ts ++ t ∷ []) (ps ++ p ∷ []) cuts
cuts_issued ts ps cuts t p are sized = record {
  sized = let e = length_more ts t in omega (arith, are.sized, e);
  each_is = λ k c at.
      let within = at_within cuts k c at in
      let low : k < length ts = omega (arith, within, are.sized) in
      cut_left ts t (slice_get ps k) (slice_get (ps ++ p ∷ []) k) k c (are.each_is k c at) (get_left ps (p ∷ []) k (omega (arith, low, sized))) low;
}
  where
    length_more : (ts : List Task) (t : Task) → length (ts ++ t ∷ []) ≡ suc (length ts)
    length_more [] t = refl
    length_more (u ∷ us) t = ap suc (length_more us t)

-- those that are cut come no further
pub cuts_kept : (ts : List Task) (ps qs : List Progress) (cuts : List (Option Cut)) → AreCuts ts ps cuts
    → ((k : ℕ) → is_underway (slice_get ps k) ≡ true → slice_get qs k ≡ slice_get ps k) → AreCuts ts qs cuts
cuts_kept ts ps qs cuts are stay = record {
  sized = are.sized;
  each_is = λ k c at. cut_same ts (slice_get ps k) (slice_get qs k) k c (are.each_is k c at)
      (stay k (cut_underway ts (slice_get ps k) k c (are.each_is k c at)));
}

-- ..but for one, of which there is nothing any more
pub cuts_without : (ts : List Task) (ps qs : List Progress) (cuts : List (Option Cut)) (n : ℕ) → AreCuts ts ps cuts
    → ((k : ℕ) → k ≢ n → is_underway (slice_get ps k) ≡ true → slice_get qs k ≡ slice_get ps k) → AreCuts ts qs (slice_set cuts n None)
cuts_without ts ps qs cuts n are stay = record {
  sized = let e = set_length cuts n in omega (arith, are.sized, e);
  each_is = λ k c at. elim (cases_eq k n) [
    | inl e ↦ absurd (let none : at_slot (slice_set cuts n None) k ≡ None = ap (at_slot (slice_set cuts n None)) e ∙ at_cleared cuts n in cc (none, at))
    | inr far ↦
        let before = sym (at_set_other cuts n k None far) ∙ at in
        let is = are.each_is k c before in
        cut_same ts (slice_get ps k) (slice_get qs k) k c is (stay k far (cut_underway ts (slice_get ps k) k c is))
  ];
}
  where
    set_length : (cs : List (Option Cut)) (n : ℕ) → length (slice_set cs n None) ≡ length cs
    set_length [] n = refl
    set_length (x ∷ xs) zero = refl
    set_length (x ∷ xs) (suc n) = ap suc (set_length xs n)

-- a ready slot's task goes out
module _ {N : Type 0} (v : View N) (k : ℕ) (ready : is_ready v.tasks v.progress k ≡ true) where
  pub untaken : slice_get v.progress k ≡ Some Untaken
  untaken = untaken_some (slice_get v.progress k) (and_parts (is_untaken (slice_get v.progress k)) (is_fed v.tasks v.progress k) ready).0

  -- what goes into the piece was made
  pub moved_made : (i : ℕ) → moved_by v k ≡ Some i → is_made (slice_get v.progress i) ≡ true
  moved_made i moved = go (slice_get v.tasks k) refl moved
    where
      sole_old : (o : Option ℕ) → sole_in v.tasks v.progress v.holds o ≡ Some i → o ≡ Some i
      sole_old None h = absurd cc
      sole_old (Some n) h = either (_) h
        where
          either : (b : Bool) → cond b (Some n) None ≡ Some i → Some n ≡ Some i
          either true h = h
          either false h = absurd cc

      go : (o : Option Task) → slice_get v.tasks k ≡ o → option_and_then (λ (t : Task). sole_in v.tasks v.progress v.holds t.inputs.old) o ≡ Some i
          → is_made (slice_get v.progress i) ≡ true
      go None is h = absurd cc
      go (Some t) is h =
          let fed = (and_parts (is_untaken (slice_get v.progress k)) (is_fed v.tasks v.progress k) ready).1 in
          each-at (λ n. is_made (slice_get v.progress n)) t.inputs (sym (fed_at v.tasks v.progress k t is) ∙ fed) Old i (sole_old t.inputs.old h)

  apart_from : (o p q : Option Progress) → o ≡ p → o ≡ q → is_underway p ≡ true → (is_made q ≡ true) → ⊥
  apart_from o p q a b under made = not_both o (ap is_underway a ∙ under) (ap is_made b ∙ made)
    where
      not_both : (o : Option Progress) → is_underway o ≡ true → is_made o ≡ true → ⊥
      not_both None u m = cc
      not_both (Some Untaken) u m = cc
      not_both (Some Running) u m = cc
      not_both (Some Joining) u m = cc
      not_both (Some Made) u m = cc
      not_both (Some Moved) u m = cc
      not_both (Some Failed) u m = cc

  pub taken_stays : (j : ℕ) → is_underway (slice_get v.progress j) ≡ true → slice_get (taken v k).progress j ≡ slice_get v.progress j
  taken_stays j under = go (moved_by v k) refl
    where
      far : j ≢ k
      far e = let u : is_underway (slice_get v.progress j) ≡ false = ap (λ n. is_underway (slice_get v.progress n)) e ∙ ap is_underway untaken in cc (u, under)

      first : slice_get (slice_set v.progress k Running) j ≡ slice_get v.progress j
      first = get_set_other v.progress k j Running far

      go : (o : Option ℕ) → moved_by v k ≡ o → slice_get (with_moved (slice_set v.progress k Running) (moved_by v k)) j ≡ slice_get v.progress j
      go None is = ap (λ o. slice_get (with_moved (slice_set v.progress k Running) o) j) is ∙ first
      go (Some i) is =
          let other : j ≢ i = λ e. apart_from (slice_get v.progress j) (slice_get v.progress j) (slice_get v.progress i) refl (ap (slice_get v.progress) e) under (moved_made i is) in
          ap (λ o. slice_get (with_moved (slice_set v.progress k Running) o) j) is ∙ (get_set_other (slice_set v.progress k Running) i j Moved other ∙ first)

-- ---- slots of whose tasks a piece wasn't taken

-- they aren't ready
pub open_unready : (ts : List Task) (ps : List Progress) (cuts : List (Option Cut)) → AreCuts ts ps cuts → (k : ℕ)
    → is_ready ts ps k ≡ true → is_open (map (option_map cutting_of) cuts) k ≡ true → ⊥
open_unready ts ps cuts are k ready more = go (at_slot cuts k) refl
  where
    un : is_untaken (slice_get ps k) ≡ true
    un = (and_parts (is_untaken (slice_get ps k)) (is_fed ts ps k) ready).0

    go : (o : Option Cut) → at_slot cuts k ≡ o → ⊥
    go None at =
        let e : is_open (map (option_map cutting_of) cuts) k ≡ false = ap (λ (o : Option Cutting). option_map_or has_more o false) (at_map cutting_of cuts k ∙ ap (option_map cutting_of) at) in cc (e, more)
    go (Some c) at =
        let under = cut_underway ts (slice_get ps k) k c (are.each_is k c at) in
        let e : is_underway (slice_get ps k) ≡ false = ap is_underway (untaken_some (slice_get ps k) un) in cc (e, under)

-- none is behind the last that is cut
pub open_past : (cuts : List (Option Cut)) (n : ℕ) → length cuts ≤ n → is_open (map (option_map cutting_of) cuts) n ≡ false
open_past cuts n past =
    ap (λ (o : Option Cutting). option_map_or has_more o false) (at_map cutting_of cuts n
    ∙ ap (λ (o : Option (Option Cut)). option_map cutting_of (option_and_then (λ c. c) o)) (slice_get_past cuts n past))

pub open_within : (cuts : List (Option Cut)) (k : ℕ) → is_open (map (option_map cutting_of) cuts) k ≡ true → k < length cuts
open_within cuts k more = elim (cases_lt k (length cuts)) [
  | inl low ↦ low
  | inr past ↦ absurd (let e = open_past cuts k past in cc (e, more))
]

-- the same tasks, the same slots
pub open_same : (cs ds : List (Option Cutting)) (k : ℕ) → at_slot ds k ≡ at_slot cs k → is_open ds k ≡ is_open cs k
open_same cs ds k same = ap (λ (o : Option Cutting). option_map_or has_more o false) same
