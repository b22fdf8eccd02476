-- What a board keeps of tasks that are cut stays true, whatever its events do to slots.
use Rattle.std.proofs.Common.{inl, inr, ◌≡◌, ◌≢◌, ◌∙◌, ℕ, zero, suc, ◌+◌, ◌<◌, ◌≤◌, ◌&&◌, Bool, true, false, cond, eqb, List, [], ◌∷◌, ◌++◌, length, map, not, Option, Some, None, slice_get, slice_set, refl, sym, ap, arith, subst, ◌%◌}
use Rattle.std.specs.Global.{Box}
use Rattle.std.specs.Prelude.{OnErr, OnOk, Result, Ok, Err, is_some, slice_index}
use Rattle.std.specs.Option.{option_map, option_map_or}
use Rattle.std.proofs.lemmas.Bool.{cases_eq, cases_lt, eq-eqb, ne_eqb}
use Rattle.std.proofs.lemmas.Option.{slice_get_past}
use Rattle.calls.specs.declared.recipe.Given.{Given}
use Rattle.calls.specs.declared.recipe.Recipe.{Recipe}
use Rattle.calls.specs.declared.recipe.Recipe.TheVariants as recipe
use Rattle.calls.specs.declared.role.Roles.{Roles}
use Rattle.calls.specs.Roles.{no_roles}
use Rattle.board.specs.Cuts.{AreCuts, Cutting, IsFound, at_slot, cutting_of, has_more, is_open, offered_on}
use Rattle.board.specs.Events.{failed, first_progress, issued, placed, with_progress}
use Rattle.stages.specs.Numbers.{numbers}
use Rattle.board.specs.Picks.{IsPicked}
use Rattle.stages.specs.Progress.{Progress, Untaken, Made, is_underway}
use Rattle.stages.specs.Tasks.{Task}
use Rattle.stages.specs.Views.{View, is_ready, offered}
use Rattle.board.specs.declared.cut.Cut.{Cut}
use Rattle.board.specs.declared.look.Refusal.{Refusal}
use Rattle.board.specs.declared.look.Refusal.TheVariants.{Stranger}
use Rattle.board.specs.declared.picking.Picked.{Picked}
use Rattle.board.specs.declared.picking.Picked.TheVariants.{Open, Ready}
use Rattle.board.proofs.CutLaws.{at_cleared, at_map, at_set_other, cut_same, cut_underway, cuts_issued, cuts_kept, cuts_without, open_past, open_same, open_unready}
use Rattle.stages.proofs.ListLaws.{get_end, get_set_other, length_snoc}
use Rattle.stages.proofs.NumberLaws.{numbers_same}
use Rattle.board.proofs.PickLaws.{fails, rank_either}
use Rattle.stages.proofs.ReadyLaws.{offered_is}

-- slots of whose tasks a piece wasn't taken
abbrev pub opens : List (Option Cut) → ℕ → Bool
opens cuts k = is_open (map (option_map cutting_of) cuts) k

-- ---- one slot more

parted_more : (cuts : List (Option Cut)) (parted : List ℕ) (n m : ℕ) → length cuts ≤ n → m ≡ suc n → parted ≡ numbers (opens cuts) n → parted ≡ numbers (opens cuts) m
parted_more cuts parted n m past more is = is ∙ (sym (fails (opens cuts) n (open_past cuts n past)) ∙ ap (numbers (opens cuts)) (sym more))

module _ {N : Type 0} (v w : View N) (cuts : List (Option Cut)) (parted : List ℕ) (sized : length v.progress ≡ length v.tasks)
    (are : AreCuts v.tasks v.progress cuts) (is : parted ≡ numbers (opens cuts) (length v.tasks)) where
  pub kept_issued : {A E : Type 0} (r : Result A E) (note : N) (r' : Recipe) (inputs : Roles ℕ) → OnOk r (w ≡ issued v note r' inputs) → OnErr r (w ≡ v)
      → AreCuts w.tasks w.progress cuts × (parted ≡ numbers (opens cuts) (length w.tasks))
  kept_issued (Ok x) note r' inputs new same = (
    subst (λ (u : View N). AreCuts u.tasks u.progress cuts) (sym new)
        (cuts_issued v.tasks v.progress cuts (record { recipe = r'; inputs = inputs }) (first_progress v.progress inputs) are sized),
    parted_more cuts parted (length v.tasks) (length w.tasks) are.sized
        (ap (λ (u : View N). length u.tasks) new ∙ length_snoc v.tasks (record { recipe = r'; inputs = inputs })) is,
  )
  kept_issued (Err x) note r' inputs new same = (
    subst (λ (u : View N). AreCuts u.tasks u.progress cuts) (sym same) are,
    is ∙ ap (λ (u : View N). numbers (opens cuts) (length u.tasks)) (sym same),
  )

  pub kept_placed : {A E : Type 0} (r : Result A E) (note : N) (given : Box Given) → OnOk r (w ≡ placed v note given) → OnErr r (w ≡ v)
      → AreCuts w.tasks w.progress cuts × (parted ≡ numbers (opens cuts) (length w.tasks))
  kept_placed {A = A} {E = E} (Err x) note given new same = kept_issued {A = A} {E = E} (Err x) note (recipe.Given given) no_roles tt same
  kept_placed (Ok x) note given new same =
      let t : Task = record { recipe = recipe.Given given; inputs = no_roles } in
      let more = cuts_issued v.tasks v.progress cuts t Untaken are sized in (
        subst (λ (u : View N). AreCuts u.tasks u.progress cuts) (sym new)
            (cuts_kept (v.tasks ++ t ∷ []) (v.progress ++ Untaken ∷ []) (slice_set (v.progress ++ Untaken ∷ []) (length v.tasks) Made) cuts more
            (λ k under. get_set_other (v.progress ++ Untaken ∷ []) (length v.tasks) k Made (λ e. last k e under))),
        parted_more cuts parted (length v.tasks) (length w.tasks) are.sized
            (ap (λ (u : View N). length u.tasks) new ∙ length_snoc v.tasks t) is,
      )
    where
      last : (k : ℕ) → k ≡ length v.tasks → is_underway (slice_get (v.progress ++ Untaken ∷ []) k) ≡ true → ⊥
      last k e under = let u : is_underway (slice_get (v.progress ++ Untaken ∷ []) k) ≡ false = ap is_underway (get_end v.progress Untaken k (e ∙ sym sized)) in cc (u, under)

-- ---- one slot's task is cut no longer

pub parted_without : (cuts after : List (Option Cut)) (parted next : List ℕ) (k n : ℕ) → after ≡ slice_set cuts k None
    → next ≡ numbers (λ j. opens cuts j && not (eqb j k)) n → next ≡ numbers (opens after) n
parted_without cuts after parted next k n set is =
    is ∙ numbers_same (λ j. opens cuts j && not (eqb j k)) (opens after) n (λ j low. here j ∙ ap (λ (l : List (Option Cut)). opens l j) (sym set))
  where
    and_true : (b : Bool) → (b && true) ≡ b
    and_true true = refl
    and_true false = refl

    and_false : (b : Bool) → (b && false) ≡ false
    and_false true = refl
    and_false false = refl

    here : (j : ℕ) → (opens cuts j && not (eqb j k)) ≡ opens (slice_set cuts k None) j
    here j = elim (cases_eq j k) [
      | inl e ↦
          ap (λ b. opens cuts j && not b) (eq-eqb j k e) ∙ (and_false (opens cuts j)
          ∙ sym (ap (λ (o : Option Cutting). option_map_or has_more o false)
          (at_map cutting_of (slice_set cuts k None) j ∙ ap (option_map cutting_of) (ap (at_slot (slice_set cuts k None)) e ∙ at_cleared cuts k))))
      | inr far ↦
          ap (λ b. opens cuts j && not b) (ne_eqb j k far) ∙ (and_true (opens cuts j)
          ∙ sym (open_same (map (option_map cutting_of) cuts) (map (option_map cutting_of) (slice_set cuts k None)) j
          (at_map cutting_of (slice_set cuts k None) j ∙ (ap (option_map cutting_of) (at_set_other cuts k j None far) ∙ sym (at_map cutting_of cuts j)))))
    ]

-- ---- one slot, whose task isn't cut, comes further

pub cuts_beside : (ts : List Task) (ps qs : List Progress) (cuts : List (Option Cut)) (n : ℕ) → AreCuts ts ps cuts → at_slot cuts n ≡ None
    → ((k : ℕ) → k ≢ n → is_underway (slice_get ps k) ≡ true → slice_get qs k ≡ slice_get ps k) → AreCuts ts qs cuts
cuts_beside ts ps qs cuts n are none stay = record {
  sized = are.sized;
  each_is = λ k c at.
      let is = are.each_is k c at in
      let far : k ≢ n = λ e. let none_here : at_slot cuts k ≡ None = ap (at_slot cuts) e ∙ none in cc (none_here, at) in
      cut_same ts (slice_get ps k) (slice_get qs k) k c is (stay k far (cut_underway ts (slice_get ps k) k c is));
}

-- ..if it does
pub kept_beside : {N A E : Type 0} (v w : View N) (cuts : List (Option Cut)) (parted : List ℕ) (n : ℕ) (p : Progress) (r : Result A E)
    → AreCuts v.tasks v.progress cuts → parted ≡ numbers (opens cuts) (length v.tasks) → at_slot cuts n ≡ None
    → OnOk r (w ≡ with_progress v n p) → OnErr r (w ≡ v)
    → AreCuts w.tasks w.progress cuts × (parted ≡ numbers (opens cuts) (length w.tasks))
kept_beside {N = N} v w cuts parted n p (Ok x) are is none new same = (
  subst (λ (u : View N). AreCuts u.tasks u.progress cuts) (sym new)
      (cuts_beside v.tasks v.progress (slice_set v.progress n p) cuts n are none (λ k far under. get_set_other v.progress n k p far)),
  is ∙ ap (λ (u : View N). numbers (opens cuts) (length u.tasks)) (sym new),
)
kept_beside {N = N} v w cuts parted n p (Err x) are is none new same = (
  subst (λ (u : View N). AreCuts u.tasks u.progress cuts) (sym same) are,
  is ∙ ap (λ (u : View N). numbers (opens cuts) (length u.tasks)) (sym same),
)

-- a slot whose task isn't cut
pub uncut : (cuts read : List (Option Cut)) (k : ℕ) (b : Bool) → read ≡ cuts → b ≡ is_some (at_slot read k) → b ≡ false → at_slot cuts k ≡ None
uncut cuts read k b same is false_is = none (at_slot cuts k) (sym (ap (λ (l : List (Option Cut)). is_some (at_slot l k)) same) ∙ (sym is ∙ false_is))
  where
    none : (o : Option Cut) → is_some o ≡ false → o ≡ None
    none None h = refl
    none (Some c) h = absurd cc

pub uncut_seen : (cuts : List (Option Cut)) (k : ℕ) → at_slot cuts k ≡ None → at_slot (map (option_map cutting_of) cuts) k ≡ None
uncut_seen cuts k none = at_map cutting_of cuts k ∙ ap (option_map cutting_of) none

pub uncut_there : (cuts : List (Option Cut)) (k : ℕ) → at_slot (map (option_map cutting_of) cuts) k ≡ None → at_slot cuts k ≡ None
uncut_there cuts k none = only (at_slot cuts k) (sym (at_map cutting_of cuts k) ∙ none)
  where
    only : (o : Option Cut) → option_map cutting_of o ≡ None → o ≡ None
    only None h = refl
    only (Some c) h = absurd cc

-- ---- who can be taken

module _ {N : Type 0} (v : View N) (cuts : List (Option Cut)) (are : AreCuts v.tasks v.progress cuts) where
  pub count_offered : length (offered_on v (map (option_map cutting_of) cuts)) ≡ length (offered v.tasks v.progress) + length (numbers (opens cuts) (length v.tasks))
  unfolding offered_on
  count_offered =
      rank_either (is_ready v.tasks v.progress) (opens cuts) (open_unready v.tasks v.progress cuts are) (length v.tasks)
      ∙ ap (λ l. length l + length (numbers (opens cuts) (length v.tasks))) (offered_is v.tasks v.progress)

index_at : (xs : List ℕ) (i k : ℕ) → slice_get xs i ≡ Some k → slice_index xs i ≡ k
index_at [] i k h = absurd cc
index_at (x ∷ xs) zero k h = cc (h)
index_at (x ∷ xs) (suc i) k h = index_at xs i k h

pub found_at : {N : Type 0} (v : View N) (cs : List (Option Cutting)) (pick count place : ℕ) (picked : Picked)
    → count ≡ length (offered_on v cs) → place ≡ pick % count
    → IsPicked (is_ready v.tasks v.progress) (is_open cs) (length v.tasks) place picked → IsFound v cs pick picked
unfolding offered_on
found_at v cs pick count place (Ready at) counted placed (k, there, among) =
    ap (λ l. slice_get l at) (sym (offered_is v.tasks v.progress)) ∙ (there ∙ ap Some (sym (index_at (offered_on v cs) (pick % length (offered_on v cs)) k
    (ap (λ n. slice_get (offered_on v cs) (pick % n)) (sym counted) ∙ (ap (slice_get (offered_on v cs)) (sym placed) ∙ among)))))
found_at v cs pick count place (Open k) counted placed (more, among) = (
  sym (index_at (offered_on v cs) (pick % length (offered_on v cs)) k
      (ap (λ n. slice_get (offered_on v cs) (pick % n)) (sym counted) ∙ (ap (slice_get (offered_on v cs)) (sym placed) ∙ among))),
  more,
)

-- ---- a slot's task is cut no longer

pub forgotten : {N : Type 0} (v w : View N) (cuts after : List (Option Cut)) (parted next : List ℕ) (n : ℕ)
    → AreCuts v.tasks v.progress cuts → parted ≡ numbers (opens cuts) (length v.tasks) → w.tasks ≡ v.tasks → n < length v.tasks
    → ((k : ℕ) → k ≢ n → is_underway (slice_get v.progress k) ≡ true → slice_get w.progress k ≡ slice_get v.progress k)
    → after ≡ slice_set cuts n None
    → ((p : ℕ → Bool) (m : ℕ) → parted ≡ numbers p m → n < m → next ≡ numbers (λ k. p k && not (eqb k n)) m)
    → AreCuts w.tasks w.progress after × (next ≡ numbers (opens after) (length w.tasks))
forgotten v w cuts after parted next n are is tasks low stay set withdraws = (
  subst (λ (l : List (Option Cut)). AreCuts w.tasks w.progress l) (sym set)
      (subst (λ (ts : List Task). AreCuts ts w.progress (slice_set cuts n None)) (sym tasks) (cuts_without v.tasks v.progress w.progress cuts n are stay)),
  parted_without cuts after parted next n (length w.tasks) set
      (withdraws (opens cuts) (length v.tasks) is low ∙ ap (λ (ts : List Task). numbers (λ k. opens cuts k && not (eqb k n)) (length ts)) (sym tasks)),
)

-- ..of one that comes to another stage
pub forgotten_set : {N : Type 0} (v w : View N) (cuts after : List (Option Cut)) (parted next : List ℕ) (n : ℕ) (p : Progress)
    → AreCuts v.tasks v.progress cuts → parted ≡ numbers (opens cuts) (length v.tasks) → w ≡ with_progress v n p → n < length v.tasks
    → after ≡ slice_set cuts n None
    → ((p : ℕ → Bool) (m : ℕ) → parted ≡ numbers p m → n < m → next ≡ numbers (λ k. p k && not (eqb k n)) m)
    → AreCuts w.tasks w.progress after × (next ≡ numbers (opens after) (length w.tasks))
forgotten_set {N = N} v w cuts after parted next n p are is new low set withdraws =
    forgotten v w cuts after parted next n are is (ap (λ (u : View N). u.tasks) new) low
    (λ k far under. ap (λ (u : View N). slice_get u.progress k) new ∙ get_set_other v.progress n k p far) set withdraws

-- ..or fails with others
pub forgotten_failed : {N : Type 0} (v w : View N) (cuts after : List (Option Cut)) (parted next : List ℕ) (n : ℕ)
    → AreCuts v.tasks v.progress cuts → parted ≡ numbers (opens cuts) (length v.tasks) → w ≡ failed v n → n < length v.tasks
    → ((k : ℕ) → k ≢ n → is_underway (slice_get v.progress k) ≡ true → slice_get w.progress k ≡ slice_get v.progress k)
    → after ≡ slice_set cuts n None
    → ((p : ℕ → Bool) (m : ℕ) → parted ≡ numbers p m → n < m → next ≡ numbers (λ k. p k && not (eqb k n)) m)
    → AreCuts w.tasks w.progress after × (next ≡ numbers (opens after) (length w.tasks))
forgotten_failed {N = N} v w cuts after parted next n are is new low stay set withdraws =
    forgotten v w cuts after parted next n are is (ap (λ (u : View N). u.tasks) new) low stay set withdraws

-- what was accepted might be
pub ok_may : (r : Result (Unit {0}) Refusal) (b : Bool) (x : Unit {0}) → r ≡ Ok x → r ≡ cond b (Ok tt) (Err Stranger) → b ≡ true
ok_may r true x ok is = refl
ok_may r false x ok is = absurd (let e : Ok x ≡ Err Stranger = sym ok ∙ is in cc (e))

-- a slot of which something is known is there
pub there_by : (f : Option Progress → Bool) (ps : List Progress) (k n : ℕ) → f None ≡ false → f (slice_get ps k) ≡ true → length ps ≡ n → k < n
there_by f ps k n none some size = elim (cases_lt k (length ps)) [
  | inl low ↦ omega (arith, low, size)
  | inr past ↦ absurd (let e : f (slice_get ps k) ≡ false = ap f (slice_get_past ps k past) ∙ none in cc (e, some))
]
