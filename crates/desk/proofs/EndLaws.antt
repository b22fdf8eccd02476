-- What is left to do becomes less with each slot that is finished.
use Rattle.std.proofs.Common.{◌≡◌, ◌∙◌, ℕ, zero, suc, ◌+◌, ◌<◌, ◌≤◌, ◌&&◌, ◌||◌, Bool, true, false, cond, List, [], ◌∷◌, length, Option, Some, None, slice_get, slice_set, refl, sym, ap, subst, arith, le_of_eq, le_refl, le_trans, lt_of_le_of_lt}
use Rattle.std.proofs.lemmas.Bool.{and_parts}
use Rattle.std.specs.Prelude.{OnErr, OnOk, Result, Ok, Err}
use Rattle.std.specs.Option.{option_and_then, option_map_or}
use Rattle.board.specs.Events.{failed, may_fail, moved_by, sole_in, taken, with_moved, with_progress}
use Rattle.board.specs.Falls.{fall_at, fallen, fallen_below, falls}
use Rattle.stages.specs.Places.{each}
use Rattle.stages.specs.Progress.{Progress, Untaken, Running, Joining, Made, Moved, Failed, is_joining, is_made, is_running, is_unfinished, is_untaken}
use Rattle.stages.specs.Tasks.{Task}
use Rattle.stages.specs.Views.{View, is_fed, is_ready}
use Rattle.board.specs.declared.look.Refusal.{Refusal}
use Rattle.board.specs.declared.look.Refusal.TheVariants.{Stranger}
use Rattle.stages.proofs.ListLaws.{get_set_other, get_set_same}
use Rattle.stages.proofs.PlaceLaws.{each-at}
use Rattle.stages.proofs.ReadyLaws.{untaken_some}
use Rattle.calls.specs.declared.role.Role.TheVariants.{Old}
use Rattle.desk.specs.Ends.{unfinished}

-- what a slot adds
abbrev counts : Progress → ℕ
counts p = cond (is_unfinished p) 1 0

set_counts : (ps : List Progress) (k : ℕ) (p q : Progress) → slice_get ps k ≡ Some p
    → unfinished (slice_set ps k q) + counts p ≡ unfinished ps + counts q
set_counts [] k p q was = absurd cc
set_counts (r ∷ ps) zero p q was =
    let had : r ≡ p = cc (was) in
    let same : counts r ≡ counts p = ap counts had in
    omega (arith, same)
set_counts (r ∷ ps) (suc k) p q was = let rest = set_counts ps k p q was in omega (arith, rest)

-- one slot is finished
pub fewer_set : (ps : List Progress) (k : ℕ) (p q : Progress) → slice_get ps k ≡ Some p → is_unfinished p ≡ true
    → is_unfinished q ≡ false → unfinished (slice_set ps k q) < unfinished ps
fewer_set ps k p q was before after =
    let all = set_counts ps k p q was in
    let a : counts p ≡ 1 = ap (λ b. cond b 1 0) before in
    let b : counts q ≡ 0 = ap (λ b. cond b 1 0) after in
    omega (arith, all, a, b)

-- one stays unfinished
pub same_set : (ps : List Progress) (k : ℕ) (p q : Progress) → slice_get ps k ≡ Some p → is_unfinished p ≡ true
    → is_unfinished q ≡ true → unfinished (slice_set ps k q) ≡ unfinished ps
same_set ps k p q was before after =
    let all = set_counts ps k p q was in
    let a : counts p ≡ 1 = ap (λ b. cond b 1 0) before in
    let b : counts q ≡ 1 = ap (λ b. cond b 1 0) after in
    omega (arith, all, a, b)

-- one is finished, or was before
at_most_set : (ps : List Progress) (k : ℕ) (q : Progress) → is_unfinished q ≡ false
    → unfinished (slice_set ps k q) ≤ unfinished ps
at_most_set [] k q after = omega arith
at_most_set (r ∷ ps) zero q after =
    let b : counts q ≡ 0 = ap (λ b. cond b 1 0) after in omega (arith, b)
at_most_set (r ∷ ps) (suc k) q after = let rest = at_most_set ps k q after in omega (arith, rest)

-- ---- failures

at_most_fall : (ts : List Task) (k : ℕ) (ps : List Progress) → unfinished (fall_at ts k ps) ≤ unfinished ps
at_most_fall ts k ps = by_test (falls ts ps k)
  where
    by_test : (b : Bool) → unfinished (cond b (slice_set ps k Failed) ps) ≤ unfinished ps
    by_test true = at_most_set ps k Failed refl
    by_test false = le_refl _

at_most_below : (ts : List Task) (n : ℕ) (ps : List Progress) → unfinished (fallen_below ts n ps) ≤ unfinished ps
at_most_below ts zero ps = le_refl _
at_most_below ts (suc n) ps = le_trans (at_most_fall ts n (fallen_below ts n ps)) (at_most_below ts n ps)

at_most_fallen : (ts : List Task) (ps : List Progress) → unfinished (fallen ts ps) ≤ unfinished ps
unfolding fallen
at_most_fallen ts ps = at_most_below ts (length ts) ps

-- what can fail is unfinished
unfinished_some : (o : Option Progress) → (is_untaken o || (is_running o || is_joining o)) ≡ true
    → (p : Progress) × ((o ≡ Some p) × (is_unfinished p ≡ true))
unfinished_some None h = absurd cc
unfinished_some (Some Untaken) h = (Untaken, (refl, refl))
unfinished_some (Some Running) h = (Running, (refl, refl))
unfinished_some (Some Joining) h = (Joining, (refl, refl))
unfinished_some (Some Made) h = absurd cc
unfinished_some (Some Moved) h = absurd cc
unfinished_some (Some Failed) h = absurd cc

pub fewer_failed : {N : Type 0} (v : View N) (k : ℕ) → may_fail v k ≡ true
    → unfinished (failed v k).progress < unfinished v.progress
fewer_failed v k may =
    let (p, (was, before)) = unfinished_some (slice_get v.progress k) (weaker (is_untaken (slice_get v.progress k)) (is_fed v.tasks v.progress k)
    (is_running (slice_get v.progress k) || is_joining (slice_get v.progress k)) may) in
    lt_of_le_of_lt (at_most_fallen v.tasks (slice_set v.progress k Failed)) (fewer_set v.progress k p Failed was before refl)
  where
    weaker : (x y z : Bool) → ((x && y) || z) ≡ true → (x || z) ≡ true
    weaker true y z h = refl
    weaker false y z h = h

-- ---- a slot that is taken

at_most_moved : (ps : List Progress) (o : Option ℕ) → unfinished (with_moved ps o) ≤ unfinished ps
at_most_moved ps None = le_refl _
at_most_moved ps (Some i) = at_most_set ps i Moved refl

module _ {N : Type 0} (v : View N) (k : ℕ) (ready : is_ready v.tasks v.progress k ≡ true) where
  untaken : is_untaken (slice_get v.progress k) ≡ true
  untaken = (and_parts _ (is_fed v.tasks v.progress k) ready).0

  was : slice_get v.progress k ≡ Some Untaken
  was = untaken_some (slice_get v.progress k) untaken

  pub at_most_taken : unfinished (taken v k).progress ≤ unfinished v.progress
  at_most_taken = le_trans (at_most_moved (slice_set v.progress k Running) (moved_by v k)) (le_of_eq (same_set v.progress k Untaken Running was refl refl))

  -- it runs, since the slot whose store is moved was made
  pub running_taken : is_running (slice_get (taken v k).progress k) ≡ true
  running_taken = by_moved (moved_by v k) (λ i is. moved_made (slice_get v.tasks k) i (and_parts _ (is_fed v.tasks v.progress k) ready).1 is)
    where
      running : slice_get (slice_set v.progress k Running) k ≡ Some Running
      running = get_set_same v.progress k Running Untaken was

      if_some : (b : Bool) (j i : ℕ) → cond b (Some j) None ≡ Some i → j ≡ i
      if_some true j i is = cc (is)
      if_some false j i is = absurd cc

      sole_old : (o : Option ℕ) (i : ℕ) → sole_in v.tasks v.progress v.holds o ≡ Some i → o ≡ Some i
      sole_old None i is = absurd cc
      sole_old (Some j) i is = ap Some (if_some _ j i is)

      moved_made : (o : Option Task) (i : ℕ)
          → option_map_or (λ t. each (λ j. is_made (slice_get v.progress j)) t.inputs) o false ≡ true
          → option_and_then (λ t. sole_in v.tasks v.progress v.holds t.inputs.old) o ≡ Some i
          → is_made (slice_get v.progress i) ≡ true
      moved_made None i fed is = absurd cc
      moved_made (Some t) i fed is = each-at (λ j. is_made (slice_get v.progress j)) t.inputs fed Old i (sole_old t.inputs.old i is)

      by_moved : (o : Option ℕ) → ((i : ℕ) → o ≡ Some i → is_made (slice_get v.progress i) ≡ true)
          → is_running (slice_get (with_moved (slice_set v.progress k Running) o) k) ≡ true
      by_moved None made = ap is_running running
      by_moved (Some i) made = ap is_running (get_set_other (slice_set v.progress k Running) i k Moved
          (λ e. let no : is_made (Some Untaken) ≡ true = ap is_made (sym was) ∙ (ap (λ j. is_made (slice_get v.progress j)) e ∙ made i refl) in absurd (cc (no)))
          ∙ running)

-- a slot that fails
pub fewer_left : {N : Type 0} (v after : View N) (k : ℕ) (r : Result (Unit {0}) Refusal)
    → r ≡ cond (may_fail v k) (Ok tt) (Err Stranger) → OnOk r (after ≡ failed v k) → may_fail v k ≡ true
    → unfinished after.progress < unfinished v.progress
fewer_left v after k r answer failing may =
    let ok : r ≡ Ok tt = answer ∙ ap (λ (b : Bool). cond b (Ok tt) (Err Stranger)) may in
    let is : after ≡ failed v k = subst (λ (s : Result (Unit {0}) Refusal). OnOk s (after ≡ failed v k)) ok failing in
    let less = fewer_failed v k may in
    let same = ap (λ (u : View _). unfinished u.progress) is in
    omega (arith, less, same)

-- ---- a piece of work

running_some : (o : Option Progress) → is_running o ≡ true → o ≡ Some Running
running_some None h = absurd cc
running_some (Some r) h = elim r as (λ r. is_running (Some r) ≡ true → Some r ≡ Some Running) [ Running ↦ λ h. refl | _ ↦ λ h. absurd cc ] h

pub or_right : (x y z : Bool) → (y || z) ≡ true → (x || (y || z)) ≡ true
or_right true y z h = refl
or_right false y z h = h

pub or_left : (y z : Bool) → y ≡ true → (y || z) ≡ true
or_left true z h = refl
or_left false z h = absurd cc

module _ {N : Type 0} (v after : View N) (k : ℕ) (r : Result (Unit {0}) Refusal)
    (runs : is_running (slice_get v.progress k) ≡ true) where
  -- its store was handed in, where its task isn't cut
  pub fewer_handed : (uncut : Bool) → uncut ≡ true
      → r ≡ cond (is_running (slice_get v.progress k) && uncut) (Ok tt) (Err Stranger)
      → OnOk r (after ≡ with_progress v k Made) → unfinished after.progress < unfinished v.progress
  fewer_handed uncut is_uncut answer made =
      let ok : r ≡ Ok tt = answer ∙ (ap (λ (b : Bool). cond (b && uncut) (Ok tt) (Err Stranger)) runs
      ∙ ap (λ (b : Bool). cond b (Ok tt) (Err Stranger)) is_uncut) in
      let is : after ≡ with_progress v k Made = subst (λ (s : Result (Unit {0}) Refusal). OnOk s (after ≡ with_progress v k Made)) ok made in
      let less = fewer_set v.progress k Running Made (running_some (slice_get v.progress k) runs) refl refl in
      let same = ap (λ (u : View N). unfinished u.progress) is in
      omega (arith, less, same)

  -- it failed
  pub fewer_ended : r ≡ cond (may_fail v k) (Ok tt) (Err Stranger) → OnOk r (after ≡ failed v k)
      → unfinished after.progress < unfinished v.progress
  fewer_ended answer failing =
      let out = is_running (slice_get v.progress k) in
      fewer_left v after k r answer failing
      (or_right (is_ready v.tasks v.progress k) out (is_joining (slice_get v.progress k)) (or_left out (is_joining (slice_get v.progress k)) runs))

-- a slot that fails, or doesn't, changes no task and no note
pub same_failed : {N : Type 0} (v w after : View N) (k : ℕ) (r : Result (Unit {0}) Refusal) → w ≡ v
    → OnOk r (after ≡ failed w k) → OnErr r (after ≡ w) → (after.tasks ≡ v.tasks) × (after.notes ≡ v.notes)
same_failed v w after k (Ok x) same failing kept =
    (ap (λ (u : View _). u.tasks) failing ∙ ap (λ (u : View _). u.tasks) same, ap (λ (u : View _). u.notes) failing ∙ ap (λ (u : View _). u.notes) same)
same_failed v w after k (Err why) same failing kept =
    (ap (λ (u : View _). u.tasks) (kept ∙ same), ap (λ (u : View _). u.notes) (kept ∙ same))
