-- Nobody works on a slot before one is taken, and once work on it has ended.
use Rattle.std.proofs.Common.{◌≡◌, ℕ, zero, suc, ◌||◌, ◌++◌, Bool, true, false, not, cond, eqb, List, [], ◌∷◌, length, Option, Some, None, slice_get, slice_set, refl, sym, ap, subst, inl, inr}
use Rattle.std.proofs.lemmas.Bool.{cases_Bool}
use Rattle.std.specs.Prelude.{MatchOption, OnErr, OnOk, Result, Ok, Err}
use Rattle.std.specs.Option.{IfSome}
use Rattle.std.specs.Global.{Box}
use Rattle.calls.specs.declared.recipe.Given.{Given as There}
use Rattle.calls.specs.declared.recipe.Recipe.{Recipe}
use Rattle.calls.specs.declared.recipe.Recipe.TheVariants as recipe
use Rattle.calls.specs.declared.role.Roles.{Roles}
use Rattle.calls.specs.Roles.{no_roles}
use Rattle.board.specs.Cuts.{Cutting, IsTakenBy, IsTakenFrom}
use Rattle.board.specs.Events.{failed, first_progress, issued, may_fail, moved_by, placed, with_moved}
use Rattle.board.specs.Falls.{fall_at, fallen, fallen_below, falls}
use Rattle.board.specs.Looks.{SeenUnfinished, seen_of}
use Rattle.board.specs.declared.piece.Piece.{Piece}
use Rattle.stages.specs.Places.{each}
use Rattle.stages.specs.Progress.{Progress, Untaken, Running, Joining, Made, Moved, Failed, is_failed, is_joining, is_running, is_underway, is_unfinished}
use Rattle.stages.specs.Tasks.{Task}
use Rattle.stages.specs.Views.{IsDone, IsGone, View, is_fed, is_ready, state_of, state_with, uses_of}
use Rattle.desk.specs.Ends.{IsIdle, IsIdleBut, felled, handed_in}
use Rattle.desk.specs.Works.{AreUncut}
use Rattle.desk.proofs.CutLaws.{closed}
use Rattle.desk.proofs.EndLaws.{or_left, or_right}

is_false : (b : Bool) → (b ≡ true → ⊥) → b ≡ false
is_false b never = elim (cases_Bool b) [ inl is ↦ absurd (never is) | inr other ↦ other ]

-- ---- one slot comes as far as nobody works on it

pub idle_set : (ps : List Progress) (k : ℕ) (q : Progress) → is_underway (Some q) ≡ false → IsIdle ps → IsIdle (slice_set ps k q)
idle_set [] k q ended idle j = idle j
idle_set (p ∷ ps) zero q ended idle zero = ended
idle_set (p ∷ ps) zero q ended idle (suc j) = idle (suc j)
idle_set (p ∷ ps) (suc k) q ended idle zero = idle zero
idle_set (p ∷ ps) (suc k) q ended idle (suc j) = idle_set ps k q ended (λ i. idle (suc i)) j

-- ..the one on which somebody works
ended_set : (ps : List Progress) (k : ℕ) (q : Progress) → is_underway (Some q) ≡ false → IsIdleBut k ps → IsIdle (slice_set ps k q)
ended_set [] k q ended but j = refl
ended_set (p ∷ ps) zero q ended but zero = ended
ended_set (p ∷ ps) zero q ended but (suc j) = is_false (is_underway (slice_get ps j)) (λ works. let e = but (suc j) works in absurd (cc (e)))
ended_set (p ∷ ps) (suc k) q ended but zero = is_false (is_underway (Some p)) (λ works. let e = but zero works in absurd (cc (e)))
ended_set (p ∷ ps) (suc k) q ended but (suc j) = ended_set ps k q ended (λ i works. let e = but (suc i) works in cc (e)) j

-- ..another one
but_set : (ps : List Progress) (n i : ℕ) (q : Progress) → is_underway (Some q) ≡ false → IsIdleBut n ps → IsIdleBut n (slice_set ps i q)
but_set [] n i q ended but j works = but j works
but_set (p ∷ ps) n zero q ended but zero works = absurd (cc (ended, works))
but_set (p ∷ ps) n zero q ended but (suc j) works = but (suc j) works
but_set (p ∷ ps) n (suc i) q ended but zero works = but zero works
but_set (p ∷ ps) zero (suc i) q ended but (suc j) works =
    absurd (shifted j works)
  where
    none : IsIdle ps
    none k = is_false (is_underway (slice_get ps k)) (λ works. let e = but (suc k) works in absurd (cc (e)))

    shifted : (j : ℕ) → is_underway (slice_get (slice_set ps i q) j) ≡ true → ⊥
    shifted j works = let idle = idle_set ps i q ended none j in absurd (cc (idle, works))
but_set (p ∷ ps) (suc n) (suc i) q ended but (suc j) works =
    ap suc (but_set ps n i q ended (λ k at. let e = but (suc k) at in cc (e)) j works)

-- somebody begins to work on one
begun_set : (ps : List Progress) (k : ℕ) (q : Progress) → IsIdle ps → IsIdleBut k (slice_set ps k q)
begun_set [] k q idle j works = let none = idle j in absurd (cc (none, works))
begun_set (p ∷ ps) zero q idle zero works = refl
begun_set (p ∷ ps) zero q idle (suc j) works = let none = idle (suc j) in absurd (cc (none, works))
begun_set (p ∷ ps) (suc k) q idle zero works = let none = idle zero in absurd (cc (none, works))
begun_set (p ∷ ps) (suc k) q idle (suc j) works = ap suc (begun_set ps k q (λ i. idle (suc i)) j works)

-- a slot more, on which nobody works
idle_more : (ps : List Progress) (q : Progress) → is_underway (Some q) ≡ false → IsIdle ps → IsIdle (ps ++ q ∷ [])
idle_more [] q ended idle zero = ended
idle_more [] q ended idle (suc j) = refl
idle_more (p ∷ ps) q ended idle zero = idle zero
idle_more (p ∷ ps) q ended idle (suc j) = idle_more ps q ended (λ i. idle (suc i)) j

-- ---- slots that fail with others

idle_fall : (ts : List Task) (k : ℕ) (ps : List Progress) → IsIdle ps → IsIdle (fall_at ts k ps)
idle_fall ts k ps idle = by_test (falls ts ps k)
  where
    by_test : (b : Bool) → IsIdle (cond b (slice_set ps k Failed) ps)
    by_test true = idle_set ps k Failed refl idle
    by_test false = idle

idle_below : (ts : List Task) (n : ℕ) (ps : List Progress) → IsIdle ps → IsIdle (fallen_below ts n ps)
idle_below ts zero ps idle = idle
idle_below ts (suc n) ps idle = idle_fall ts n (fallen_below ts n ps) (idle_below ts n ps idle)

idle_fallen : (ts : List Task) (ps : List Progress) → IsIdle ps → IsIdle (fallen ts ps)
unfolding fallen
idle_fallen ts ps idle = idle_below ts (length ts) ps idle

-- ---- events

pub idle_issued : {N : Type 0} (v : View N) (note : N) (recipe : Recipe) (inputs : Roles ℕ) → IsIdle v.progress
    → IsIdle (issued v note recipe inputs).progress
idle_issued v note recipe inputs idle =
    idle_more v.progress (first_progress v.progress inputs) (by_test (each (λ i. not (is_failed (slice_get v.progress i))) inputs)) idle
  where
    by_test : (b : Bool) → is_underway (Some (cond b Untaken Failed)) ≡ false
    by_test true = refl
    by_test false = refl

pub idle_placed : {N : Type 0} (v : View N) (note : N) (given : Box There) → IsIdle v.progress → IsIdle (placed v note given).progress
idle_placed v note given idle =
    idle_set (issued v note (recipe.Given given) no_roles).progress (length v.tasks) Made refl (idle_issued v note (recipe.Given given) no_roles idle)

-- an event, or what it was refused
pub idle_after : {N : Type 0} {A E : Type 0} (v w u : View N) (r : Result A E) → OnOk r (w ≡ u) → OnErr r (w ≡ v)
    → IsIdle u.progress → IsIdle v.progress → IsIdle w.progress
idle_after v w u (Ok x) done refused after before = subst (λ t. IsIdle t.progress) (sym done) after
idle_after v w u (Err why) done refused after before = subst (λ t. IsIdle t.progress) (sym refused) before

-- a slot fails
pub idle_failed : {N : Type 0} (v : View N) (k : ℕ) → IsIdle v.progress → IsIdle (failed v k).progress
idle_failed v k idle = idle_fallen v.tasks (slice_set v.progress k Failed) (idle_set v.progress k Failed refl idle)

-- a task goes out, where one can
pub idle_taken : {N : Type 0} (v w : View N) (cs ds : List (Option Cutting)) → AreUncut cs → (o : Option Piece)
    → IfSome o (λ piece. IsTakenFrom v cs [] piece w ds) → (o ≡ None → w ≡ v) → IsIdle v.progress
    → MatchOption o (IsIdle w.progress) (λ piece. IsIdleBut piece.number w.progress)
idle_taken v w cs ds uncut None out same idle = subst (λ u. IsIdle u.progress) (sym (same refl)) idle
idle_taken v w cs ds uncut (Some piece) out same idle =
    let is = (subst (λ b. IsTakenBy b v cs [] piece w ds) (closed v w cs ds uncut piece.number) out).0 in
    subst (λ u. IsIdleBut piece.number u.progress) (sym is) (moved (moved_by v piece.number))
  where
    moved : (o : Option ℕ) → IsIdleBut piece.number (with_moved (slice_set v.progress piece.number Running) o)
    moved None = begun_set v.progress piece.number Running idle
    moved (Some i) = but_set (slice_set v.progress piece.number Running) piece.number i Moved refl (begun_set v.progress piece.number Running idle)

-- ..and its work ends: its store is handed in
pub idle_handed_in : {N : Type 0} (v : View N) (c : Option Cutting) (k : ℕ) → is_running (slice_get v.progress k) ≡ true → c ≡ None
    → IsIdleBut k v.progress → IsIdle (handed_in v c k).progress
idle_handed_in v c k runs uncut but =
    rw (runs, uncut) (ended_set v.progress k Made refl but)

-- ..or it fails
pub idle_felled : {N : Type 0} (v : View N) (k : ℕ) → is_running (slice_get v.progress k) ≡ true
    → IsIdleBut k v.progress → IsIdle (felled v k).progress
idle_felled v k runs but =
    let may : may_fail v k ≡ true = or_right (is_ready v.tasks v.progress k) (is_running (slice_get v.progress k)) (is_joining (slice_get v.progress k))
    (or_left (is_running (slice_get v.progress k)) (is_joining (slice_get v.progress k)) runs) in
    rw may (idle_fallen v.tasks (slice_set v.progress k Failed) (ended_set v.progress k Failed refl but))

-- ---- where nobody works, and nothing can be taken

-- a slot that is finished isn't to come
pub none_to_come : {N : Type 0} (v : View N) (k : ℕ) → ((p : Progress) → slice_get v.progress k ≡ Some p → is_unfinished p ≡ false)
    → seen_of (state_of v k) ≡ SeenUnfinished → ⊥
none_to_come v k all = at (slice_get v.progress k) all
  where
    done : (b : Bool) → seen_of (cond b IsGone IsDone) ≡ SeenUnfinished → ⊥
    done true e = absurd (cc (e))
    done false e = absurd (cc (e))

    at : (o : Option Progress) → ((p : Progress) → o ≡ Some p → is_unfinished p ≡ false)
        → seen_of (state_with o (is_fed v.tasks v.progress k) (uses_of v.tasks v.progress v.holds k)) ≡ SeenUnfinished → ⊥
    at None h e = absurd (cc (e))
    at (Some Untaken) h e = let finished = h Untaken refl in absurd (cc (finished))
    at (Some Running) h e = let finished = h Running refl in absurd (cc (finished))
    at (Some Joining) h e = let finished = h Joining refl in absurd (cc (finished))
    at (Some Made) h e = done (eqb (uses_of v.tasks v.progress v.holds k) 0) e
    at (Some Moved) h e = absurd (cc (e))
    at (Some Failed) h e = absurd (cc (e))

-- somebody works neither on a piece of it nor on a join
pub none_works : (ps : List Progress) → IsIdle ps → (k : ℕ) → (is_running (slice_get ps k) ≡ false) × (is_joining (slice_get ps k) ≡ false)
none_works ps idle k = neither (is_running (slice_get ps k)) (is_joining (slice_get ps k)) (idle k)
  where
    neither : (a b : Bool) → (a || b) ≡ false → (a ≡ false) × (b ≡ false)
    neither true b h = absurd (cc (h))
    neither false b h = (refl, h)
