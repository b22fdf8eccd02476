-- What a sound board shows, and what its events leave.
use Rattle.std.proofs.Common.{inl, inr, ◌≡◌, ◌≢◌, ◌∙◌, ℕ, ◌+◌, ◌-◌, ◌<◌, ◌≤◌, ◌&&◌, ◌||◌, Bool, true, false, cond, eqb, List, [], length, map, Option, IfSome, Some, None, slice_get, slice_set, refl, sym, ap, arith, subst, ◌⊎◌}
use Rattle.std.specs.Prelude.{not, slice_index}
use Rattle.std.proofs.Common.{get_or}
use Rattle.std.specs.Option.{option_and_then, option_map}
use Rattle.std.proofs.lemmas.Bool.{cases_eq, cases_lt, ne_eqb, eq-eqb, eqb-false}
use Rattle.std.proofs.lemmas.List.{get_or-set_other, get_or-set_same, length-map, map-set, set_past}
use Rattle.std.proofs.lemmas.Option.{slice_get-map, slice_get_past, slice_get_read, slice_get_within}
use Rattle.calls.specs.declared.role.Roles.{Roles}
use Rattle.store.specs.Stored.{Stored}
use Rattle.runner.specs.Tickets.{IsStoreFor}
use Rattle.board.specs.Events.{failed, is_gone, with_holds, with_progress}
use Rattle.board.specs.Falls.{fallen}
use Rattle.board.specs.Looks.{Seen, is_seen_gone, seen_at, seen_of}
use Rattle.stages.specs.Places.{place_of, places_of}
use Rattle.stages.specs.Numbers.{has, numbers}
use Rattle.stages.specs.Progress.{Progress, Failed, Joining, Made, is_joining, is_running}
use Rattle.board.specs.Sound.{IsSound}
use Rattle.stages.specs.Stages.{is_among, is_at, progress_of, recipe_in, released_if, stored_in}
use Rattle.stages.specs.Stages.{is_gone as stage_gone}
use Rattle.stages.specs.Tasks.{Task, object_at}
use Rattle.stages.specs.Views.{View, State, IsWaiting, IsReady, IsRunning, IsJoining, IsDone, HasFailed, IsGone, is_fed, is_ready, state_with, uses_of}
use Rattle.stages.specs.declared.stage.Stage.{Stage}
use Rattle.stages.specs.declared.stage.Stage.TheVariants as stage
use Rattle.stages.proofs.ListLaws.{get_there, length_set}
use Rattle.stages.proofs.ReadLaws.{reads_above}
use Rattle.stages.proofs.ReadyLaws.{offered_is}
use Rattle.stages.proofs.StageLaws.{released_twice}
use Rattle.board.proofs.SoundLaws.{progress_at, sound_hold, sound_joining, sound_released, sound_whole}

-- ---- states

pub gone_seen : (s : State) → is_gone s ≡ is_seen_gone (seen_of s)
gone_seen IsWaiting = refl
gone_seen IsReady = refl
gone_seen IsRunning = refl
gone_seen IsJoining = refl
gone_seen IsDone = refl
gone_seen HasFailed = refl
gone_seen IsGone = refl

or_parts : (a b : Bool) → (a || b) ≡ false → (a ≡ false) × (b ≡ false)
or_parts true b h = absurd cc
or_parts false b h = (refl, h)

place_none : (o : Option ℕ) (j : ℕ) → is_at o j ≡ false → place_of o j ≡ 0
place_none None j h = refl
place_none (Some i) j h = ap (λ b. cond b 1 0) h

pub among_none : (inputs : Roles ℕ) (j : ℕ) → is_among inputs j ≡ false → places_of inputs j ≡ 0
among_none inputs j h =
    let a = or_parts ((is_at inputs.old j || is_at inputs.mask j) || is_at inputs.first j) (is_at inputs.second j) h in
    let b = or_parts (is_at inputs.old j || is_at inputs.mask j) (is_at inputs.first j) a.0 in
    let c = or_parts (is_at inputs.old j) (is_at inputs.mask j) b.0 in
    omega (arith, place_none inputs.old j c.0, place_none inputs.mask j c.1, place_none inputs.first j b.1, place_none inputs.second j a.1)

module _ (ts : List Task) (stages : List Stage) (holds reads : List ℕ) (readers : List (List ℕ)) (ready : List ℕ) (room : ℕ)
    (sound : IsSound ts stages holds reads readers ready room) where
  pub size : (k : ℕ) (st : Stage) → slice_get stages k ≡ Some st → k < length ts
  size k st is = let l = slice_get_within stages k st is in omega (arith, l, sound.flows.sized, length-map stages progress_of)

  pub task_at : (k : ℕ) (st : Stage) → slice_get stages k ≡ Some st → (t : Task) × (slice_get ts k ≡ Some t)
  task_at k st is = get_there ts k (size k st is)

  pub seen_is : (k : ℕ) → seen_of (state_with (slice_get (map progress_of stages) k) (is_fed ts (map progress_of stages) k) (uses_of ts (map progress_of stages) holds k))
      ≡ seen_at (slice_get stages k)
  seen_is k = go (slice_get stages k) refl
    where
      shown : Option Progress → Seen
      shown o = seen_of (state_with o (is_fed ts (map progress_of stages) k) (uses_of ts (map progress_of stages) holds k))

      either : (b : Bool) → seen_of (cond b IsReady IsWaiting) ≡ seen_of IsReady
      either true = refl
      either false = refl

      at : (o : Option Stage) → slice_get stages k ≡ o → slice_get (map progress_of stages) k ≡ option_map progress_of o
      at o is = slice_get-map progress_of stages k ∙ ap (option_map progress_of) is

      go : (o : Option Stage) → slice_get stages k ≡ o
          → seen_of (state_with (slice_get (map progress_of stages) k) (is_fed ts (map progress_of stages) k) (uses_of ts (map progress_of stages) holds k)) ≡ seen_at (slice_get stages k)
      go None is = ap (λ o. seen_of (state_with o (is_fed ts (map progress_of stages) k) (uses_of ts (map progress_of stages) holds k))) (at None is) ∙ sym (ap seen_at is)
      go (Some (stage.Untaken r)) is = ap (λ o. seen_of (state_with o (is_fed ts (map progress_of stages) k) (uses_of ts (map progress_of stages) holds k))) (at (Some (stage.Untaken r)) is) ∙ (either (is_fed ts (map progress_of stages) k) ∙ sym (ap seen_at is))
      go (Some stage.Running) is = ap (λ o. seen_of (state_with o (is_fed ts (map progress_of stages) k) (uses_of ts (map progress_of stages) holds k))) (at (Some stage.Running) is) ∙ sym (ap seen_at is)
      go (Some stage.Joining) is = ap (λ o. seen_of (state_with o (is_fed ts (map progress_of stages) k) (uses_of ts (map progress_of stages) holds k))) (at (Some stage.Joining) is) ∙ sym (ap seen_at is)
      go (Some (stage.Done s)) is =
          let used = (sound.kept k (stage.Done s) is).used refl in
          let c = sound.counted.counted k in
          let some : eqb (uses_of ts (map progress_of stages) holds k) 0 ≡ false = ne_eqb (uses_of ts (map progress_of stages) holds k) 0 (λ e. absurd (omega (arith, used, c, e))) in
          ap (λ o. seen_of (state_with o (is_fed ts (map progress_of stages) k) (uses_of ts (map progress_of stages) holds k))) (at (Some (stage.Done s)) is) ∙ (ap (λ b. seen_of (cond b IsGone IsDone)) some ∙ sym (ap seen_at is))
      go (Some stage.Gone) is =
          let none = (sound.kept k stage.Gone is).gone refl in
          let c = sound.counted.counted k in
          let no_use : eqb (uses_of ts (map progress_of stages) holds k) 0 ≡ true = eq-eqb (uses_of ts (map progress_of stages) holds k) 0 (omega (arith, none, c)) in
          ap (λ o. seen_of (state_with o (is_fed ts (map progress_of stages) k) (uses_of ts (map progress_of stages) holds k))) (at (Some stage.Gone) is) ∙ (ap (λ b. seen_of (cond b IsGone IsDone)) no_use ∙ sym (ap seen_at is))
      go (Some stage.Moved) is = ap (λ o. seen_of (state_with o (is_fed ts (map progress_of stages) k) (uses_of ts (map progress_of stages) holds k))) (at (Some stage.Moved) is) ∙ sym (ap seen_at is)
      go (Some stage.Failed) is = ap (λ o. seen_of (state_with o (is_fed ts (map progress_of stages) k) (uses_of ts (map progress_of stages) holds k))) (at (Some stage.Failed) is) ∙ sym (ap seen_at is)

  pub gone_is : (k : ℕ) → is_gone (state_with (slice_get (map progress_of stages) k) (is_fed ts (map progress_of stages) k) (uses_of ts (map progress_of stages) holds k))
      ≡ is_seen_gone (seen_at (slice_get stages k))
  gone_is k = gone_seen _ ∙ ap is_seen_gone (seen_is k)

  pub right_at : (k : ℕ) → IfSome (option_and_then stored_in (slice_get stages k)) (IsStoreFor (object_at ts k))
  right_at k = go (slice_get stages k) refl
    where
      of : (st : Stage) → slice_get stages k ≡ Some st → (o : Option Stored) → stored_in st ≡ o → IfSome o (IsStoreFor (object_at ts k))
      of st is None e = tt
      of st is (Some s) e = (sound.kept k st is).right s e

      go : (o : Option Stage) → slice_get stages k ≡ o → IfSome (option_and_then stored_in o) (IsStoreFor (object_at ts k))
      go None is = tt
      go (Some st) is = of st is (stored_in st) refl

  -- a slot that isn't gone is there
  pub there : (k : ℕ) → is_seen_gone (seen_at (slice_get stages k)) ≡ false → k < length holds
  there k h = elim (cases_lt k (length stages)) [
    | inl low ↦ omega (arith, low, sound.flows.sized, length-map stages progress_of, sound.counted.holds_sized)
    | inr past ↦ absurd (let e : is_seen_gone (seen_at (slice_get stages k)) ≡ true = ap (λ o. is_seen_gone (seen_at o)) (slice_get_past stages k past) in cc (e, h))
  ]

  -- ---- give

  pub running_at : (k : ℕ) → is_running (slice_get (map progress_of stages) k) ≡ true → slice_get stages k ≡ Some stage.Running
  running_at k h = go (slice_get stages k) refl (sym (ap is_running (slice_get-map progress_of stages k)) ∙ h)
    where
      go : (o : Option Stage) → slice_get stages k ≡ o → is_running (option_map progress_of o) ≡ true → slice_get stages k ≡ Some stage.Running
      go None is h = absurd cc
      go (Some (stage.Untaken r)) is h = absurd cc
      go (Some stage.Running) is h = is
      go (Some stage.Joining) is h = absurd cc
      go (Some (stage.Done s)) is h = absurd cc
      go (Some stage.Gone) is h = absurd cc
      go (Some stage.Moved) is h = absurd cc
      go (Some stage.Failed) is h = absurd cc

  pub joining_at : (k : ℕ) → is_joining (slice_get (map progress_of stages) k) ≡ true → slice_get stages k ≡ Some stage.Joining
  joining_at k h = go (slice_get stages k) refl (sym (ap is_joining (slice_get-map progress_of stages k)) ∙ h)
    where
      go : (o : Option Stage) → slice_get stages k ≡ o → is_joining (option_map progress_of o) ≡ true → slice_get stages k ≡ Some stage.Joining
      go None is h = absurd cc
      go (Some (stage.Untaken r)) is h = absurd cc
      go (Some stage.Running) is h = absurd cc
      go (Some stage.Joining) is h = is
      go (Some (stage.Done s)) is h = absurd cc
      go (Some stage.Gone) is h = absurd cc
      go (Some stage.Moved) is h = absurd cc
      go (Some stage.Failed) is h = absurd cc

  pub sound_given : (k : ℕ) (next : List Stage) → is_running (slice_get (map progress_of stages) k) ≡ true
      → next ≡ slice_set stages k stage.Joining → IsSound ts next holds reads readers ready room
  sound_given k next runs is =
      let was = running_at k runs in
      let (t, task) = task_at k stage.Running was in
      subst (λ l. IsSound ts l holds reads readers ready room) (sym is) (sound_joining ts stages holds reads readers ready room k t sound task was)

  -- ---- whole

  pub joining_reads : (k : ℕ) (t : Task) → is_joining (slice_get (map progress_of stages) k) ≡ true → slice_get ts k ≡ Some t
      → (j : ℕ) → places_of t.inputs j ≤ slice_index reads j
  joining_reads k t joins is j =
      let had = progress_at stages k stage.Joining (joining_at k joins) in
      let a = reads_above ts (map progress_of stages) k j t Joining is had refl in
      let c = sound.counted.counted j in omega (arith, a, c)

  -- ---- hold and let_go

  not_gone : (k : ℕ) → is_seen_gone (seen_at (slice_get stages k)) ≡ false → (st : Stage) → slice_get stages k ≡ Some st → stage_gone st ≡ false
  not_gone k h (stage.Untaken r) is = refl
  not_gone k h stage.Running is = refl
  not_gone k h stage.Joining is = refl
  not_gone k h (stage.Done s) is = refl
  not_gone k h stage.Gone is = absurd (let e : is_seen_gone (seen_at (slice_get stages k)) ≡ true = ap (λ o. is_seen_gone (seen_at o)) is in cc (e, h))
  not_gone k h stage.Moved is = refl
  not_gone k h stage.Failed is = refl

  pub sound_held : (k : ℕ) (next : List ℕ) (r : Bool) → is_seen_gone (seen_at (slice_get stages k)) ≡ false
      → next ≡ cond r (slice_set holds k (slice_index holds k + 1)) holds → IsSound ts stages next reads readers ready room
  sound_held k next true here is =
      subst (λ l. IsSound ts stages l reads readers ready room) (sym is)
      (sound_hold ts stages holds reads readers ready room k (slice_index holds k + 1) sound (not_gone k here) (omega arith))
  sound_held k next false here is = subst (λ l. IsSound ts stages l reads readers ready room) (sym is) sound

  pub sound_gone : (k : ℕ) (holds' : List ℕ) (next : List Stage) → holds' ≡ slice_set holds k (slice_index holds k - 1)
      → ((j : ℕ) → slice_get next j ≡ option_map (released_if (eqb k j) (slice_index holds' j + slice_index reads j)) (slice_get stages j))
      → IsSound ts next holds' reads readers ready room
  sound_gone k holds' next is released =
      sound_released ts stages next holds reads holds' readers ready room (λ j. eqb k j) sound
      (ap length is ∙ length_set holds k (slice_index holds k - 1)) released
      (λ j. elim (cases_eq j k) [
        | inl e ↦ let P : ℕ → Type 0 = λ n. slice_index holds' n + slice_index reads n ≤ slice_index holds n + slice_index reads n in subst P (sym e) (at_k (cases_lt k (length holds)))
        | inr far ↦ omega (arith, others j far)
      ])
      (λ j look. let far : j ≢ k = λ e. eqb-false k j look (sym e) in omega (arith, others j far))
    where
      others : (j : ℕ) → j ≢ k → slice_index holds' j ≡ slice_index holds j
      others j far = ap (λ l. slice_index l j) is ∙ get_or-set_other holds k j (slice_index holds k - 1) 0 far

      at_k : (k < length holds) ⊎ (length holds ≤ k) → slice_index holds' k + slice_index reads k ≤ slice_index holds k + slice_index reads k
      at_k (inl low) = let e : slice_index holds' k ≡ slice_index holds k - 1 = ap (λ l. slice_index l k) is ∙ get_or-set_same holds k (slice_index holds k - 1) 0 low in omega (arith, e)
      at_k (inr past) = let e : slice_index holds' k ≡ slice_index holds k = ap (λ l. slice_index l k) (is ∙ set_past holds k (slice_index holds k - 1) past) in omega (arith, e)

  -- a slot was made, its places read no longer, its inputs' stores and its own went where nobody needs them, and its
  -- readers were looked at
  pub sound_wholed : (k : ℕ) (t : Task) (done : Stage) (one two next : List Stage) (reads' mine ready' : List ℕ) (room' : ℕ)
      (ts' : List Task) (ps' : List Progress)
      → is_joining (slice_get (map progress_of stages) k) ≡ true → slice_get ts k ≡ Some t
      → progress_of done ≡ Made → ((s : Stored) → stored_in done ≡ Some s → IsStoreFor (object_at ts k) s)
      → recipe_in done ≡ None → stage_gone done ≡ false
      → one ≡ slice_set stages k done → length reads' ≡ length reads
      → ((j : ℕ) → slice_index reads' j + places_of t.inputs j ≡ slice_index reads j)
      → ((j : ℕ) → slice_get two j ≡ option_map (released_if (is_among t.inputs j) (slice_index holds j + slice_index reads' j)) (slice_get one j))
      → ((j : ℕ) → slice_get next j ≡ option_map (released_if (eqb k j) (slice_index holds j + slice_index reads' j)) (slice_get two j))
      → slice_get readers k ≡ Some mine → room ≤ room'
      → ((p : ℕ → Bool) → ready ≡ numbers p (length ts') → length ts' ≤ room
      → ready' ≡ numbers (λ j. p j || (has j mine && is_ready ts' ps' j)) (length ts'))
      → ts' ≡ ts → ps' ≡ map progress_of next
      → IsSound ts next holds reads' readers ready' room'
  sound_wholed k t done one two next reads' mine ready' room' ts' ps' joins is made right no_recipe kept first sized counts each_released released listed more wakes ts_is ps_is =
      sound_whole ts stages next holds reads reads' readers mine ready ready' room room' k t done (λ j. is_among t.inputs j || eqb k j) sound is
      (joining_at k joins) made right no_recipe kept sized counts
      (λ j. released j ∙ (ap (option_map (released_if (eqb k j) (slice_index holds j + slice_index reads' j))) (each_released j ∙ ap (λ l. option_map (released_if (is_among t.inputs j) (slice_index holds j + slice_index reads' j)) (slice_get l j)) first)
      ∙ released_twice (eqb k j) (is_among t.inputs j) (slice_index holds j + slice_index reads' j) (slice_get (slice_set stages k done) j)))
      (λ j look. let parts = or_parts (is_among t.inputs j) (eqb k j) look in (among_none t.inputs j parts.0, λ e. eqb-false k j parts.1 (sym e)))
      listed more
      (wakes (is_ready ts (map progress_of stages)) (sound.offers ∙ (sym (offered_is ts (map progress_of stages)) ∙ ap (λ l. numbers (is_ready ts (map progress_of stages)) (length l)) (sym ts_is))) (let e : length ts' ≡ length ts = ap length ts_is in omega (arith, sound.roomy, e))
      ∙ (ap (λ l. numbers (λ j. is_ready ts (map progress_of stages) j || (has j mine && is_ready l ps' j)) (length l)) ts_is
      ∙ ap (λ (qs : List Progress). numbers (λ j. is_ready ts (map progress_of stages) j || (has j mine && is_ready ts qs j)) (length ts)) ps_is))

pub progress_put : (stages next : List Stage) (k : ℕ) (st : Stage) → next ≡ slice_set stages k st
    → map progress_of next ≡ slice_set (map progress_of stages) k (progress_of st)
progress_put stages next k st is = ap (map progress_of) is ∙ map-set progress_of stages k st

pub sound_empty : (room : ℕ) → IsSound [] [] [] [] [] [] room
sound_empty room = record {
  flows = record { sized = refl; lower = λ k t is. absurd cc; allowed = λ k t p is was. absurd cc };
  fits = λ k t is role. absurd cc;
  counted = record { holds_sized = refl; reads_sized = refl; counted = λ k. refl };
  kept = λ k st is. absurd cc;
  waked = record { sized = refl; waits = λ k t is was. absurd cc };
  offers = offered_is [] [];
  roomy = omega arith;
}

-- ---- views

pub view_put : {N : Type 0} (v : View N) (ps : List Progress) (k : ℕ) (p : Progress) → ps ≡ slice_set v.progress k p
    → record v { progress = ps } ≡ with_progress v k p
view_put v ps k p is = ap (λ (qs : List Progress). record v { progress = qs }) is

pub refused_gone : {R : Type 0} (b c : Bool) (x y : R) → b ≡ true → y ≡ cond (not b && c) x y
refused_gone true c x y h = refl
refused_gone false c x y h = absurd cc

pub answered : {R : Type 0} (b c : Bool) (x y r : R) → b ≡ false → r ≡ cond c x y → r ≡ cond (not b && c) x y
answered true c x y r h e = absurd cc
answered false c x y r h e = e

pub view_holds : {N : Type 0} (v : View N) (ps : List Progress) (hs : List ℕ) (k n : ℕ) → ps ≡ v.progress → hs ≡ slice_set v.holds k n
    → record v { progress = ps; holds = hs } ≡ with_holds v k n
view_holds v ps hs k n same is = cc (same, is)

pub slot_at : {A B : Type 0} (f : A → B) (xs : List A) (n i : ℕ) (x : A) → n ≡ length xs → i < n → x ≡ get_or xs i x → slice_get (map f xs) i ≡ Some (f x)
slot_at f xs n i x size low read = slice_get-map f xs i ∙ ap (option_map f) (slice_get_read xs n i x size low read)

pub chosen : {R : Type 0} (b : Bool) (x y : R) → b ≡ true → x ≡ cond b x y
chosen b x y h = sym (ap (λ b. cond b x y) h)

pub uses_same : (a b c d : List ℕ) (j : ℕ) → a ≡ c → b ≡ d → slice_index a j + slice_index b j ≡ slice_index c j + slice_index d j
uses_same a b c d j e f = let g = ap (λ l. slice_index l j) e in let h = ap (λ l. slice_index l j) f in omega (arith, g, h)

pub released_same : (looked : Bool) (u v : ℕ) (o r : Option Stage) → r ≡ option_map (released_if looked u) o → u ≡ v → r ≡ option_map (released_if looked v) o
released_same looked u v o r is e = is ∙ ap (λ n. option_map (released_if looked n) o) e

-- the store that is there is the one that is had
pub same_store : (ts : List Task) (k : ℕ) (a s : Stored) → IsStoreFor (object_at ts k) a → Some a ≡ Some s → IsStoreFor (object_at ts k) s
same_store ts k a s is e = let same : a ≡ s = cc (e) in subst (IsStoreFor (object_at ts k)) same is

pub view_failed : {N : Type 0} (v : View N) (ps : List Progress) (k : ℕ) → ps ≡ fallen v.tasks (slice_set v.progress k Failed) → record v { progress = ps } ≡ failed v k
view_failed v ps k is = ap (λ (qs : List Progress). record v { progress = qs }) is
