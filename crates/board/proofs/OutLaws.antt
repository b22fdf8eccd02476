-- A board whose task goes out.
use Rattle.std.proofs.Common.{◌≡◌, ◌≢◌, ◌∙◌, ℕ, ◌<◌, ◌&&◌, Bool, true, false, cond, eqb, List, length, map, Option, Some, None, slice_get, slice_set, refl, sym, ap, arith, subst}
use Rattle.std.specs.Prelude.{◌≤◌, remove, slice_index}
use Rattle.std.specs.Option.{option_and_then, option_map}
use Rattle.calls.specs.declared.recipe.Recipe.{Recipe}
use Rattle.std.proofs.lemmas.Bool.{and_parts, eqb-true}
use Rattle.std.proofs.lemmas.List.{map-set, set_comm}
use Rattle.std.proofs.lemmas.Option.{slice_get-map}
use Rattle.calls.specs.declared.role.Role.TheVariants.{Old}
use Rattle.calls.specs.declared.role.Roles.{Roles}
use Rattle.model.specs.Object.{IsObject}
use Rattle.board.specs.Events.{sole_in, taken, with_moved}
use Rattle.stages.specs.Places.{each, passes}
use Rattle.stages.specs.Progress.{Progress, Untaken, Running, Moved, is_untaken}
use Rattle.stages.specs.Sharing.{stages_after}
use Rattle.board.specs.Sound.{IsSound}
use Rattle.stages.specs.Stages.{has_store, progress_of, recipe_in}
use Rattle.stages.specs.Tasks.{Task, object_at}
use Rattle.stages.specs.Views.{View, is_ready, reads_in}
use Rattle.stages.specs.declared.stage.Stage.{Stage}
use Rattle.stages.specs.declared.stage.Stage.TheVariants as stage
use Rattle.stages.proofs.ListLaws.{get_set_other, get_set_same}
use Rattle.stages.proofs.PlaceLaws.{each-at, places-at}
use Rattle.stages.proofs.ReadyLaws.{offered_at}
use Rattle.board.proofs.SoundLaws.{stage_at}
use Rattle.board.proofs.TakeLaws.{inputs_there, ready_parts, sound_moved, sound_taken}

pub each-old : {T : Type 0} (p : T → Bool) (r : Roles T) → each p r ≡ true → passes p r.old ≡ true
each-old p r h = (and_parts (passes p r.old) _ h).0

pub each-mask : {T : Type 0} (p : T → Bool) (r : Roles T) → each p r ≡ true → passes p r.mask ≡ true
each-mask p r h = (and_parts (passes p r.mask) _ (and_parts (passes p r.old) _ h).1).0

pub each-first : {T : Type 0} (p : T → Bool) (r : Roles T) → each p r ≡ true → passes p r.first ≡ true
each-first p r h = (and_parts (passes p r.first) _ (and_parts (passes p r.mask) _ (and_parts (passes p r.old) _ h).1).1).0

pub each-second : {T : Type 0} (p : T → Bool) (r : Roles T) → each p r ≡ true → passes p r.second ≡ true
each-second p r h = (and_parts (passes p r.first) _ (and_parts (passes p r.mask) _ (and_parts (passes p r.old) _ h).1).1).1

module _ (ts : List Task) (stages : List Stage) (holds reads : List ℕ) (readers : List (List ℕ)) (ready : List ℕ) (room : ℕ)
    (sound : IsSound ts stages holds reads readers ready room) (at k : ℕ) (place : slice_get ready at ≡ Some k) where
  pub ready_at : (k < length ts) × (is_ready ts (map progress_of stages) k ≡ true)
  ready_at = offered_at ts (map progress_of stages) at k (ap (λ l. slice_get l at) (sym sound.offers) ∙ place)

  pub stores_there : (l : List Stage) (t : Task) → slice_get ts k ≡ Some t → l ≡ stages → each (λ i. has_store (slice_get l i)) t.inputs ≡ true
  stores_there l t is same = subst (λ m. each (λ i. has_store (slice_get m i)) t.inputs ≡ true) (sym same)
      (inputs_there ts stages holds reads readers ready room k t sound is ready_at.1)

  -- an input isn't the slot itself
  input_far : (t : Task) → slice_get ts k ≡ Some t → (i : ℕ) → has_store (slice_get stages i) ≡ true → i ≢ k
  input_far t is i there e =
      let parts = ready_parts ts (map progress_of stages) k t is ready_at.1 in
      let (st, was, far) = stage_at stages k Untaken parts.0 in
      untaken_none st far (ap has_store (sym was) ∙ (ap (λ n. has_store (slice_get stages n)) (sym e) ∙ there))
    where
      untaken_none : (st : Stage) → progress_of st ≡ Untaken → has_store (Some st) ≡ true → ⊥
      untaken_none (stage.Untaken r) a b = cc
      untaken_none stage.Running a b = cc
      untaken_none stage.Joining a b = cc
      untaken_none (stage.Done s) a b = cc
      untaken_none stage.Gone a b = cc
      untaken_none stage.Moved a b = cc
      untaken_none stage.Failed a b = cc

  -- what is claimed leaves the slot as it is
  pub claimed_other : (t : Task) → slice_get ts k ≡ Some t → (hs rs : List ℕ) → slice_get (stages_after stages hs rs t.inputs.old) k ≡ slice_get stages k
  claimed_other t is hs rs = go t.inputs.old refl
    where
      go : (o : Option ℕ) → t.inputs.old ≡ o → slice_get (stages_after stages hs rs o) k ≡ slice_get stages k
      go None e = refl
      go (Some i) e =
          let there = each-at (λ i. has_store (slice_get stages i)) t.inputs (stores_there stages t is refl) Old i e in
          let far = input_far t is i there in
          either ((eqb (slice_index hs i) 0) && (eqb (slice_index rs i) 1)) i (λ e. far (sym e))
        where
          either : (b : Bool) (i : ℕ) → k ≢ i → slice_get (cond b (slice_set stages i stage.Moved) stages) k ≡ slice_get stages k
          either true i far = get_set_other stages i k stage.Moved far
          either false i far = refl

  pub untaken_after : (t : Task) → slice_get ts k ≡ Some t → (hs rs : List ℕ) (mid : List Stage) → mid ≡ stages_after stages hs rs t.inputs.old
      → is_untaken (slice_get (map progress_of mid) k) ≡ true
  untaken_after t is hs rs mid e =
      let parts = ready_parts ts (map progress_of stages) k t is ready_at.1 in
      ap is_untaken (slice_get-map progress_of mid k ∙ (ap (option_map progress_of) (ap (λ l. slice_get l k) e ∙ claimed_other t is hs rs) ∙ (sym (slice_get-map progress_of stages k) ∙ parts.0)))

  -- the slot runs, and where it alone needed its old content, that is moved out
  pub sound_out : (t : Task) (mid next : List Stage) (ready' : List ℕ) → slice_get ts k ≡ Some t → IsObject (object_at ts k)
      → mid ≡ stages_after stages holds reads t.inputs.old → next ≡ slice_set mid k stage.Running → ready' ≡ remove ready at
      → IsSound ts next holds reads readers ready' room
      × (map progress_of next ≡ with_moved (slice_set (map progress_of stages) k Running) (sole_in ts (map progress_of stages) holds t.inputs.old))
  sound_out t mid next ready' is object mid_is next_is ready_is = go t.inputs.old refl
    where
      base : IsSound ts (slice_set stages k stage.Running) holds reads readers (remove ready at) room
      base = sound_taken ts stages holds reads readers ready room k at t sound is place ready_at.1 object

      finish : (l : List Stage) → next ≡ l → IsSound ts l holds reads readers (remove ready at) room → IsSound ts next holds reads readers ready' room
      finish l e s = subst (λ m. IsSound ts m holds reads readers ready' room) (sym e) (subst (λ r. IsSound ts l holds reads readers r room) (sym ready_is) s)

      go : (o : Option ℕ) → t.inputs.old ≡ o → IsSound ts next holds reads readers ready' room
          × (map progress_of next ≡ with_moved (slice_set (map progress_of stages) k Running) (sole_in ts (map progress_of stages) holds t.inputs.old))
      go None e =
          let n : next ≡ slice_set stages k stage.Running = next_is ∙ ap (λ l. slice_set l k stage.Running) (mid_is ∙ ap (stages_after stages holds reads) e) in (
            finish (slice_set stages k stage.Running) n base,
            ap (map progress_of) n ∙ (map-set progress_of stages k stage.Running ∙ sym (ap (λ o. with_moved (slice_set (map progress_of stages) k Running) (sole_in ts (map progress_of stages) holds o)) e)),
          )
      go (Some i) e = split ((eqb (slice_index holds i) 0) && (eqb (slice_index reads i) 1)) refl
        where
          same_test : (eqb (slice_index holds i) 0) && (eqb (reads_in ts (map progress_of stages) i) 1) ≡ (eqb (slice_index holds i) 0) && (eqb (slice_index reads i) 1)
          same_test = ap (λ n. (eqb (slice_index holds i) 0) && (eqb n 1)) (sym (sound.counted.counted i))

          sole_is : (b : Bool) → (eqb (slice_index holds i) 0) && (eqb (slice_index reads i) 1) ≡ b → sole_in ts (map progress_of stages) holds t.inputs.old ≡ cond b (Some i) None
          sole_is b test = ap (sole_in ts (map progress_of stages) holds) e ∙ ap (λ c. cond c (Some i) None) (same_test ∙ test)

          mid_now : (b : Bool) → (eqb (slice_index holds i) 0) && (eqb (slice_index reads i) 1) ≡ b → next ≡ slice_set (cond b (slice_set stages i stage.Moved) stages) k stage.Running
          mid_now b test = next_is ∙ ap (λ l. slice_set l k stage.Running) (mid_is ∙ (ap (stages_after stages holds reads) e ∙ ap (λ c. cond c (slice_set stages i stage.Moved) stages) test))

          split : (b : Bool) → (eqb (slice_index holds i) 0) && (eqb (slice_index reads i) 1) ≡ b
              → IsSound ts next holds reads readers ready' room
              × (map progress_of next ≡ with_moved (slice_set (map progress_of stages) k Running) (sole_in ts (map progress_of stages) holds t.inputs.old))
          split false test = (
            finish (slice_set stages k stage.Running) (mid_now false test) base,
            ap (map progress_of) (mid_now false test) ∙ (map-set progress_of stages k stage.Running ∙ sym (ap (with_moved (slice_set (map progress_of stages) k Running)) (sole_is false test))),
          )
          split true test =
              let there = each-at (λ i. has_store (slice_get stages i)) t.inputs (stores_there stages t is refl) Old i e in
              let far : i ≢ k = input_far t is i there in
              let swap : slice_set (slice_set stages i stage.Moved) k stage.Running ≡ slice_set (slice_set stages k stage.Running) i stage.Moved = set_comm stages i k stage.Moved stage.Running far in
              let n : next ≡ slice_set (slice_set stages k stage.Running) i stage.Moved = mid_now true test ∙ swap in
              let parts = ready_parts ts (map progress_of stages) k t is ready_at.1 in
              let (st, was, un) = stage_at stages k Untaken parts.0 in
              let tests = and_parts (eqb (slice_index holds i) 0) (eqb (slice_index reads i) 1) test in
              let moved = sound_moved ts (slice_set stages k stage.Running) holds reads readers (remove ready at) room k i t base is
              (get_set_same stages k stage.Running st was) (places-at t.inputs Old i e) (eqb-true (slice_index reads i) 1 tests.1)
              (ap has_store (get_set_other stages k i stage.Running far) ∙ there) in (
                finish (slice_set (slice_set stages k stage.Running) i stage.Moved) n moved,
                ap (map progress_of) n ∙ (map-set progress_of (slice_set stages k stage.Running) i stage.Moved
                    ∙ (ap (λ l. slice_set l i Moved) (map-set progress_of stages k stage.Running) ∙ sym (ap (with_moved (slice_set (map progress_of stages) k Running)) (sole_is true test)))),
              )

  -- the recipe that goes out is the task's
  pub recipe_out : (t : Task) (r : Recipe) (mid : List Stage) → slice_get ts k ≡ Some t → mid ≡ stages_after stages holds reads t.inputs.old
      → option_and_then recipe_in (slice_get mid k) ≡ Some r → t.recipe ≡ r
  recipe_out t r mid is mid_is had = go (slice_get stages k) refl (sym (ap (λ l. option_and_then recipe_in (slice_get l k)) mid_is ∙ ap (option_and_then recipe_in) (claimed_other t is holds reads)) ∙ had)
    where
      go : (o : Option Stage) → slice_get stages k ≡ o → option_and_then recipe_in (slice_get stages k) ≡ Some r → t.recipe ≡ r
      go None was h = absurd (let e : None ≡ Some r = sym (ap (option_and_then recipe_in) was) ∙ h in cc (e))
      go (Some st) was h =
          let e = (sound.kept k st was).recipe r (sym (ap (option_and_then recipe_in) was) ∙ h) in
          let f : Some t.recipe ≡ Some r = sym (ap (option_map (λ (u : Task). u.recipe)) is) ∙ e in
          cc (f)

pub sound_room : (ts : List Task) (stages : List Stage) (holds reads : List ℕ) (readers : List (List ℕ)) (ready : List ℕ) (room more : ℕ)
    → IsSound ts stages holds reads readers ready room → room ≤ more → IsSound ts stages holds reads readers ready more
sound_room ts stages holds reads readers ready room more sound le = record {
  flows = sound.flows;
  fits = sound.fits;
  counted = sound.counted;
  kept = sound.kept;
  waked = sound.waked;
  offers = sound.offers;
  roomy = omega (arith, sound.roomy, le);
}

pub taken_view : {N : Type 0} (v : View N) (ps : List Progress) (k : ℕ) (t : Task) → slice_get v.tasks k ≡ Some t
    → ps ≡ with_moved (slice_set v.progress k Running) (sole_in v.tasks v.progress v.holds t.inputs.old) → record v { progress = ps } ≡ taken v k
taken_view v ps k t is e =
    ap (λ (qs : List Progress). record v { progress = qs }) (e ∙ ap (λ (o : Option Task). with_moved (slice_set v.progress k Running) (option_and_then (λ (u : Task). sole_in v.tasks v.progress v.holds u.inputs.old) o)) (sym is))

pub cc_stages : (l : List Stage) (a b hs rs : List ℕ) (o : Option ℕ) → a ≡ hs → b ≡ rs → stages_after l a b o ≡ stages_after l hs rs o
cc_stages l a b hs rs o e f = ap (λ x. stages_after l x b o) e ∙ ap (λ y. stages_after l hs y o) f
