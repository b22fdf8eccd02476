-- A board of which a task is taken stays sound.
use Rattle.std.proofs.Common.{◌≡◌, ◌≢◌, ◌∙◌, ℕ, ◌+◌, ◌<◌, ◌&&◌, true, false, List, length, map, not, Option, Some, None, slice_get, slice_set, refl, sym, ap, arith}
use Rattle.std.specs.Prelude.{remove, slice_index}
use Rattle.std.proofs.lemmas.Bool.{and_parts, not-true}
use Rattle.std.proofs.lemmas.List.{length-map}
use Rattle.std.proofs.lemmas.Option.{slice_get_within}
use Rattle.model.specs.Object.{IsObject}
use Rattle.stages.specs.Places.{each, places_of}
use Rattle.stages.specs.Progress.{Progress, Untaken, Running, Joining, Made, Moved, Failed, allows, is_failed, is_made, is_moved, is_unfinished, is_untaken}
use Rattle.board.specs.Sound.{IsSound}
use Rattle.stages.specs.Stages.{has_store, progress_of}
use Rattle.stages.specs.Tasks.{Task, object_at}
use Rattle.stages.specs.Views.{is_fed, is_ready, reads_in}
use Rattle.stages.specs.declared.stage.Stage.{Stage}
use Rattle.stages.specs.declared.stage.Stage.TheVariants as stage
use Rattle.stages.proofs.ListLaws.{get_there}
use Rattle.stages.proofs.PlaceLaws.{each-at, each-from, places-at}
use Rattle.stages.proofs.ReadLaws.{reads_above, reads_sole}
use Rattle.stages.proofs.ReadyLaws.{fed_at, offered_remove, offered_same, ready_not, untaken_some}
use Rattle.board.proofs.SoundLaws.{progress_at, sound_set, stage_at}

-- ---- a slot that is ready

pub ready_parts : (ts : List Task) (ps : List Progress) (k : ℕ) (t : Task) → slice_get ts k ≡ Some t → is_ready ts ps k ≡ true
    → (slice_get ps k ≡ Some Untaken) × (each (λ i. is_made (slice_get ps i)) t.inputs ≡ true)
ready_parts ts ps k t is ready =
    let parts = and_parts (is_untaken (slice_get ps k)) (is_fed ts ps k) ready in
    (untaken_some (slice_get ps k) parts.0, sym (fed_at ts ps k t is) ∙ parts.1)

made_only : (o : Option Progress) → is_made o ≡ true → is_moved o ≡ false → o ≡ Some Made
made_only None m n = absurd cc
made_only (Some Untaken) m n = absurd cc
made_only (Some Running) m n = absurd cc
made_only (Some Joining) m n = absurd cc
made_only (Some Made) m n = refl
made_only (Some Moved) m n = absurd cc
made_only (Some Failed) m n = absurd cc

-- each of its inputs has its store there still
pub inputs_there : (ts : List Task) (stages : List Stage) (holds reads : List ℕ) (readers : List (List ℕ)) (ready : List ℕ) (room k : ℕ)
    (t : Task) → IsSound ts stages holds reads readers ready room → slice_get ts k ≡ Some t
    → is_ready ts (map progress_of stages) k ≡ true → each (λ i. has_store (slice_get stages i)) t.inputs ≡ true
inputs_there ts stages holds reads readers ready room k t sound is can =
    each-from (λ i. has_store (slice_get stages i)) t.inputs (λ role i takes.
    let parts = ready_parts ts (map progress_of stages) k t is can in
    let made : is_made (slice_get (map progress_of stages) i) ≡ true = each-at (λ i. is_made (slice_get (map progress_of stages) i)) t.inputs parts.1 role i takes in
    let may : (not (is_failed (slice_get (map progress_of stages) i)) && not (is_moved (slice_get (map progress_of stages) i))) ≡ true = each-at (λ i. allows Untaken (slice_get (map progress_of stages) i)) t.inputs (sound.flows.allowed k t Untaken is parts.0) role i takes in
    let both = and_parts (not (is_failed (slice_get (map progress_of stages) i))) (not (is_moved (slice_get (map progress_of stages) i))) may in
    let so : slice_get (map progress_of stages) i ≡ Some Made = made_only (slice_get (map progress_of stages) i) made (not-true (is_moved (slice_get (map progress_of stages) i)) both.1) in
    let (st, at, far) = stage_at stages i Made so in
    let read : 0 < slice_index holds i + slice_index reads i =
    let a = reads_above ts (map progress_of stages) k i t Untaken is parts.0 refl in
    let b = places-at t.inputs role i takes in
    let c = sound.counted.counted i in
    omega (arith, a, b, c) in
    ap has_store at ∙ there st far (λ e. let none = (sound.kept i stage.Gone (at ∙ ap Some e)).gone refl in omega (arith, none, read)))
  where
    there : (st : Stage) → progress_of st ≡ Made → (st ≡ stage.Gone → ⊥) → has_store (Some st) ≡ true
    there (stage.Untaken r) e h = absurd cc
    there stage.Running e h = absurd cc
    there stage.Joining e h = absurd cc
    there (stage.Done s) e h = refl
    there stage.Gone e h = absurd (h refl)
    there stage.Moved e h = absurd cc
    there stage.Failed e h = absurd cc

-- ---- take

running_allowed : (r : Progress) → allows r (Some Untaken) ≡ true → allows r (Some Running) ≡ true
running_allowed Untaken h = refl
running_allowed Running h = h
running_allowed Joining h = h
running_allowed Made h = h
running_allowed Moved h = h
running_allowed Failed h = refl

pub sound_taken : (ts : List Task) (stages : List Stage) (holds reads : List ℕ) (readers : List (List ℕ)) (ready : List ℕ) (room k at : ℕ)
    (t : Task) → IsSound ts stages holds reads readers ready room → slice_get ts k ≡ Some t
    → slice_get ready at ≡ Some k → is_ready ts (map progress_of stages) k ≡ true → IsObject (object_at ts k)
    → IsSound ts (slice_set stages k stage.Running) holds reads readers (remove ready at) room
sound_taken ts stages holds reads readers ready room k at t sound is place can object =
    let parts = ready_parts ts (map progress_of stages) k t is can in
    let (st, was, far) = stage_at stages k Untaken parts.0 in
    sound_set ts stages holds reads readers ready (remove ready at) room k t st stage.Running sound is was
    (λ j u r there has names h. running_allowed r (ap (λ p. allows r (Some p)) (sym far) ∙ h))
    parts.1
    (sym (unfinished st far)) refl
    (λ h. absurd (let e : is_made (Some (progress_of st)) ≡ false = ap (λ p. is_made (Some p)) far in cc (e, h)))
    (record { recipe = λ r e. absurd cc; right = λ s e. absurd cc; used = λ e. absurd cc; gone = λ e. absurd cc; object = λ e. object })
    (ap (λ l. remove l at) sound.offers ∙ sym (offered_remove ts (map progress_of stages) k at Untaken Running parts.0 refl refl (ap (λ l. slice_get l at) (sym sound.offers) ∙ place)))
  where
    unfinished : (st : Stage) → progress_of st ≡ Untaken → is_unfinished (progress_of st) ≡ true
    unfinished st e = ap is_unfinished e

moved_allowed : (r : Progress) → (r ≡ Untaken → ⊥) → allows r (Some Made) ≡ true → allows r (Some Moved) ≡ true
moved_allowed Untaken ne h = absurd (ne refl)
moved_allowed Running ne h = refl
moved_allowed Joining ne h = refl
moved_allowed Made ne h = refl
moved_allowed Moved ne h = refl
moved_allowed Failed ne h = refl

-- the store of an input goes into the piece, where nobody else needs it
pub sound_moved : (ts : List Task) (stages : List Stage) (holds reads : List ℕ) (readers : List (List ℕ)) (ready : List ℕ) (room k i : ℕ)
    (t : Task) → IsSound ts stages holds reads readers ready room → slice_get ts k ≡ Some t → slice_get stages k ≡ Some stage.Running
    → 0 < places_of t.inputs i → slice_index reads i ≡ 1 → has_store (slice_get stages i) ≡ true
    → IsSound ts (slice_set stages i stage.Moved) holds reads readers ready room
sound_moved ts stages holds reads readers ready room k i t sound is runs names one there = go (slice_get stages i) refl there
  where
    ts_has : (j : ℕ) → j < length ts → (u : Task) × (slice_get ts j ≡ Some u)
    ts_has j low = get_there ts j low

    go : (o : Option Stage) → slice_get stages i ≡ o → has_store o ≡ true → IsSound ts (slice_set stages i stage.Moved) holds reads readers ready room
    go None was h = absurd cc
    go (Some (stage.Untaken r)) was h = absurd cc
    go (Some stage.Running) was h = absurd cc
    go (Some stage.Joining) was h = absurd cc
    go (Some stage.Gone) was h = absurd cc
    go (Some stage.Moved) was h = absurd cc
    go (Some stage.Failed) was h = absurd cc
    go (Some (stage.Done s)) was h =
        let within : i < length stages = slice_get_within stages i (stage.Done s) was in
        let (ti, is_i) = ts_has i (omega (arith, within, sound.flows.sized, length-map stages progress_of)) in
        let had = progress_at stages i (stage.Done s) was in
        let mine = sound.kept i (stage.Done s) was in
        let running = progress_at stages k stage.Running runs in
        let once : reads_in ts (map progress_of stages) i ≡ 1 = sym (sound.counted.counted i) ∙ one in
        sound_set ts stages holds reads readers ready ready room i ti (stage.Done s) stage.Moved sound is_i was
        (λ j u r here has named h. moved_allowed r
        (λ un. let far : j ≢ k = λ e. let same : Some r ≡ Some Running = sym has ∙ (ap (slice_get (map progress_of stages)) e ∙ running) in absurd (let x : r ≡ Running = cc (same) in cc (x, un)) in
        let zero_named = reads_sole ts (map progress_of stages) k j i t u Running r is running refl once names here has (ap is_unfinished un) far in
        omega (arith, zero_named, named)) h)
        (sound.flows.allowed i ti Made is_i had)
        refl refl (λ h. refl)
        (record { recipe = λ r e. absurd cc; right = λ s e. absurd cc; used = λ e. absurd cc; gone = λ e. absurd cc; object = λ e. mine.object refl })
        (sound.offers ∙ sym (offered_same ts (map progress_of stages) i Made Moved had refl (ready_not ts (map progress_of stages) i (ap is_untaken had)) refl))
