-- A board with one slot more stays sound.
use Rattle.std.proofs.Common.{inl, inr, ◌≡◌, ◌∙◌, ℕ, zero, suc, ◌+◌, ◌<◌, ◌≤◌, ◌&&◌, ◌||◌, Bool, true, false, cond, ltb, List, [], ◌∷◌, ◌++◌, length, map, Option, Some, None, slice_get, refl, sym, ap, arith, subst, ◌⊎◌}
use Rattle.std.specs.Prelude.{slice_index}
use Rattle.std.specs.Option.{option_and_then, option_map}
use Rattle.std.proofs.lemmas.Bool.{cases_lt, ltb-true}
use Rattle.std.proofs.lemmas.List.{get_or_append_left, length-map, map-append}
use Rattle.std.proofs.lemmas.Option.{slice_get_within}
use Rattle.calls.specs.declared.recipe.Recipe.{Recipe}
use Rattle.calls.specs.declared.role.Role.{Role}
use Rattle.calls.specs.Recipes.{known_by, known_of}
use Rattle.calls.specs.Roles.{role_of}
use Rattle.model.specs.Object.{IsObject}
use Rattle.runner.specs.Tickets.{IsStoreFor}
use Rattle.store.specs.Stored.{Stored}
use Rattle.stages.specs.Flows.{Flows, Grows}
use Rattle.stages.specs.Numbers.{has_in}
use Rattle.stages.specs.Places.{each, places_of}
use Rattle.stages.specs.Progress.{allows, is_begun, is_made, is_unfinished, is_untaken}
use Rattle.board.specs.Sound.{AreFit, IsKept, IsKeptAt, IsSound}
use Rattle.stages.specs.Stages.{has_store, is_gone, progress_of, recipe_in, stored_in}
use Rattle.stages.specs.Tasks.{Task, known_at, known_in, object_at}
use Rattle.stages.specs.Views.{reads_in}
use Rattle.stages.specs.declared.stage.Stage.{Stage}
use Rattle.stages.specs.declared.stage.Stage.TheVariants as stage
use Rattle.stages.proofs.FlowLaws.{below, flows_push}
use Rattle.stages.proofs.ListLaws.{get_end, get_left, get_snoc, length_snoc}
use Rattle.board.proofs.ObjectLaws.{object_at_left}
use Rattle.stages.proofs.PlaceLaws.{each-at, places-above}
use Rattle.stages.proofs.ReadLaws.{reads_by, reads_none, reads_push}
use Rattle.stages.proofs.ReadyLaws.{offered_push}
use Rattle.board.proofs.SoundLaws.{sound_of}
use Rattle.stages.proofs.WakeLaws.{waked_push, waked_grows}

-- what is known of what takes a role stays
pub known_left : (ts : List Task) (t : Task) (inputs : Option ℕ) → ((i : ℕ) → inputs ≡ Some i → i < length ts)
    → option_and_then (known_at (ts ++ t ∷ [])) inputs ≡ option_and_then (known_at ts) inputs
known_left ts t None low = refl
known_left ts t (Some i) low = ap (option_map (λ (u : Task). known_of u.recipe)) (get_left ts (t ∷ []) i (low i refl))

pub sound_issued : (ts : List Task) (stages : List Stage) (holds reads reads' : List ℕ) (readers more : List (List ℕ)) (ready : List ℕ) (room room' : ℕ)
    (t : Task) (st : Stage) → IsSound ts stages holds reads readers ready room
    → each (λ i. ltb i (length ts)) t.inputs ≡ true
    → ((role : Role) → known_in ts t.inputs role ≡ known_by t.recipe role)
    → ((role : Role) (i : ℕ) (s : Stage) → role_of t.inputs role ≡ Some i → slice_get stages i ≡ Some s → is_gone s ≡ false)
    → each (λ i. allows (progress_of st) (slice_get (map progress_of stages) i)) t.inputs ≡ true
    → is_begun (progress_of st) ≡ false → has_store (Some st) ≡ false
    → ((r : Recipe) → recipe_in st ≡ Some r → t.recipe ≡ r)
    → length reads' ≡ length reads
    → ((j : ℕ) → slice_index reads' j ≡ slice_index reads j + reads_by t (progress_of st) j)
    → Grows readers more
    → (is_untaken (Some (progress_of st)) ≡ true → each (λ i. is_made (slice_get (map progress_of stages) i) || has_in (length ts) (slice_get more i)) t.inputs ≡ true)
    → length ts + 1 ≤ room'
    → IsSound (ts ++ t ∷ []) (stages ++ st ∷ []) (holds ++ 1 ∷ []) (reads' ++ 0 ∷ []) (more ++ [] ∷ [])
    (ready ++ cond (is_untaken (Some (progress_of st)) && each (λ i. is_made (slice_get (map progress_of stages) i)) t.inputs) (length ts ∷ []) []) room'
sound_issued ts stages holds reads reads' readers more ready room room' t st sound low fits there allowed begun no_store recipe sized counts grows waits roomy =
    sound_of (ts ++ t ∷ []) (stages ++ st ∷ []) (holds ++ 1 ∷ []) (reads' ++ 0 ∷ []) (more ++ [] ∷ []) _ room' (map progress_of stages ++ progress_of st ∷ []) (map-append progress_of stages (st ∷ []))
    flows_after fits_after
    (record {
      holds_sized = length_snoc holds 1 ∙ (ap suc sound.counted.holds_sized ∙ sym (length_snoc ts t));
      reads_sized = length_snoc reads' 0 ∙ (ap suc (sized ∙ sound.counted.reads_sized) ∙ sym (length_snoc ts t));
      counted = counted_after;
    })
    kept_after
    (waked_push ts (map progress_of stages) more t (progress_of st) [] sound.flows (waked_grows ts (map progress_of stages) readers more sound.waked grows) waits low)
    (ap (λ l. l ++ cond (is_untaken (Some (progress_of st)) && each (λ i. is_made (slice_get (map progress_of stages) i)) t.inputs) (length ts ∷ []) []) sound.offers ∙ sym (offered_push ts (map progress_of stages) t (progress_of st) sound.flows low))
    (omega (arith, roomy, length_snoc ts t))
  where
    lower : (role : Role) (i : ℕ) → role_of t.inputs role ≡ Some i → i < length ts
    lower role i takes = ltb-true i (length ts) (each-at (λ j. ltb j (length ts)) t.inputs low role i takes)

    flows_after : Flows (ts ++ t ∷ []) (map progress_of stages ++ progress_of st ∷ [])
    flows_after = flows_push ts (map progress_of stages) t (progress_of st) sound.flows low allowed

    fits_after : AreFit (ts ++ t ∷ [])
    fits_after k u is role = get_snoc ts k t u is
        (λ e same. subst (λ (w : Task). known_in (ts ++ t ∷ []) w.inputs role ≡ known_by w.recipe role) same
        (known_left ts t (role_of t.inputs role) (lower role) ∙ fits role))
        (λ l before. known_left ts t (role_of u.inputs role) (λ i takes. let b = below ts (map progress_of stages) k u role i sound.flows before takes in omega (arith, b, l)) ∙ sound.fits k u before role)

    counted_after : (j : ℕ) → slice_index (reads' ++ 0 ∷ []) j ≡ reads_in (ts ++ t ∷ []) (map progress_of stages ++ progress_of st ∷ []) j
    counted_after j = elim (cases_lt j (length ts)) [
      | inl l ↦
          let a : slice_index (reads' ++ 0 ∷ []) j ≡ slice_index reads' j = get_or_append_left reads' (0 ∷ []) 0 j (omega (arith, l, sized, sound.counted.reads_sized)) in
          let b = counts j in
          let c = sound.counted.counted j in
          let d = reads_push ts (map progress_of stages) j t (progress_of st) sound.flows.sized in
          omega (arith, a, b, c, d)
      | inr past ↦
          let a : slice_index (reads' ++ 0 ∷ []) j ≡ 0 = end_zero reads' j (omega (arith, past, sized, sound.counted.reads_sized)) in
          let b : reads_in (ts ++ t ∷ []) (map progress_of stages ++ progress_of st ∷ []) j ≡ 0 = reads_none (ts ++ t ∷ []) (map progress_of stages ++ progress_of st ∷ []) j
          (λ k u is. elim (zero_or (places_of u.inputs j)) [
            | inl e ↦ e
            | inr pos ↦ let (role, takes) = places-above u.inputs j pos in
                let b = below (ts ++ t ∷ []) (map progress_of stages ++ progress_of st ∷ []) k u role j flows_after is takes in
                let c = slice_get_within (ts ++ t ∷ []) k u is in
                absurd (omega (arith, b, c, past, length_snoc ts t))
          ]) in
          a ∙ sym b
    ]
      where
        zero_or : (n : ℕ) → (n ≡ 0) ⊎ (0 < n)
        zero_or zero = inl refl
        zero_or (suc n) = inr (omega arith)

        end_zero : (xs : List ℕ) (j : ℕ) → length xs ≤ j → slice_index (xs ++ 0 ∷ []) j ≡ 0
        end_zero [] zero h = refl
        end_zero [] (suc j) h = refl
        end_zero (x ∷ xs) zero h = absurd (omega (arith, h))
        end_zero (x ∷ xs) (suc j) h = end_zero xs j (omega (arith, h))

    kept_after : IsKept (ts ++ t ∷ []) (stages ++ st ∷ []) (holds ++ 1 ∷ []) (reads' ++ 0 ∷ [])
    kept_after j s at = get_snoc stages j st s at
        (λ e same. subst (λ w. IsKeptAt (ts ++ t ∷ []) j (slice_index (holds ++ 1 ∷ []) j + slice_index (reads' ++ 0 ∷ []) j) w) same (new_one j e))
        (λ l before. old_one j s l before)
      where
        new_one : (j : ℕ) → j ≡ length stages → IsKeptAt (ts ++ t ∷ []) j (slice_index (holds ++ 1 ∷ []) j + slice_index (reads' ++ 0 ∷ []) j) st
        new_one j e = record {
          recipe = λ r h. ap (option_map (λ (u : Task). u.recipe)) (get_end ts t j (omega (arith, e, sound.flows.sized, length-map stages progress_of))) ∙ ap Some (recipe r h);
          right = λ s h. absurd (stored_none st s no_store h);
          used = λ h. absurd (cc (h, no_store));
          gone = λ h. absurd (not_gone st begun h);
          object = λ h. absurd (cc (h, begun));
        }
          where
            stored_none : (st : Stage) (s : Stored) → has_store (Some st) ≡ false → stored_in st ≡ Some s → ⊥
            stored_none (stage.Untaken r) s a b = cc
            stored_none stage.Running s a b = cc
            stored_none stage.Joining s a b = cc
            stored_none (stage.Done x) s a b = cc
            stored_none stage.Gone s a b = cc
            stored_none stage.Moved s a b = cc
            stored_none stage.Failed s a b = cc

            not_gone : (st : Stage) → is_begun (progress_of st) ≡ false → is_gone st ≡ true → ⊥
            not_gone (stage.Untaken r) a b = cc
            not_gone stage.Running a b = cc
            not_gone stage.Joining a b = cc
            not_gone (stage.Done x) a b = cc
            not_gone stage.Gone a b = cc
            not_gone stage.Moved a b = cc
            not_gone stage.Failed a b = cc

        old_one : (j : ℕ) (s : Stage) → j < length stages → slice_get stages j ≡ Some s → IsKeptAt (ts ++ t ∷ []) j (slice_index (holds ++ 1 ∷ []) j + slice_index (reads' ++ 0 ∷ []) j) s
        old_one j s l before =
            let mine = sound.kept j s before in
            let size : j < length ts = omega (arith, l, sound.flows.sized, length-map stages progress_of) in
            let a : slice_index (holds ++ 1 ∷ []) j ≡ slice_index holds j = get_or_append_left holds (1 ∷ []) 0 j (omega (arith, size, sound.counted.holds_sized)) in
            let b : slice_index (reads' ++ 0 ∷ []) j ≡ slice_index reads' j = get_or_append_left reads' (0 ∷ []) 0 j (omega (arith, size, sized, sound.counted.reads_sized)) in
            let c = counts j in
            let object : object_at (ts ++ t ∷ []) j ≡ object_at ts j = object_at_left ts t j size in
            record {
              recipe = λ r h. ap (option_map (λ (u : Task). u.recipe)) (get_left ts (t ∷ []) j size) ∙ mine.recipe r h;
              right = λ x h. subst (λ o. IsStoreFor o x) (sym object) (mine.right x h);
              used = λ h. let u = mine.used h in omega (arith, u, a, b, c);
              gone = λ h. let z = mine.gone h in
                  let unread : reads_by t (progress_of st) j ≡ 0 = not_named j s before h in
                  omega (arith, z, a, b, c, unread);
              object = λ h. subst IsObject (sym object) (mine.object h);
            }
          where
            zero_or : (n : ℕ) → (n ≡ 0) ⊎ (0 < n)
            zero_or zero = inl refl
            zero_or (suc n) = inr (omega arith)

            not_named : (j : ℕ) (s : Stage) → slice_get stages j ≡ Some s → is_gone s ≡ true → reads_by t (progress_of st) j ≡ 0
            not_named j s before h = elim (zero_or (places_of t.inputs j)) [
              | inl e ↦ zero_by (is_unfinished (progress_of st)) e
              | inr pos ↦ let (role, takes) = places-above t.inputs j pos in let n = there role j s takes before in absurd (cc (n, h))
            ]
              where
                zero_by : (b : Bool) → places_of t.inputs j ≡ 0 → cond b (places_of t.inputs j) 0 ≡ 0
                zero_by true e = e
                zero_by false e = refl
