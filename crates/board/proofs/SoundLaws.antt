-- Steps that keep a board sound.
use Rattle.std.proofs.Common.{inl, inr, ◌≡◌, ◌≢◌, ◌∙◌, ℕ, zero, suc, ◌+◌, ◌<◌, ◌≤◌, ◌&&◌, ◌||◌, Bool, true, false, cond, eqb, List, [], ◌∷◌, length, map, Option, Some, None, slice_get, slice_set, refl, sym, ap, arith, subst, ◌⊎◌}
use Rattle.std.specs.Prelude.{slice_index}
use Rattle.std.specs.Option.{option_map}
use Rattle.std.proofs.lemmas.Bool.{cases_Bool, cases_eq, cases_lt, eqb-true}
use Rattle.std.proofs.lemmas.List.{get_or-set_other, get_or-set_same, map-set, set_past}
use Rattle.std.proofs.lemmas.Option.{slice_get-map}
use Rattle.store.specs.Stored.{Stored}
use Rattle.model.specs.Object.{IsObject}
use Rattle.runner.specs.Tickets.{IsStoreFor}
use Rattle.stages.specs.Flows.{Flows, IsWaked}
use Rattle.stages.specs.Numbers.{has, numbers}
use Rattle.stages.specs.Places.{each, places_of}
use Rattle.stages.specs.Progress.{Progress, Untaken, Running, Joining, Made, Moved, Failed, allows, is_made, is_unfinished, is_untaken}
use Rattle.board.specs.Sound.{AreFit, IsCounted, IsKept, IsKeptAt, IsSound}
use Rattle.stages.specs.Stages.{is_gone, progress_of, recipe_in, released, released_if, stored_in}
use Rattle.stages.specs.Tasks.{Task, object_at}
use Rattle.stages.specs.Views.{is_ready, offered}
use Rattle.stages.specs.declared.stage.Stage.{Stage}
use Rattle.stages.specs.declared.stage.Stage.TheVariants as stage
use Rattle.stages.proofs.FlowLaws.{flows_set}
use Rattle.stages.proofs.ListLaws.{get_set, length_set}
use Rattle.stages.proofs.NumberLaws.{numbers_same}
use Rattle.stages.proofs.ReadLaws.{reads_less, reads_same}
use Rattle.stages.proofs.ReadyLaws.{offered_is, offered_same, ready_made, ready_not}
use Rattle.stages.proofs.WakeLaws.{waked_set}

-- ---- progress

pub progress_at : (stages : List Stage) (k : ℕ) (st : Stage) → slice_get stages k ≡ Some st
    → slice_get (map progress_of stages) k ≡ Some (progress_of st)
progress_at stages k st is = slice_get-map progress_of stages k ∙ ap (option_map progress_of) is

pub stage_at : (stages : List Stage) (k : ℕ) (p : Progress) → slice_get (map progress_of stages) k ≡ Some p
    → (st : Stage) × (slice_get stages k ≡ Some st) × (progress_of st ≡ p)
stage_at [] k p is = absurd cc
stage_at (st ∷ stages) zero p is = (st, refl, cc (is))
stage_at (st ∷ stages) (suc k) p is = stage_at stages k p is

-- lists that have the same at each place
pub same_by_get : {A : Type 0} (xs ys : List A) → ((k : ℕ) → slice_get xs k ≡ slice_get ys k) → xs ≡ ys
same_by_get [] [] h = refl
same_by_get [] (y ∷ ys) h = absurd (let e = h 0 in cc (e))
same_by_get (x ∷ xs) [] h = absurd (let e = h 0 in cc (e))
same_by_get (x ∷ xs) (y ∷ ys) h =
    let head : x ≡ y = let e = h 0 in cc (e) in
    let rest : xs ≡ ys = same_by_get xs ys (λ k. h (suc k)) in
    cc (head, rest)

released_progress : (b : Bool) (u : ℕ) (st : Stage) → progress_of (released_if b u st) ≡ progress_of st
released_progress false u st = refl
released_progress true u (stage.Untaken r) = refl
released_progress true u stage.Running = refl
released_progress true u stage.Joining = refl
released_progress true u stage.Gone = refl
released_progress true u stage.Moved = refl
released_progress true u stage.Failed = refl
released_progress true u (stage.Done s) = made_either (eqb u 0)
  where
    made_either : (b : Bool) → progress_of (cond b stage.Gone (stage.Done s)) ≡ Made
    made_either true = refl
    made_either false = refl

-- stages that were let go where nobody needs them are as far as they were
pub progress_released : (stages next : List Stage) (looked : ℕ → Bool) (uses : ℕ → ℕ)
    → ((k : ℕ) → slice_get next k ≡ option_map (released_if (looked k) (uses k)) (slice_get stages k))
    → map progress_of next ≡ map progress_of stages
progress_released stages next looked uses is =
    same_by_get (map progress_of next) (map progress_of stages) (λ k.
    slice_get-map progress_of next k ∙ (ap (option_map progress_of) (is k) ∙ (at (slice_get stages k) k ∙ sym (slice_get-map progress_of stages k))))
  where
    at : (o : Option Stage) (k : ℕ) → option_map progress_of (option_map (released_if (looked k) (uses k)) o) ≡ option_map progress_of o
    at None k = refl
    at (Some st) k = ap Some (released_progress (looked k) (uses k) st)

-- ---- what is kept

-- a slot is used less: its store goes where nobody needs it
pub kept_less : (ts : List Task) (k u v : ℕ) (st : Stage) → IsKeptAt ts k u st → v ≤ u → IsKeptAt ts k v (released v st)
kept_less ts k u v (stage.Untaken r) kept le = record { recipe = kept.recipe; right = kept.right; used = λ h. absurd cc; gone = λ h. absurd cc; object = kept.object }
kept_less ts k u v stage.Running kept le = record { recipe = kept.recipe; right = kept.right; used = λ h. absurd cc; gone = λ h. absurd cc; object = kept.object }
kept_less ts k u v stage.Joining kept le = record { recipe = kept.recipe; right = kept.right; used = λ h. absurd cc; gone = λ h. absurd cc; object = kept.object }
kept_less ts k u v stage.Gone kept le = record { recipe = kept.recipe; right = kept.right; used = λ h. absurd cc; gone = λ h. let none = kept.gone refl in omega (arith, le, none); object = kept.object }
kept_less ts k u v stage.Moved kept le = record { recipe = kept.recipe; right = kept.right; used = λ h. absurd cc; gone = λ h. absurd cc; object = kept.object }
kept_less ts k u v stage.Failed kept le = record { recipe = kept.recipe; right = kept.right; used = λ h. absurd cc; gone = λ h. absurd cc; object = kept.object }
kept_less ts k u v (stage.Done s) kept le = elim (cases_Bool (eqb v 0)) [
  | inl h ↦ subst (λ b. IsKeptAt ts k v (cond b stage.Gone (stage.Done s))) (sym h)
      (record { recipe = λ r e. absurd cc; right = λ s e. absurd cc; used = λ e. absurd cc; gone = λ e. eqb-true v 0 h; object = kept.object })
  | inr h ↦ subst (λ b. IsKeptAt ts k v (cond b stage.Gone (stage.Done s))) (sym h)
      (record { recipe = kept.recipe; right = kept.right; used = λ e. above v h; gone = λ e. absurd cc; object = kept.object })
]
  where
    above : (v : ℕ) → eqb v 0 ≡ false → 0 < v
    above zero h = absurd cc
    above (suc v) h = omega arith

-- ..and stays as it is where it isn't looked at, as long as its uses stay
pub kept_released : (ts : List Task) (stages next : List Stage) (holds reads holds' reads' : List ℕ) (looked : ℕ → Bool)
    → IsKept ts stages holds reads
    → ((k : ℕ) → slice_get next k ≡ option_map (released_if (looked k) (slice_index holds' k + slice_index reads' k)) (slice_get stages k))
    → ((k : ℕ) → slice_index holds' k + slice_index reads' k ≤ slice_index holds k + slice_index reads k)
    → ((k : ℕ) → looked k ≡ false → slice_index holds' k + slice_index reads' k ≡ slice_index holds k + slice_index reads k)
    → IsKept ts next holds' reads'
kept_released ts stages next holds reads holds' reads' looked kept is less same k st at =
    go (slice_get stages k) refl (looked k) refl
  where
    u : ℕ
    u = slice_index holds k + slice_index reads k

    v : ℕ
    v = slice_index holds' k + slice_index reads' k

    go : (o : Option Stage) → slice_get stages k ≡ o → (b : Bool) → looked k ≡ b → IsKeptAt ts k v st
    go None was b look = absurd (let e : Some st ≡ None = sym at ∙ (is k ∙ ap (option_map (released_if (looked k) (slice_index holds' k + slice_index reads' k))) was) in cc (e))
    go (Some old) was true look =
        let e : Some st ≡ Some (released v old) = sym at ∙ (is k ∙ (ap (option_map (released_if (looked k) (slice_index holds' k + slice_index reads' k))) was ∙ ap (λ b. Some (released_if b (slice_index holds' k + slice_index reads' k) old)) look)) in
        let f : st ≡ released v old = cc (e) in
        subst (λ w. IsKeptAt ts k v w) (sym f) (kept_less ts k u v old (kept k old was) (less k))
    go (Some old) was false look =
        let e : Some st ≡ Some old = sym at ∙ (is k ∙ (ap (option_map (released_if (looked k) (slice_index holds' k + slice_index reads' k))) was ∙ ap (λ b. Some (released_if b (slice_index holds' k + slice_index reads' k) old)) look)) in
        let f : st ≡ old = cc (e) in
        subst (λ n. IsKeptAt ts k n st) (sym (same k look)) (subst (λ w. IsKeptAt ts k u w) (sym f) (kept k old was))

pub kept_set : (ts : List Task) (stages : List Stage) (holds reads : List ℕ) (k : ℕ) (st : Stage) → IsKept ts stages holds reads
    → IsKeptAt ts k (slice_index holds k + slice_index reads k) st → IsKept ts (slice_set stages k st) holds reads
kept_set ts stages holds reads k st kept mine j s at = get_set stages k j st s at
    (λ e same. subst (λ n. IsKeptAt ts n (slice_index holds n + slice_index reads n) s) (sym e) (subst (λ w. IsKeptAt ts k (slice_index holds k + slice_index reads k) w) same mine))
    (λ far before. kept j s before)

-- ---- boards

pub sound_of : (ts : List Task) (stages : List Stage) (holds reads : List ℕ) (readers : List (List ℕ)) (ready : List ℕ) (room : ℕ)
    (ps : List Progress) → map progress_of stages ≡ ps → Flows ts ps → AreFit ts → IsCounted ts ps holds reads
    → IsKept ts stages holds reads → IsWaked ts ps readers → ready ≡ offered ts ps → length ts ≤ room
    → IsSound ts stages holds reads readers ready room
sound_of ts stages holds reads readers ready room ps e flows fits counted kept waked offers enough = record {
  flows = subst (λ qs. Flows ts qs) (sym e) flows;
  fits = fits;
  counted = subst (λ qs. IsCounted ts qs holds reads) (sym e) counted;
  kept = kept;
  waked = subst (λ qs. IsWaked ts qs readers) (sym e) waked;
  offers = subst (λ qs. ready ≡ offered ts qs) (sym e) offers;
  roomy = enough;
}

-- one slot comes further, and stays unfinished or finished
pub sound_set : (ts : List Task) (stages : List Stage) (holds reads : List ℕ) (readers : List (List ℕ)) (ready next : List ℕ)
    (room k : ℕ) (t : Task) (st st' : Stage) → IsSound ts stages holds reads readers ready room
    → slice_get ts k ≡ Some t → slice_get stages k ≡ Some st
    → ((j : ℕ) (u : Task) (r : Progress) → slice_get ts j ≡ Some u → slice_get (map progress_of stages) j ≡ Some r
    → 0 < places_of u.inputs k → allows r (Some (progress_of st)) ≡ true → allows r (Some (progress_of st')) ≡ true)
    → each (λ i. allows (progress_of st') (slice_get (map progress_of stages) i)) t.inputs ≡ true
    → is_unfinished (progress_of st') ≡ is_unfinished (progress_of st) → is_untaken (Some (progress_of st')) ≡ false
    → (is_made (Some (progress_of st)) ≡ true → is_made (Some (progress_of st')) ≡ true)
    → IsKeptAt ts k (slice_index holds k + slice_index reads k) st'
    → next ≡ offered ts (slice_set (map progress_of stages) k (progress_of st'))
    → IsSound ts (slice_set stages k st') holds reads readers next room
sound_set ts stages holds reads readers ready next room k t st st' sound is was further own unfinished taken still kept offers =
    let ps = map progress_of stages in
    let p = progress_of st in
    let q = progress_of st' in
    let had = progress_at stages k st was in
    sound_of ts (slice_set stages k st') holds reads readers next room (slice_set (map progress_of stages) k (progress_of st')) (map-set progress_of stages k st')
    (flows_set ts (map progress_of stages) k t (progress_of st) (progress_of st') sound.flows is had further own)
    sound.fits
    (record {
      holds_sized = sound.counted.holds_sized;
      reads_sized = sound.counted.reads_sized;
      counted = λ j. sound.counted.counted j ∙ sym (reads_same ts (map progress_of stages) k j t (progress_of st) (progress_of st') is had unfinished);
    })
    (kept_set ts stages holds reads k st' sound.kept kept)
    (waked_set ts (map progress_of stages) readers k (progress_of st) (progress_of st') sound.waked had taken still)
    offers
    sound.roomy

-- ---- give

joining_allowed : (r : Progress) → allows r (Some Running) ≡ true → allows r (Some Joining) ≡ true
joining_allowed Untaken h = refl
joining_allowed Running h = h
joining_allowed Joining h = h
joining_allowed Made h = h
joining_allowed Moved h = h
joining_allowed Failed h = refl

running_is : (st : Stage) → progress_of st ≡ Running → st ≡ stage.Running
running_is (stage.Untaken r) h = absurd cc
running_is stage.Running h = refl
running_is stage.Joining h = absurd cc
running_is (stage.Done s) h = absurd cc
running_is stage.Gone h = absurd cc
running_is stage.Moved h = absurd cc
running_is stage.Failed h = absurd cc

pub sound_joining : (ts : List Task) (stages : List Stage) (holds reads : List ℕ) (readers : List (List ℕ)) (ready : List ℕ)
    (room k : ℕ) (t : Task) → IsSound ts stages holds reads readers ready room
    → slice_get ts k ≡ Some t → slice_get stages k ≡ Some stage.Running
    → IsSound ts (slice_set stages k stage.Joining) holds reads readers ready room
sound_joining ts stages holds reads readers ready room k t sound is was =
    let had = progress_at stages k stage.Running was in
    let mine = sound.kept k stage.Running was in
    sound_set ts stages holds reads readers ready ready room k t stage.Running stage.Joining sound is was
    (λ j u r there at names h. joining_allowed r h)
    (sound.flows.allowed k t Running is had)
    refl refl (λ h. h)
    (record { recipe = λ r e. absurd cc; right = λ s e. absurd cc; used = λ e. absurd cc; gone = λ e. absurd cc; object = λ e. mine.object refl })
    (sound.offers ∙ sym (offered_same ts (map progress_of stages) k Running Joining had refl (ready_not ts (map progress_of stages) k (ap is_untaken had)) refl))

-- ---- hold and let_go

pub sound_hold : (ts : List Task) (stages : List Stage) (holds reads : List ℕ) (readers : List (List ℕ)) (ready : List ℕ)
    (room k more : ℕ) → IsSound ts stages holds reads readers ready room
    → ((st : Stage) → slice_get stages k ≡ Some st → is_gone st ≡ false) → slice_index holds k ≤ more
    → IsSound ts stages (slice_set holds k more) reads readers ready room
sound_hold ts stages holds reads readers ready room k more sound there above = record {
  flows = sound.flows;
  fits = sound.fits;
  counted = record { holds_sized = length_set holds k more ∙ sound.counted.holds_sized; reads_sized = sound.counted.reads_sized; counted = sound.counted.counted };
  kept = λ j st at. elim (cases_eq j k) [
    | inl e ↦
        let mine = sound.kept j st at in
        let grown : slice_index holds j + slice_index reads j ≤ slice_index (slice_set holds k more) j + slice_index reads j = let P : ℕ → Type 0 = λ n. slice_index holds n + slice_index reads n ≤ slice_index (slice_set holds k more) n + slice_index reads n in subst P (sym e) (rises (cases_lt k (length holds))) in
        record {
          recipe = mine.recipe;
          right = mine.right;
          used = λ h. let u = mine.used h in omega (arith, grown, u);
          gone = λ h. absurd (let no = there st (ap (slice_get stages) (sym e) ∙ at) in cc (no, h));
          object = mine.object;
        }
    | inr far ↦
        subst (λ n. IsKeptAt ts j (n + slice_index reads j) st) (sym (get_or-set_other holds k j more 0 far)) (sound.kept j st at)
  ];
  waked = sound.waked;
  offers = sound.offers;
  roomy = sound.roomy;
}
  where
    rises : (k < length holds) ⊎ (length holds ≤ k) → slice_index holds k + slice_index reads k ≤ slice_index (slice_set holds k more) k + slice_index reads k
    rises (inl low) = let set_there : slice_index (slice_set holds k more) k ≡ more = get_or-set_same holds k more 0 low in omega (arith, set_there, above)
    rises (inr past) = let same : slice_index (slice_set holds k more) k ≡ slice_index holds k = ap (λ l. slice_index l k) (set_past holds k more past) in omega (arith, same)

-- holds and reads are fewer, and stores go that nobody needs
pub sound_released : (ts : List Task) (stages next : List Stage) (holds reads holds' : List ℕ) (readers : List (List ℕ)) (ready : List ℕ)
    (room : ℕ) (looked : ℕ → Bool) → IsSound ts stages holds reads readers ready room → length holds' ≡ length holds
    → ((k : ℕ) → slice_get next k ≡ option_map (released_if (looked k) (slice_index holds' k + slice_index reads k)) (slice_get stages k))
    → ((k : ℕ) → slice_index holds' k + slice_index reads k ≤ slice_index holds k + slice_index reads k)
    → ((k : ℕ) → looked k ≡ false → slice_index holds' k + slice_index reads k ≡ slice_index holds k + slice_index reads k)
    → IsSound ts next holds' reads readers ready room
sound_released ts stages next holds reads holds' readers ready room looked sound sized is less same =
    sound_of ts next holds' reads readers ready room (map progress_of stages)
    (progress_released stages next looked (λ k. slice_index holds' k + slice_index reads k) is)
    sound.flows sound.fits
    (record { holds_sized = sized ∙ sound.counted.holds_sized; reads_sized = sound.counted.reads_sized; counted = sound.counted.counted })
    (kept_released ts stages next holds reads holds' reads looked sound.kept is less same)
    sound.waked sound.offers sound.roomy

-- ---- whole

made_allowed : (r : Progress) → allows r (Some Joining) ≡ true → allows r (Some Made) ≡ true
made_allowed Untaken h = refl
made_allowed Running h = refl
made_allowed Joining h = refl
made_allowed Made h = refl
made_allowed Moved h = refl
made_allowed Failed h = refl

-- a slot was made, its places read their slots no longer, and its readers are looked at
pub sound_whole : (ts : List Task) (stages next : List Stage) (holds reads reads' : List ℕ) (readers : List (List ℕ)) (mine ready ready' : List ℕ)
    (room room' k : ℕ) (t : Task) (done : Stage) (looked : ℕ → Bool) → IsSound ts stages holds reads readers ready room
    → slice_get ts k ≡ Some t → slice_get stages k ≡ Some stage.Joining → progress_of done ≡ Made
    → ((s : Stored) → stored_in done ≡ Some s → IsStoreFor (object_at ts k) s) → recipe_in done ≡ None → is_gone done ≡ false
    → length reads' ≡ length reads
    → ((j : ℕ) → slice_index reads' j + places_of t.inputs j ≡ slice_index reads j)
    → ((j : ℕ) → slice_get next j ≡ option_map (released_if (looked j) (slice_index holds j + slice_index reads' j)) (slice_get (slice_set stages k done) j))
    → ((j : ℕ) → looked j ≡ false → (places_of t.inputs j ≡ 0) × (j ≢ k))
    → slice_get readers k ≡ Some mine → room ≤ room'
    → ready' ≡ numbers (λ j. is_ready ts (map progress_of stages) j || (has j mine && is_ready ts (map progress_of next) j)) (length ts)
    → IsSound ts next holds reads' readers ready' room'
sound_whole ts stages next holds reads reads' readers mine ready ready' room room' k t done looked sound is was made right no_recipe not_gone sized counts gone_is others listed more wakes =
    let had = progress_at stages k stage.Joining was in
    let ps = map progress_of stages in
    let set_is : map progress_of (slice_set stages k done) ≡ slice_set (map progress_of stages) k Made = map-set progress_of stages k done ∙ ap (slice_set (map progress_of stages) k) made in
    let next_is : map progress_of next ≡ slice_set (map progress_of stages) k Made = progress_released (slice_set stages k done) next looked (λ j. slice_index holds j + slice_index reads' j) gone_is ∙ set_is in
    sound_of ts next holds reads' readers ready' room' (slice_set (map progress_of stages) k Made) next_is
    (flows_set ts (map progress_of stages) k t Joining Made sound.flows is had (λ j u r there at names h. made_allowed r h) (sound.flows.allowed k t Joining is had))
    sound.fits
    (record {
      holds_sized = sound.counted.holds_sized;
      reads_sized = sized ∙ sound.counted.reads_sized;
      counted = λ j. let less = reads_less ts (map progress_of stages) k j t Joining Made is had refl refl in let a = sound.counted.counted j in let b = counts j in omega (arith, less, a, b);
    })
    (kept_after)
    (waked_set ts (map progress_of stages) readers k Joining Made sound.waked had refl (λ h. absurd cc))
    (wakes ∙ (numbers_same _ (is_ready ts (slice_set (map progress_of stages) k Made)) (length ts)
    (λ j low. ap (λ qs. is_ready ts (map progress_of stages) j || (has j mine && is_ready ts qs j)) next_is
    ∙ sym (ready_made ts (map progress_of stages) readers mine k j Joining Made sound.waked listed had refl refl refl))
    ∙ offered_is ts (slice_set (map progress_of stages) k Made)))
    (omega (arith, sound.roomy, more))
  where
    started : IsObject (object_at ts k)
    started = (sound.kept k stage.Joining was).object refl

    kept_after : IsKept ts next holds reads'
    kept_after j st at = go (slice_get (slice_set stages k done) j) refl (looked j) refl
      where
        v : ℕ
        v = slice_index holds j + slice_index reads' j

        less : slice_index reads' j ≤ slice_index reads j
        less = let b = counts j in omega (arith, b)

        get_is : (o : Option Stage) (b : Bool) → slice_get (slice_set stages k done) j ≡ o → looked j ≡ b → Some st ≡ option_map (released_if b (slice_index holds j + slice_index reads' j)) o
        get_is o b was look = sym at ∙ (gone_is j ∙ (ap (option_map (released_if (looked j) (slice_index holds j + slice_index reads' j))) was ∙ ap (λ b. option_map (released_if b (slice_index holds j + slice_index reads' j)) o) look))

        new_done : (st : Stage) → st ≡ released (slice_index holds j + slice_index reads' j) done → j ≡ k → IsKeptAt ts j (slice_index holds j + slice_index reads' j) st
        new_done st f e =
            let base : IsKeptAt ts k (suc (slice_index holds j + slice_index reads' j)) done = record {
              recipe = λ r h. absurd cc;
              right = right;
              used = λ h. omega arith;
              gone = λ h. absurd cc;
              object = λ h. started;
            } in
            subst (λ w. IsKeptAt ts j (slice_index holds j + slice_index reads' j) w) (sym f)
            (subst (λ n. IsKeptAt ts n (slice_index holds j + slice_index reads' j) (released (slice_index holds j + slice_index reads' j) done)) (sym e)
            (kept_less ts k (suc (slice_index holds j + slice_index reads' j)) (slice_index holds j + slice_index reads' j) done base (omega arith)))

        go : (o : Option Stage) → slice_get (slice_set stages k done) j ≡ o → (b : Bool) → looked j ≡ b → IsKeptAt ts j (slice_index holds j + slice_index reads' j) st
        go None was b look = absurd (let e = get_is None b was look in cc (e))
        go (Some old) was true look =
            let f : st ≡ released (slice_index holds j + slice_index reads' j) old = let e = get_is (Some old) true was look in cc (e) in
            get_set stages k j done old was
            (λ e same. new_done st (f ∙ ap (released (slice_index holds j + slice_index reads' j)) (sym same)) e)
            (λ far before. subst (λ w. IsKeptAt ts j (slice_index holds j + slice_index reads' j) w) (sym f) (kept_less ts j (slice_index holds j + slice_index reads j) (slice_index holds j + slice_index reads' j) old (sound.kept j old before) (omega (arith, less))))
        go (Some old) was false look =
            let f : st ≡ old = let e = get_is (Some old) false was look in cc (e) in
            let apart = others j look in
            get_set stages k j done old was
            (λ e same. absurd (apart.1 e))
            (λ far before.
            let n : slice_index reads j ≡ slice_index reads' j = let b = counts j in let z = apart.0 in omega (arith, b, z) in
            subst (λ m. IsKeptAt ts j (slice_index holds j + m) st) n (subst (λ w. IsKeptAt ts j (slice_index holds j + slice_index reads j) w) (sym f) (sound.kept j old before)))
