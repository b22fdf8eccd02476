-- Slots that take the roles of a recipe that is issued.
use Rattle.std.proofs.Common.{inl, inr, ◌≡◌, ◌∙◌, ℕ, ◌+◌, ◌*◌, ◌<◌, ◌≤◌, ◌&&◌, ◌||◌, Bool, true, false, cond, eqb, List, [], ◌∷◌, ◌++◌, length, map, not, Option, Some, None, slice_get, refl, sym, ap, arith, subst}
use Rattle.std.specs.Prelude.{nat_lt, slice_index}
use Rattle.std.specs.Option.{option_and_then, option_map}
use Rattle.std.proofs.lemmas.Bool.{and_from, cases_lt, lt-ltb}
use Rattle.std.proofs.Math.Bool.{and-false}
use Rattle.std.proofs.lemmas.List.{map-append}
use Rattle.std.proofs.lemmas.Option.{slice_get-map, slice_get_past}
use Rattle.calls.specs.declared.recipe.Recipe.{Recipe}
use Rattle.calls.specs.declared.role.Role.{Role}
use Rattle.calls.specs.declared.role.Role.TheVariants.{Old, Mask, First, Second}
use Rattle.calls.specs.declared.role.Roles.{Roles}
use Rattle.calls.specs.Recipes.{known_by, known_of}
use Rattle.calls.specs.Roles.{role_of}
use Rattle.model.specs.declared.shape.Signature.{Signature}
use Rattle.board.specs.Events.{IsTaken, first_progress, issued}
use Rattle.board.specs.Fits.{AreThere, IsThere}
use Rattle.stages.specs.Flows.{Grows}
use Rattle.board.specs.Looks.{is_seen_gone, seen_at}
use Rattle.stages.specs.Numbers.{has_in}
use Rattle.stages.specs.Places.{each, place_of, places_of}
use Rattle.stages.specs.Progress.{Progress, Untaken, Made, Moved, Failed, allows, is_failed, is_made, is_moved, is_unfinished}
use Rattle.board.specs.Sound.{IsSound}
use Rattle.stages.specs.Stages.{progress_of}
use Rattle.stages.specs.Stages.{is_gone as stage_gone}
use Rattle.stages.specs.Tasks.{Task, known_at, known_in}
use Rattle.stages.specs.Views.{View, offered, reads_in}
use Rattle.stages.specs.declared.stage.Stage.{Stage}
use Rattle.stages.specs.declared.stage.Stage.TheVariants as stage
use Rattle.board.proofs.BoardLaws.{gone_is}
use Rattle.board.proofs.IssueLaws.{sound_issued}
use Rattle.stages.proofs.NumberLaws.{length_numbers}
use Rattle.stages.proofs.PlaceLaws.{each-from, each-then, places-above}
use Rattle.stages.proofs.ReadyLaws.{offered_is}
use Rattle.stages.proofs.WakeLaws.{waked_grows}

pub all_roles : (ts : List Task) (stages : List Stage) (known : Roles Signature) (inputs : Roles ℕ) → IsThere ts stages known.old inputs.old
    → IsThere ts stages known.mask inputs.mask → IsThere ts stages known.first inputs.first → IsThere ts stages known.second inputs.second
    → (role : Role) → IsThere ts stages (role_of known role) (role_of inputs role)
all_roles ts stages known inputs old mask first second Old = old
all_roles ts stages known inputs old mask first second Mask = mask
all_roles ts stages known inputs old mask first second First = first
all_roles ts stages known inputs old mask first second Second = second

-- what is there takes its role
there_some : (ts : List Task) (stages : List Stage) (known : Option Signature) (i : ℕ) → IsThere ts stages known (Some i)
    → (known_at ts i ≡ known) × (is_seen_gone (seen_at (slice_get stages i)) ≡ false)
there_some ts stages None i h = absurd h
there_some ts stages (Some known) i h = h

known_within : (ts : List Task) (i : ℕ) (s : Signature) → known_at ts i ≡ Some s → i < length ts
known_within ts i s h = elim (cases_lt i (length ts)) [
  | inl low ↦ low
  | inr past ↦ absurd (let e : None ≡ Some s = sym (ap (option_map (λ (t : Task). known_of t.recipe)) (slice_get_past ts i past)) ∙ h in cc (e))
]

module _ (ts : List Task) (stages : List Stage) (recipe : Recipe) (inputs : Roles ℕ) (there : AreThere ts stages recipe inputs) where
  pub at_role : (role : Role) (i : ℕ) → role_of inputs role ≡ Some i → (known_at ts i ≡ known_by recipe role) × (is_seen_gone (seen_at (slice_get stages i)) ≡ false)
  at_role role i takes = there_some ts stages (known_by recipe role) i (subst (λ (o : Option ℕ). IsThere ts stages (known_by recipe role) o) takes (there role))

  pub lower_at : (role : Role) (i : ℕ) → role_of inputs role ≡ Some i → i < length ts
  lower_at role i takes = go (known_by recipe role) refl
    where
      here : IsThere ts stages (known_by recipe role) (Some i)
      here = subst (λ (o : Option ℕ). IsThere ts stages (known_by recipe role) o) takes (there role)

      go : (o : Option Signature) → known_by recipe role ≡ o → i < length ts
      go None e = absurd (let x : IsThere ts stages None (Some i) = subst (λ (o : Option Signature). IsThere ts stages o (Some i)) e here in x)
      go (Some s) e = known_within ts i s ((at_role role i takes).0 ∙ e)

  pub low_each : (n : ℕ) → n ≡ length ts → each (λ i. nat_lt i n) inputs ≡ true
  low_each n e = each-from (λ i. nat_lt i n) inputs (λ role i takes. lt-ltb i n (let l = lower_at role i takes in omega (arith, l, e)))

  pub low_below : (n : ℕ) → length ts ≤ n → each (λ i. nat_lt i n) inputs ≡ true
  low_below n few = each-from (λ i. nat_lt i n) inputs (λ role i takes. lt-ltb i n (let l = lower_at role i takes in omega (arith, l, few)))

  pub known_each : (role : Role) → known_in ts inputs role ≡ known_by recipe role
  known_each role = go (role_of inputs role) refl
    where
      go : (o : Option ℕ) → role_of inputs role ≡ o → known_in ts inputs role ≡ known_by recipe role
      go None takes = ap (option_and_then (known_at ts)) takes ∙ none (known_by recipe role) (subst (λ (o : Option ℕ). IsThere ts stages (known_by recipe role) o) takes (there role))
        where
          none : (known : Option Signature) → IsThere ts stages known None → None ≡ known
          none None h = refl
          none (Some k) h = absurd h
      go (Some i) takes = ap (option_and_then (known_at ts)) takes ∙ (at_role role i takes).0

  pub here_each : (role : Role) (i : ℕ) (s : Stage) → role_of inputs role ≡ Some i → slice_get stages i ≡ Some s → stage_gone s ≡ false
  here_each role i s takes at = not_gone s (ap (λ o. is_seen_gone (seen_at o)) (sym at) ∙ (at_role role i takes).1)
    where
      not_gone : (s : Stage) → is_seen_gone (seen_at (Some s)) ≡ false → stage_gone s ≡ false
      not_gone (stage.Untaken r) h = refl
      not_gone stage.Running h = refl
      not_gone stage.Joining h = refl
      not_gone (stage.Done x) h = refl
      not_gone stage.Gone h = absurd cc
      not_gone stage.Moved h = refl
      not_gone stage.Failed h = refl

  pub unmoved : (role : Role) (i : ℕ) → role_of inputs role ≡ Some i → is_moved (slice_get (map progress_of stages) i) ≡ false
  unmoved role i takes = ap is_moved (slice_get-map progress_of stages i) ∙ go (slice_get stages i) (at_role role i takes).1
    where
      go : (o : Option Stage) → is_seen_gone (seen_at o) ≡ false → is_moved (option_map progress_of o) ≡ false
      go None h = refl
      go (Some (stage.Untaken r)) h = refl
      go (Some stage.Running) h = refl
      go (Some stage.Joining) h = refl
      go (Some (stage.Done x)) h = refl
      go (Some stage.Gone) h = refl
      go (Some stage.Moved) h = absurd cc
      go (Some stage.Failed) h = refl

  pub places_within : (k : ℕ) → 0 < places_of inputs k → k < length ts
  places_within k h = let (role, takes) = places-above inputs k h in lower_at role k takes

-- a board as it is seen, without notes
abbrev pub seen_as : List Task → List Stage → List ℕ → View ℕ
seen_as ts stages holds = record { tasks = ts; notes = []; progress = map progress_of stages; holds = holds }

places_most : (inputs : Roles ℕ) (k : ℕ) → places_of inputs k ≤ 4
places_most inputs k = omega (arith, one inputs.old, one inputs.mask, one inputs.first, one inputs.second)
  where
    below_one : (b : Bool) → cond b 1 0 ≤ 1
    below_one true = omega arith
    below_one false = omega arith

    one : (o : Option ℕ) → place_of o k ≤ 1
    one None = omega arith
    one (Some i) = below_one (eqb i k)

reads_most : (ts : List Task) (ps : List Progress) (k : ℕ) → reads_in ts ps k ≤ 4 * length ts
reads_most [] ps k = omega arith
reads_most (t ∷ ts) [] k = omega arith
reads_most (t ∷ ts) (p ∷ ps) k = let a = reads_most ts ps k in let b = by (is_unfinished p) in omega (arith, a, b)
  where
    by : (b : Bool) → cond b (places_of t.inputs k) 0 ≤ 4
    by true = places_most t.inputs k
    by false = omega arith

module _ (ts : List Task) (stages : List Stage) (holds reads : List ℕ) (readers : List (List ℕ)) (ready : List ℕ) (room : ℕ)
    (sound : IsSound ts stages holds reads readers ready room) where
  -- what is accepted is there
  pub accepts_there : (recipe : Recipe) (inputs : Roles ℕ)
      → ((role : Role) → IsTaken (seen_as ts stages holds) (known_by recipe role) (role_of inputs role))
      → AreThere ts stages recipe inputs
  accepts_there recipe inputs h role = go (known_by recipe role) (role_of inputs role) (h role)
    where
      go : (known : Option Signature) (o : Option ℕ) → IsTaken (seen_as ts stages holds) known o → IsThere ts stages known o
      go None None h = tt
      go None (Some i) h = h
      go (Some k) None h = h
      go (Some k) (Some i) h = (h.0, sym (gone_is ts stages holds reads readers ready room sound i) ∙ h.1)

  pub there_accepts : (recipe : Recipe) (inputs : Roles ℕ) → AreThere ts stages recipe inputs
      → (role : Role) → IsTaken (seen_as ts stages holds) (known_by recipe role) (role_of inputs role)
  there_accepts recipe inputs h role = go (known_by recipe role) (role_of inputs role) (h role)
    where
      go : (known : Option Signature) (o : Option ℕ) → IsThere ts stages known o → IsTaken (seen_as ts stages holds) known o
      go None None h = tt
      go None (Some i) h = h
      go (Some k) None h = h
      go (Some k) (Some i) h = (h.0, gone_is ts stages holds reads readers ready room sound i ∙ h.1)

  pub few_ready : length ready ≤ length ts
  few_ready = let e : length ready ≡ length (offered ts (map progress_of stages)) = ap length sound.offers in
      let m : length (offered ts (map progress_of stages)) ≤ length ts = subst (λ (l : List ℕ). length l ≤ length ts) (offered_is ts (map progress_of stages)) (length_numbers _ (length ts)) in
      omega (arith, e, m)

  pub reads_room : (recipe : Recipe) (inputs : Roles ℕ) (n k : ℕ) → length ts ≡ n → n < 1152921504606846976 → slice_index reads k + places_of inputs k < 18446744073709551616
  reads_room recipe inputs n k e few =
      let a = sound.counted.counted k in let b = reads_most ts (map progress_of stages) k in let c = places_most inputs k in omega (arith, a, b, c, e, few)

  -- lists with more room, and more readers
  pub sound_more : (ts' : List Task) (stages' : List Stage) (holds' reads' : List ℕ) (more : List (List ℕ)) (ready' : List ℕ) (room' : ℕ)
      → ts' ≡ ts → stages' ≡ stages → holds' ≡ holds → reads' ≡ reads → Grows readers more → ready' ≡ ready → room ≤ room'
      → IsSound ts' stages' holds' reads' more ready' room'
  sound_more ts' stages' holds' reads' more ready' room' a b c d grows e le =
      subst (λ (x : List Task). IsSound x stages' holds' reads' more ready' room') (sym a)
      (subst (λ (x : List Stage). IsSound ts x holds' reads' more ready' room') (sym b)
      (subst (λ (x : List ℕ). IsSound ts stages x reads' more ready' room') (sym c)
      (subst (λ (x : List ℕ). IsSound ts stages holds x more ready' room') (sym d)
      (subst (λ (x : List ℕ). IsSound ts stages holds reads more x room') (sym e)
      (record {
        flows = sound.flows;
        fits = sound.fits;
        counted = sound.counted;
        kept = sound.kept;
        waked = waked_grows ts (map progress_of stages) readers more sound.waked grows;
        offers = sound.offers;
        roomy = omega (arith, sound.roomy, le);
      })))))

  pub sound_admitted : (recipe : Recipe) (inputs : Roles ℕ) (waits : Bool) (reads' : List ℕ) (more : List (List ℕ)) (room' : ℕ)
      → AreThere ts stages recipe inputs
      → waits ≡ each (λ i. not (is_failed (slice_get (map progress_of stages) i))) inputs
      → length reads' ≡ length reads
      → ((j : ℕ) → slice_index reads' j ≡ slice_index reads j + cond waits (places_of inputs j) 0)
      → Grows readers more
      → each (λ i. is_made (slice_get (map progress_of stages) i) || has_in (length ts) (slice_get more i)) inputs ≡ true
      → length ts + 1 ≤ room'
      → IsSound (ts ++ record { recipe = recipe; inputs = inputs } ∷ []) (stages ++ cond waits (stage.Untaken recipe) stage.Failed ∷ []) (holds ++ 1 ∷ []) (reads' ++ 0 ∷ []) (more ++ [] ∷ [])
      (ready ++ cond (waits && each (λ i. is_made (slice_get (map progress_of stages) i)) inputs) (length ts ∷ []) []) room'
      × (progress_of (cond waits (stage.Untaken recipe) stage.Failed) ≡ cond waits Untaken Failed)
  sound_admitted recipe inputs true reads' more room' there waits sized counts grows wait roomy = (
    sound_issued ts stages holds reads reads' readers more ready room room' (record { recipe = recipe; inputs = inputs }) (stage.Untaken recipe) sound
        (low_each ts stages recipe inputs there (length ts) refl) (known_each ts stages recipe inputs there) (here_each ts stages recipe inputs there)
        (each-then (λ i. not (is_failed (slice_get (map progress_of stages) i))) (λ i. allows Untaken (slice_get (map progress_of stages) i)) inputs (sym waits)
        (λ role i takes h. and_from (not (is_failed (slice_get (map progress_of stages) i))) (not (is_moved (slice_get (map progress_of stages) i))) h (ap not (unmoved ts stages recipe inputs there role i takes))))
        refl refl (λ r e. cc (e)) sized counts grows (λ u. wait) roomy,
    refl,
  )
  sound_admitted recipe inputs false reads' more room' there waits sized counts grows wait roomy = (
    sound_issued ts stages holds reads reads' readers more ready room room' (record { recipe = recipe; inputs = inputs }) stage.Failed sound
        (low_each ts stages recipe inputs there (length ts) refl) (known_each ts stages recipe inputs there) (here_each ts stages recipe inputs there)
        (each-from (λ i. allows Failed (slice_get (map progress_of stages) i)) inputs (λ role i takes. refl))
        refl refl (λ r e. absurd cc) sized counts grows (λ u. absurd cc) roomy,
    refl,
  )

-- ---- lists with one more

pub map_snoc : {A B : Type 0} (f : A → B) (xs ys zs : List A) (x : A) (y : B) → zs ≡ ys ++ x ∷ [] → ys ≡ xs → f x ≡ y → map f zs ≡ map f xs ++ y ∷ []
map_snoc f xs ys zs x y e d h = ap (map f) e ∙ (ap (λ l. map f (l ++ x ∷ [])) d ∙ (map-append f xs (x ∷ []) ∙ ap (λ z. map f xs ++ z ∷ []) h))

pub is_snoc : {A : Type 0} (xs ys zs : List A) (x y : A) → zs ≡ ys ++ x ∷ [] → ys ≡ xs → x ≡ y → zs ≡ xs ++ y ∷ []
is_snoc xs ys zs x y e d h = e ∙ (ap (λ l. l ++ x ∷ []) d ∙ ap (λ z. xs ++ z ∷ []) h)

pub grows_is : (a b c : List (List ℕ)) → Grows a b → c ≡ b → Grows a c
grows_is a b c grows e = subst (λ l. Grows a l) (sym e) grows

pub view_issued : {N : Type 0} (v : View N) (ts : List Task) (ns : List N) (ps : List Progress) (hs : List ℕ) (note : N) (recipe : Recipe) (inputs : Roles ℕ) (p : Progress)
    → ts ≡ v.tasks ++ record { recipe = recipe; inputs = inputs } ∷ [] → ns ≡ v.notes ++ note ∷ [] → ps ≡ v.progress ++ p ∷ [] → hs ≡ v.holds ++ 1 ∷ []
    → p ≡ first_progress v.progress inputs
    → record { tasks = ts; notes = ns; progress = ps; holds = hs } ≡ issued v note recipe inputs
view_issued {N} v ts ns ps hs note recipe inputs p a b c d e =
    let f : ps ≡ v.progress ++ first_progress v.progress inputs ∷ [] = c ∙ ap (λ q. v.progress ++ q ∷ []) e in
    λ t. record { tasks = a t; notes = b t; progress = f t; holds = d t }

-- what was made hasn't failed
made_kept : (o : Option Progress) → is_made o ≡ true → not (is_failed o) ≡ true
made_kept None h = absurd cc
made_kept (Some r) h = elim r as (λ r. is_made (Some r) ≡ true → not (is_failed (Some r)) ≡ true) [ Made ↦ λ h. refl | Moved ↦ λ h. refl | _ ↦ λ h. absurd cc ] h

pub each_kept : (ps : List Progress) (inputs : Roles ℕ) → each (λ i. is_made (slice_get ps i)) inputs ≡ true
    → each (λ i. not (is_failed (slice_get ps i))) inputs ≡ true
each_kept ps inputs made = each-then (λ i. is_made (slice_get ps i)) (λ i. not (is_failed (slice_get ps i))) inputs made (λ role i takes h. made_kept (slice_get ps i) h)

-- a slot whose inputs were made waits, and needn't
pub ready_waits : (made waits : Bool) (ps : List Progress) (inputs : Roles ℕ) → made ≡ each (λ i. is_made (slice_get ps i)) inputs
    → waits ≡ each (λ i. not (is_failed (slice_get ps i))) inputs → made ≡ (waits && each (λ i. is_made (slice_get ps i)) inputs)
ready_waits true waits ps inputs made is = rw (is, each_kept ps inputs (sym made)) made
ready_waits false waits ps inputs made is = rw (← made) (sym (and-false waits))

pub first_is : (waits : Bool) (ps : List Progress) (inputs : Roles ℕ) (r : Recipe) → waits ≡ each (λ i. not (is_failed (slice_get ps i))) inputs
    → progress_of (cond waits (stage.Untaken r) stage.Failed) ≡ first_progress ps inputs
first_is true ps inputs r h = ap (λ b. cond b Untaken Failed) h
first_is false ps inputs r h = ap (λ b. cond b Untaken Failed) h

pub task_is : (t : Task) (recipe : Recipe) (inputs : Roles ℕ) → t.recipe ≡ recipe → t.inputs ≡ inputs → t ≡ record { recipe = recipe; inputs = inputs }
task_is t recipe inputs a b = λ x. record { recipe = a x; inputs = b x }

pub there_by : (ts us : List Task) (ss rs : List Stage) (recipe : Recipe) (inputs : Roles ℕ) → ts ≡ us → ss ≡ rs → AreThere ts ss recipe inputs → AreThere us rs recipe inputs
there_by ts us ss rs recipe inputs a b h =
    subst (λ (x : List Stage). AreThere us x recipe inputs) b (subst (λ (x : List Task). AreThere x ss recipe inputs) a h)
