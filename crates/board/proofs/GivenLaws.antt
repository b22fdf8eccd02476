-- A slot whose store is there when it comes.
use Rattle.std.proofs.Common.{◌≡◌, ◌∙◌, ℕ, zero, suc, ◌≤◌, ◌&&◌, Bool, true, false, cond, eqb, List, [], ◌∷◌, ◌++◌, length, map, not, Option, Some, None, slice_get, slice_set, refl, sym, ap, subst}
use Rattle.std.specs.Global.{Box}
use Rattle.std.specs.Prelude.{OnOk, Result, Ok, Err}
use Rattle.std.specs.Arc.{arc_value}
use Rattle.std.specs.Option.{option_map, option_map_or}
use Rattle.calls.specs.declared.recipe.Given.{Given}
use Rattle.calls.specs.declared.recipe.Recipe.TheVariants as recipe
use Rattle.calls.specs.declared.role.Roles.{Roles}
use Rattle.calls.specs.Roles.{no_roles}
use Rattle.calls.specs.Stores.{object_with}
use Rattle.model.specs.Object.{IsObject, Object}
use Rattle.runner.specs.Tickets.{IsStoreFor}
use Rattle.store.specs.Stored.{content_of}
use Rattle.board.specs.Events.{with_progress}
use Rattle.stages.specs.Numbers.{numbers}
use Rattle.stages.specs.Places.{each}
use Rattle.stages.specs.Progress.{Progress, Untaken, Running, Joining, Made, Moved, Failed, allows, is_joining, is_made, is_running, is_unfinished, is_untaken}
use Rattle.board.specs.Sound.{IsSound}
use Rattle.stages.specs.Stages.{progress_of}
use Rattle.stages.specs.Tasks.{Task, object_at, objects}
use Rattle.stages.specs.Views.{View, is_ready}
use Rattle.board.specs.declared.look.Refusal.{Refusal}
use Rattle.board.specs.declared.look.Refusal.TheVariants.{Stranger}
use Rattle.stages.specs.declared.stage.Stage.{Stage}
use Rattle.stages.specs.declared.stage.Stage.TheVariants as stage
use Rattle.board.proofs.FailLaws.{ready_without}
use Rattle.stages.proofs.ListLaws.{get_end, get_set_same}
use Rattle.board.proofs.ObjectLaws.{made_unfolds, object_at_made}
use Rattle.board.proofs.OutLaws.{sound_room}
use Rattle.stages.proofs.ReadyLaws.{untaken_some}
use Rattle.board.proofs.SoundLaws.{sound_set, stage_at}

pub given_object : (ts : List Task) (k : ℕ) (given : Box Given) → slice_get ts k ≡ Some (record { recipe = recipe.Given given; inputs = no_roles })
    → object_at ts k ≡ object_with given.value.of (content_of (arc_value given.value.store))
given_object ts k given is =
    object_at_made ts k (record { recipe = recipe.Given given; inputs = no_roles }) is refl
    ∙ made_unfolds (objects ts) (record { recipe = recipe.Given given; inputs = no_roles })

pub given_is_object : (ts : List Task) (k : ℕ) (given : Box Given) → slice_get ts k ≡ Some (record { recipe = recipe.Given given; inputs = no_roles })
    → IsObject (object_at ts k)
given_is_object ts k given is = subst IsObject (sym (given_object ts k given is)) given.value.is_store.is_object

pub given_right : (ts : List Task) (k : ℕ) (given : Box Given) → slice_get ts k ≡ Some (record { recipe = recipe.Given given; inputs = no_roles })
    → IsStoreFor (object_at ts k) (arc_value given.value.store)
given_right ts k given is =
    subst (λ (o : Object). IsStoreFor o (arc_value given.value.store)) (sym (given_object ts k given is))
    (record { rows = given.value.is_store.rows; cols = given.value.is_store.cols; content = λ i j. refl })

-- the task of a slot that was added for a store
pub placed_at : (ts next : List Task) (given : Box Given) (inputs : Roles ℕ) (k : ℕ) → next ≡ ts ++ record { recipe = recipe.Given given; inputs = inputs } ∷ []
    → inputs ≡ no_roles → k ≡ length ts → slice_get next k ≡ Some (record { recipe = recipe.Given given; inputs = no_roles })
placed_at ts next given inputs k next_is none last =
    ap (λ (l : List Task). slice_get l k) next_is
    ∙ (get_end ts (record { recipe = recipe.Given given; inputs = inputs }) k last
    ∙ ap (λ (i : Roles ℕ). Some (record { recipe = recipe.Given given; inputs = i })) none)

-- a slot whose task reads no other
pub alone_at : (o : Option Task) → option_map (λ (t : Task). t.inputs) o ≡ Some no_roles → (t : Task) × (o ≡ Some t) × (t.inputs ≡ no_roles)
alone_at None h = absurd cc
alone_at (Some t) h = (t, refl, cc (h))

set_twice : {A : Type 0} (xs : List A) (k : ℕ) (x y : A) → slice_set (slice_set xs k x) k y ≡ slice_set xs k y
set_twice [] k x y = refl
set_twice (z ∷ xs) zero x y = refl
set_twice (z ∷ xs) (suc k) x y = ap (λ l. z ∷ l) (set_twice xs k x y)

-- a slot that was joined is whole
pub filled : {N : Type 0} (v w : View N) (k : ℕ) (mid : List Progress) (r : Result (Unit {0}) Refusal) (b : Bool) → b ≡ true
    → r ≡ cond b (Ok tt) (Err Stranger) → OnOk r (w ≡ with_progress (record v { progress = mid }) k Made)
    → mid ≡ slice_set v.progress k Joining → w ≡ with_progress v k Made
filled v w k mid (Ok x) b joins is made set =
    made ∙ ap (λ (qs : List Progress). record v { progress = qs }) (ap (λ qs. slice_set qs k Made) set ∙ set_twice v.progress k Joining Made)
filled v w k mid (Err why) b joins is made set =
    absurd (let e : Err why ≡ Ok tt = is ∙ ap (λ c. cond c (Ok tt) (Err Stranger)) joins in cc (e))

pub running_some : (o : Option Progress) → is_running o ≡ true → o ≡ Some Running
running_some None h = absurd cc
running_some (Some r) h = elim r as (λ r. is_running (Some r) ≡ true → Some r ≡ Some Running) [ Running ↦ λ h. refl | _ ↦ λ h. absurd cc ] h

-- a slot that ran is whole once its store was handed in
pub handed : {N : Type 0} (v w : View N) (k : ℕ) (mid : List Progress) (r : Result (Unit {0}) Refusal)
    → is_running (slice_get v.progress k) ≡ true → mid ≡ slice_set v.progress k Joining
    → r ≡ cond (is_joining (slice_get mid k)) (Ok tt) (Err Stranger)
    → OnOk r (w ≡ with_progress (record v { progress = mid }) k Made) → (r ≡ Ok tt) × (w ≡ with_progress v k Made)
handed v w k mid r runs set answer made =
    (ok, filled v w k mid r (is_joining (slice_get mid k)) joins answer made set)
  where
    joins : is_joining (slice_get mid k) ≡ true
    joins =
        ap (λ (l : List Progress). is_joining (slice_get l k)) set
        ∙ ap is_joining (get_set_same v.progress k Joining Running (running_some (slice_get v.progress k) runs))

    ok : r ≡ Ok tt
    ok = answer ∙ ap (λ (b : Bool). cond b (Ok tt) (Err Stranger)) joins

module _ (ts : List Task) (stages : List Stage) (holds reads : List ℕ) (readers : List (List ℕ)) (ready : List ℕ) (room : ℕ)
    (sound : IsSound ts stages holds reads readers ready room) (k : ℕ)
    (untaken : is_untaken (slice_get (map progress_of stages) k) ≡ true) where
  pub to_come : option_map_or is_unfinished (slice_get (map progress_of stages) k) false ≡ true
  to_come = ap (λ o. option_map_or is_unfinished o false) (untaken_some (slice_get (map progress_of stages) k) untaken)

  -- nobody took it, and its store is there
  pub sound_joined : (t : Task) (next : List Stage) (ready' : List ℕ) (room' : ℕ) → slice_get ts k ≡ Some t → t.inputs ≡ no_roles → IsObject (object_at ts k)
      → next ≡ slice_set stages k stage.Joining
      → ready' ≡ numbers (λ j. is_ready ts (map progress_of stages) j && not (eqb j k)) (length ts) → room ≤ room'
      → IsSound ts next holds reads readers ready' room'
  sound_joined t next ready' room' is alone object next_is without more =
      let (st, was, far) = stage_at stages k Untaken (untaken_some (slice_get (map progress_of stages) k) untaken) in
      let joined : IsSound ts (slice_set stages k stage.Joining) holds reads readers ready' room = sound_set ts stages holds reads readers ready ready' room k t st stage.Joining sound is was
      (λ j u r there at names h. joins r (ap (λ q. allows r (Some q)) (sym far) ∙ h))
      (ap (λ (inputs : Roles ℕ). each (λ i. allows Joining (slice_get (map progress_of stages) i)) inputs) alone)
      (ap is_unfinished (sym far)) refl
      (λ h. absurd (let e : is_made (Some (progress_of st)) ≡ false = ap (λ q. is_made (Some q)) far in cc (e, h)))
      (record { recipe = λ r e. absurd cc; right = λ s e. absurd cc; used = λ e. absurd cc; gone = λ e. absurd cc; object = λ e. object })
      (without ∙ ready_without ts stages holds reads readers ready room sound k to_come Joining refl refl) in
      sound_room ts next holds reads readers ready' room room' (subst (λ l. IsSound ts l holds reads readers ready' room) (sym next_is) joined) more
    where
      joins : (r : Progress) → allows r (Some Untaken) ≡ true → allows r (Some Joining) ≡ true
      joins Untaken h = refl
      joins Running h = absurd cc
      joins Joining h = absurd cc
      joins Made h = absurd cc
      joins Moved h = absurd cc
      joins Failed h = refl
