-- What tasks make does not change as tasks are added, and each makes what its recipe gives of its inputs' objects.
use Rattle.std.specs.Prelude.{nat_lt}
use Rattle.std.proofs.Common.{◌≡◌, ℕ, zero, suc, ◌+◌, ◌<◌, List, [], ◌∷◌, ◌++◌, length, Option, true, Some, None, slice_get, refl, ap, sym, ◌∙◌, arith, length-append}
use Rattle.std.specs.Option.{option_map_or}
use Rattle.std.proofs.lemmas.Bool.{ltb-true}
use Rattle.calls.specs.declared.role.Role.{Role}
use Rattle.calls.specs.declared.role.Roles.{Roles}
use Rattle.calls.specs.Recipes.{known_of, meaning_of}
use Rattle.calls.specs.Roles.{role_of}
use Rattle.calls.specs.Stores.{object_with}
use Rattle.model.specs.Object.{Content, Object, no_content}
use Rattle.stages.specs.Places.{each}
use Rattle.stages.specs.Tasks.{Task, made_of, maps_of, object_at, object_in, objects, objects_after}
use Rattle.stages.proofs.PlaceLaws.{each-at}

in_left : (os more : List Object) (k : ℕ) → k < length os → object_in (os ++ more) k ≡ object_in os k
in_left [] more k h = absurd (omega arith)
in_left (o ∷ os) more zero h = refl
in_left (o ∷ os) more (suc k) h = in_left os more k (omega arith)

in_end : (os : List Object) (o : Object) → object_in (os ++ o ∷ []) (length os) ≡ o
in_end [] o = refl
in_end (p ∷ os) o = in_end os o

objects_snoc : (os : List Object) (ts : List Task) (t : Task)
    → objects_after os (ts ++ t ∷ []) ≡ objects_after os ts ++ made_of (objects_after os ts) t ∷ []
objects_snoc os [] t = refl
objects_snoc os (u ∷ ts) t = objects_snoc (os ++ made_of os u ∷ []) ts t

length_after : (os : List Object) (ts : List Task) → length (objects_after os ts) ≡ length os + length ts
length_after os [] = omega arith
length_after os (u ∷ ts) = omega (arith, length_after (os ++ made_of os u ∷ []) ts, length-append os (made_of os u ∷ []))

-- what was there stays
after_stays : (os : List Object) (ts : List Task) (k : ℕ) → k < length os → object_in (objects_after os ts) k ≡ object_in os k
after_stays os [] k h = refl
after_stays os (u ∷ ts) k h =
    after_stays (os ++ made_of os u ∷ []) ts k (omega (arith, length-append os (made_of os u ∷ []))) ∙ in_left os (made_of os u ∷ []) k h

pub object_at_left : (ts : List Task) (t : Task) (k : ℕ) → k < length ts → object_at (ts ++ t ∷ []) k ≡ object_at ts k
unfolding object_at objects
object_at_left ts t k h =
    ap (λ os. object_in os k) (objects_snoc [] ts t)
    ∙ in_left (objects_after [] ts) (made_of (objects_after [] ts) t ∷ []) k (omega (arith, length_after [] ts))

maps_same : (os ps : List Object) (inputs : Roles ℕ) → ((role : Role) (i : ℕ) → role_of inputs role ≡ Some i → object_in os i ≡ object_in ps i)
    → maps_of os inputs ≡ maps_of ps inputs
maps_same os ps inputs same = λ t role. at role (role_of inputs role) refl t
  where
    at : (role : Role) (o : Option ℕ) → role_of inputs role ≡ o
        → option_map_or (λ i. (object_in os i).content) o no_content ≡ option_map_or (λ i. (object_in ps i).content) o no_content
    at role None is = refl
    at role (Some i) is = ap (λ (o : Object). o.content) (same role i is)

made_same : (os ps : List Object) (t : Task) → ((role : Role) (i : ℕ) → role_of t.inputs role ≡ Some i → object_in os i ≡ object_in ps i)
    → made_of os t ≡ made_of ps t
unfolding made_of
made_same os ps t same = ap (λ (maps : Role → Content). object_with (known_of t.recipe) (meaning_of t.recipe maps)) (maps_same os ps t.inputs same)

made_at_from : (ts : List Task) (os : List Object) (k : ℕ) (t : Task) → slice_get ts k ≡ Some t
    → ((role : Role) (i : ℕ) → role_of t.inputs role ≡ Some i → i < length os + k)
    → object_in (objects_after os ts) (length os + k) ≡ made_of (objects_after os ts) t
made_at_from [] os k t is low = absurd cc
made_at_from (u ∷ ts) os zero t is low =
    let next = os ++ made_of os u ∷ [] in
    let task : u ≡ t = cc (is) in
    let here : object_in (objects_after next ts) (length os) ≡ made_of os u =
    after_stays next ts (length os) (omega (arith, length-append os (made_of os u ∷ []))) ∙ in_end os (made_of os u) in
    let same : made_of (objects_after next ts) t ≡ made_of os t = made_same (objects_after next ts) os t
    (λ role i takes.
    let l = low role i takes in
    after_stays next ts i (omega (arith, l, length-append os (made_of os u ∷ []))) ∙ in_left os (made_of os u ∷ []) i (omega (arith, l))) in
    let zeroed : length os + 0 ≡ length os = omega arith in
    ap (λ n. object_in (objects_after next ts) n) zeroed ∙ (here ∙ (ap (made_of os) task ∙ sym same))
made_at_from (u ∷ ts) os (suc k) t is low =
    let next = os ++ made_of os u ∷ [] in
    let len : length next + k ≡ length os + suc k = omega (arith, length-append os (made_of os u ∷ [])) in
    ap (λ n. object_in (objects_after next ts) n) (sym len)
    ∙ made_at_from ts next k t is (λ role i takes. let l = low role i takes in omega (arith, l, len))

-- a task makes what its recipe gives of what its inputs make
pub object_at_made : (ts : List Task) (k : ℕ) (t : Task) → slice_get ts k ≡ Some t → each (λ i. nat_lt i k) t.inputs ≡ true
    → object_at ts k ≡ made_of (objects ts) t
unfolding object_at objects
object_at_made ts k t is low =
    let zeroed : 0 + k ≡ k = omega arith in
    ap (λ n. object_in (objects_after [] ts) n) (sym zeroed)
    ∙ made_at_from ts [] k t is (λ role i takes. let l = ltb-true i k (each-at (λ j. nat_lt j k) t.inputs low role i takes) in omega (arith, l))

pub made_unfolds : (os : List Object) (t : Task) → made_of os t ≡ object_with (known_of t.recipe) (meaning_of t.recipe (maps_of os t.inputs))
unfolding made_of
made_unfolds os t = refl

pub object_unfolds : (ts : List Task) (k : ℕ) → object_in (objects ts) k ≡ object_at ts k
unfolding object_at
object_unfolds ts k = refl
