-- Environments as the plain evaluator keeps them: a list of objects with their names.
use Rattle.std.proofs.Common.{◌≡◌, ℕ, ◌-◌, Bool, true, false, cond, not, List, [], ◌∷◌, ◌++◌, filter, Option, Some, None, Result, Ok, Err, IsErr, MatchResult, refl, sym, ◌∙◌, ap, inl, inr}
use Rattle.std.specs.List.{find}
use Rattle.std.specs.Option.{option_map, option_or}
use Rattle.std.specs.Str.{bytes_eq}
use Rattle.std.specs.String.{string_bytes}
use Rattle.std.proofs.lemmas.Bool.{cases_Bool, true≢false}
use Rattle.std.proofs.lemmas.List.Folds.{find-append}
use Rattle.std.proofs.lemmas.Slice.Eq.{bytes_eq-Decides}
use Rattle.model.specs.declared.call.Act.TheVariants.{Free}
use Rattle.model.specs.declared.call.Call.TheVariants.{On}
use Rattle.model.specs.Grammar.{Name}
use Rattle.model.specs.Run.{effect, with_object}
use Rattle.model.proofs.EnvironmentLaws.{environments_equal}
use Rattle.plain.specs.declared.environment.PlainEnvironment.{PlainEnvironment}
use Rattle.plain.specs.declared.objects.PlainObject.{PlainObject}
use Rattle.plain.specs.Environments.{environment_of, find_in}
use Rattle.plain.specs.Evaluated.{object_of}

abbrev has_name : Name → PlainObject → Bool
has_name name o = bytes_eq (string_bytes o.name) name

-- the same objects are the same environment
pub environment-kept : (old new : PlainEnvironment) → new.objects.items ≡ old.objects.items → new.live ≡ old.live
    → environment_of new ≡ environment_of old
environment-kept old new same count =
    environments_equal (environment_of new) (environment_of old)
    (λ name. ap (λ (os : List PlainObject). option_map object_of (find_in os name)) same)
    count

-- an object of one name doesn't have another
other_name : (name other : Name) (x : PlainObject) → has_name name x ≡ false → has_name other x ≡ true
    → bytes_eq name other ≡ false
other_name name other x elsewhere here = elim (cases_Bool (bytes_eq name other)) [
  | inl same ↦
      let is : name ≡ other = (bytes_eq-Decides name other).0 same in
      absurd (true≢false (sym (rw (← is) at here) ∙ elsewhere))
  | inr apart ↦ apart
]

-- ---- objects that are freed

hidden : (test : Bool) (x : PlainObject) (r s : Option PlainObject) → r ≡ cond test None s
    → r ≡ cond test None (cond test (Some x) s)
hidden true x r s e = e
hidden false x r s e = e

kept : (first test : Bool) (x : PlainObject) (r s : Option PlainObject) → (first ≡ true → test ≡ false)
    → r ≡ cond test None s → cond first (Some x) r ≡ cond test None (cond first (Some x) s)
kept true test x r s apart e = rw (apart refl) refl
kept false test x r s apart e = e

-- the first object of another name among those that have not one name
found_among : (name other : Name) (xs : List PlainObject)
    → find (has_name other)
    (filter (λ o. not (has_name name o)) xs) ≡ cond (bytes_eq name other) None (find (has_name other) xs)
found_among name other [] = elim (cases_Bool (bytes_eq name other)) [ inl same ↦ rw same refl | inr apart ↦ rw apart refl ]
found_among name other (x ∷ xs) = elim (cases_Bool (has_name name x)) [
  | inl here ↦
      let is : string_bytes x.name ≡ name = (bytes_eq-Decides (string_bytes x.name) name).0 here in
      rw here (hidden (bytes_eq name other) x _ (find (has_name other) xs) (found_among name other xs)
      ∙ ap (λ n. cond (bytes_eq name other) None (cond (bytes_eq n other) (Some x) (find (has_name other) xs))) (sym is))
  | inr elsewhere ↦
      rw elsewhere (kept (has_name other x) (bytes_eq name other) x _ (find (has_name other) xs) (other_name name other x elsewhere) (found_among name other xs))
]

option_map-cond : {A B : Type 0} (f : A → B) (test : Bool) (x y : Option A)
    → option_map f (cond test x y) ≡ cond test (option_map f x) (option_map f y)
option_map-cond f true x y = refl
option_map-cond f false x y = refl

-- those of other names are left
pub environment-freed : (old new : PlainEnvironment) (name : Name)
    → new.objects.items ≡ filter (λ o. not (has_name name o)) old.objects.items → new.live ≡ old.live - 1
    → environment_of new ≡ effect bytes_eq (environment_of old) (On name Free)
unfolding effect
environment-freed old new name left count =
    environments_equal (environment_of new) (effect bytes_eq (environment_of old) (On name Free))
    (λ other.
    ap (λ (os : List PlainObject). option_map object_of (find_in os other)) left
    ∙ ap (option_map object_of) (found_among name other old.objects.items)
    ∙ option_map-cond object_of (bytes_eq name other) None (find_in old.objects.items other))
    count

-- ---- objects that are put

chosen_last : {X : Type 0} (test : Bool) (o : Option X) (y : X)
    → option_or (cond test None o) (cond test (Some y) None) ≡ cond test (Some y) o
chosen_last true o y = refl
chosen_last false None y = refl
chosen_last false (Some x) y = refl

-- a new object behind those of other names
pub environment-put : (old new : PlainEnvironment) (o : PlainObject) (live : ℕ)
    → new.objects.items ≡ filter (λ x. not (has_name (string_bytes o.name) x)) old.objects.items ++ o ∷ []
    → new.live ≡ live
    → environment_of new ≡ with_object bytes_eq (environment_of old) (string_bytes o.name) (object_of o) live
environment-put old new o live left count =
    let name = string_bytes o.name in
    let others = filter (λ x. not (has_name name x)) old.objects.items in
    environments_equal (environment_of new) (with_object bytes_eq (environment_of old) name (object_of o) live)
    (λ other.
    ap (λ (os : List PlainObject). option_map object_of (find_in os other)) left
    ∙ ap (option_map object_of) (find-append (has_name other) others (o ∷ [])
    ∙ ap (λ found. option_or found (cond (bytes_eq name other) (Some o) None)) (found_among name other old.objects.items)
    ∙ chosen_last (bytes_eq name other) (find_in old.objects.items other) o)
    ∙ option_map-cond object_of (bytes_eq name other) (Some o) (find_in old.objects.items other))
    count

-- ---- results

pub match_err : {T E Q : Type 0} (r : Result T E) (P : T → Type 0) → IsErr r → Q → MatchResult r P (λ e. Q)
match_err (Ok x) P h q = absurd (cc)
match_err (Err e) P h q = q
