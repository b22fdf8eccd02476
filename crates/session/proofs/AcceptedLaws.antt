-- What is known of calls whose checks found no fault.
use Rattle.std.proofs.Common.{◌≡◌, ℕ, ◌==◌, ◌^◌, ◌-◌, ◌&&◌, ◌||◌, Bool, true, false, cond, not, List, Option, Some, None, is_some, refl}
use Rattle.std.specs.Prelude.{ℤ, nat_le}
use Rattle.std.specs.Option.{option_map, option_map_or, unwrap_or}
use Rattle.std.proofs.lemmas.Bool.{and_parts}
use Rattle.algebra.specs.declared.domain.Domain.{Domain}
use Rattle.algebra.specs.declared.operator_names.MonoidName.{MonoidName}
use Rattle.algebra.specs.declared.operator_names.OpName.{OpName}
use Rattle.algebra.specs.Operators.{combines_by, offers}
use Rattle.algebra.specs.Value.{are_compatible, is_value_of, word_of}
use Rattle.model.specs.declared.call.Act.{Act}
use Rattle.model.specs.declared.call.Act.TheVariants.{Free, Build, Set, Remove, Reduce}
use Rattle.model.specs.declared.call.Call.TheVariants.{Create, Dup, On}
use Rattle.model.specs.declared.limits.TheConstants.{MOST_OBJECTS}
use Rattle.model.specs.declared.shape.Place.{Place}
use Rattle.model.specs.declared.shape.Shape.{Shape}
use Rattle.model.specs.declared.status.Status.{Status}
use Rattle.model.specs.declared.status.Status.TheVariants as status
use Rattle.model.specs.declared.tuples.Tuple.{Tuple}
use Rattle.model.specs.Builds.{are_inside, are_of_kind, are_single, are_values_of}
use Rattle.model.specs.Fault.{accumulates, are_dimensions, early_fault}
use Rattle.model.specs.Object.{Object, is_inside, is_of_kind, signature_of}
use Rattle.model.specs.Run.{no_object}

-- the object of an accepted act is there
pub act-there : (count : ℕ) (o : Option Object) (act : Act)
    → early_fault count (On (option_map signature_of o) act) ≡ None → is_some o ≡ true
unfolding early_fault
act-there count None act h = absurd (cc)
act-there count (Some o) act h = refl

three : (a b c : Bool) → cond (not a) (Some status.WrongKind)
    (cond (not b) (Some status.InvalidIndex) (cond (not c) (Some status.InvalidValue) None)) ≡ None
    → (b ≡ true) × (c ≡ true)
three true true true h = (refl, refl)
three true true false h = absurd (cc)
three true false c h = absurd (cc)
three false b c h = absurd (cc)

pub set-accepted : (count : ℕ) (o : Option Object) (p : Place) (value : ℤ)
    → early_fault count (On (option_map signature_of o) (Set p value)) ≡ None
    → (is_some o ≡ true) × (is_inside p (unwrap_or o no_object).shape ≡ true) × (is_value_of (unwrap_or o no_object).domain value ≡ true)
unfolding early_fault
set-accepted count None p value h = absurd (cc)
set-accepted count (Some o) p value h =
    let both = three (is_of_kind p o.shape) (is_inside p o.shape) (is_value_of o.domain value) h in
    (refl, both.0, both.1)

-- the word of a value in the domain of an object that is there
pub word-found : (found : Option Object) (value : ℤ) (word : ℕ) → is_some found ≡ true
    → option_map (λ o. word_of o.domain value) (option_map signature_of found) ≡ Some word
    → word ≡ word_of (unwrap_or found no_object).domain value
word-found None value word there is = absurd (cc)
word-found (Some o) value word there is = cc

two : (a b : Bool) → cond (not a) (Some status.WrongKind) (cond (not b) (Some status.InvalidIndex) None) ≡ None
    → b ≡ true
two true true h = refl
two true false h = absurd (cc)
two false b h = absurd (cc)

pub remove-accepted : (count : ℕ) (o : Option Object) (p : Place)
    → early_fault count (On (option_map signature_of o) (Remove p)) ≡ None
    → (is_some o ≡ true) × (is_inside p (unwrap_or o no_object).shape ≡ true)
unfolding early_fault
remove-accepted count None p h = absurd (cc)
remove-accepted count (Some o) p h = (refl, two (is_of_kind p o.shape) (is_inside p o.shape) h)

-- where a sum is accepted, there is the monoid, and the values are cast to its domain
summed : (offered compatible : Bool) → cond (not offered) (Some status.NotImplemented)
    (cond (not compatible) (Some status.DomainMismatch) None) ≡ None
    → (offered ≡ true) × (compatible ≡ true)
summed true true h = (refl, refl)
summed true false h = absurd (cc)
summed false compatible h = absurd (cc)

pub reduce-accepted : (count : ℕ) (o : Option Object) (monoid : MonoidName)
    → early_fault count (On (option_map signature_of o) (Reduce monoid)) ≡ None
    → (is_some o ≡ true) × (offers (combines_by monoid.kind) monoid.domain ≡ true) × (are_compatible (unwrap_or o no_object).domain monoid.domain ≡ true)
unfolding early_fault
reduce-accepted count None monoid h = absurd (cc)
reduce-accepted count (Some o) monoid h =
    let both = summed (offers (combines_by monoid.kind) monoid.domain) (are_compatible o.domain monoid.domain) h in
    (refl, both.0, both.1)

full : (most : Bool) (rest : Option Status) → cond most (Some status.NotImplemented) rest ≡ None → most ≡ false
full true rest h = absurd (cc)
full false rest h = refl

pub dup-accepted : (count : ℕ) (o : Option Object) → early_fault count (Dup false (option_map signature_of o)) ≡ None
    → (is_some o ≡ true) × (nat_le MOST_OBJECTS count ≡ false)
unfolding early_fault
dup-accepted count None h = absurd (cc)
dup-accepted count (Some o) h = (refl, full (nat_le MOST_OBJECTS count) None h)

builds : (kind joins inside values : Bool) → cond (not kind) (Some status.WrongKind)
    (cond (not joins) (Some status.NotImplemented) (cond (not inside) (Some status.IndexOutOfBounds) (cond (not values) (Some status.InvalidValue) None))) ≡ None
    → (joins ≡ true) × (inside ≡ true) × (values ≡ true)
builds true true true true h = (refl, refl, refl)
builds true true true false h = absurd (cc)
builds true true false values h = absurd (cc)
builds true false inside values h = absurd (cc)
builds false joins inside values h = absurd (cc)

-- what an accepted build says of its object, its operator and its tuples
pub record BuildsOn (o : Object) (dup : Option OpName) (tuples : List Tuple) : Type 0 where
  pub joins : option_map_or (accumulates o.domain) dup true ≡ true
  pub inside : are_inside o.shape tuples ≡ true
  pub values : are_values_of o.domain tuples ≡ true

pub build-accepted : (count : ℕ) (o : Option Object) (dup : Option OpName) (tuples : List Tuple)
    → early_fault count (On (option_map signature_of o) (Build dup tuples)) ≡ None
    → (is_some o ≡ true) × BuildsOn (unwrap_or o no_object) dup tuples
unfolding early_fault
build-accepted count None dup tuples h = absurd (cc)
build-accepted count (Some o) dup tuples h =
    let all = builds (are_of_kind o.shape tuples) (option_map_or (accumulates o.domain) dup true) (are_inside o.shape tuples) (are_values_of o.domain tuples && (is_some dup || are_single tuples)) h in
    (refl, record { joins = all.0; inside = all.1; values = (and_parts (are_values_of o.domain tuples) (is_some dup || are_single tuples) all.2).0 })

pub create-accepted : (count : ℕ) (domain : Domain) (shape : Shape)
    → early_fault count (Create false domain shape) ≡ None → nat_le MOST_OBJECTS count ≡ false
unfolding early_fault
create-accepted count domain shape h = full (nat_le MOST_OBJECTS count) (cond (not (are_dimensions shape)) (Some status.InvalidValue) None) h

last_refused : (last : Bool) (count : ℕ) → nat_le MOST_OBJECTS (cond last MOST_OBJECTS count) ≡ false → last ≡ false
last_refused true count h = absurd (cc)
last_refused false count h = refl

-- there is a number left for a copy
pub number_left-dup : (next count : ℕ) (o : Option Object)
    → early_fault (cond (next == 2 ^ 64 - 1) MOST_OBJECTS count) (Dup false (option_map signature_of o)) ≡ None
    → (next == 2 ^ 64 - 1) ≡ false
number_left-dup next count o h =
    last_refused (next == 2 ^ 64 - 1) count (dup-accepted (cond (next == 2 ^ 64 - 1) MOST_OBJECTS count) o h).1

-- there is a number left for what is made
pub number_left : (next count : ℕ) (domain : Domain) (shape : Shape)
    → early_fault (cond (next == 2 ^ 64 - 1) MOST_OBJECTS count) (Create false domain shape) ≡ None
    → (next == 2 ^ 64 - 1) ≡ false
number_left next count domain shape h =
    last_refused (next == 2 ^ 64 - 1) count (create-accepted (cond (next == 2 ^ 64 - 1) MOST_OBJECTS count) domain shape h)

-- an object can be freed unless it isn't there
pub free-absent : (count : ℕ) (o : Option Object) (s : Status)
    → early_fault count (On (option_map signature_of o) Free) ≡ Some s → o ≡ None
unfolding early_fault
free-absent count None s h = refl
free-absent count (Some o) s h = absurd (cc)

pub some-there : (o : Option Object) → is_some o ≡ true → o ≡ Some (unwrap_or o no_object)
some-there None h = absurd (cc)
some-there (Some o) h = refl
