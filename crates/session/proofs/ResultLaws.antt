-- Stores and tickets of the objects of a session.
use Rattle.std.proofs.Common.{◌≡◌, ◌∙◌, ◌||◌, ◌&&◌, ◌<◌, ◌==◌, ℕ, Bool, Bor, arith, length, true, false, not, List, Option, Some, None, is_some, refl, sym, ap, subst}
use Rattle.std.specs.List.{All, fold}
use Rattle.std.specs.Option.{option_and_then, option_map, option_map_or, unwrap_or}
use Rattle.std.proofs.lemmas.Bool.{ne_eqb}
use Rattle.algebra.specs.declared.domain.Domain.{Domain}
use Rattle.algebra.specs.declared.operator_names.MonoidName.{MonoidName}
use Rattle.algebra.specs.declared.operator_names.OpName.{OpName}
use Rattle.algebra.specs.Monoids.{identity_of}
use Rattle.algebra.specs.Operators.{combines_by, eval_of, offers}
use Rattle.algebra.specs.Value.{IsWordOf, are_compatible, is_built_in}
use Rattle.calls.specs.declared.obj.Obj.{Obj}
use Rattle.calls.specs.declared.recipe.Accepted.{Accepted}
use Rattle.calls.specs.declared.recipe.Recipe.{Recipe}
use Rattle.calls.specs.declared.role.Role.{Role}
use Rattle.calls.specs.declared.role.Role.TheVariants.{Old, Mask, First, Second}
use Rattle.calls.specs.declared.role.Roles.{Roles}
use Rattle.calls.specs.Recipes.{IsAcceptedOf, inputs_of, maps_of, meaning}
use Rattle.calls.specs.Roles.{no_roles, role_of, roles_of}
use Rattle.calls.specs.Stores.{IsStoreOf as IsStoreIn, object_with}
use Rattle.calls.proofs.RoleLaws.{meaning-accepted, output-accepted}
use Rattle.model.specs.declared.call.Act.TheVariants.{Build}
use Rattle.model.specs.declared.call.Operation.{Operation}
use Rattle.model.specs.declared.call.Out.{Out}
use Rattle.model.specs.declared.shape.Shape.{Shape}
use Rattle.model.specs.declared.shape.Shape.TheVariants.{Two}
use Rattle.model.specs.declared.shape.Signature.{Signature}
use Rattle.model.specs.declared.status.Status.TheVariants.{OutputNotEmpty}
use Rattle.model.specs.declared.tuples.Tuple.{Tuple}
use Rattle.model.specs.Builds.{built, gathered}
use Rattle.model.specs.Entries.{IsInside, entries_of}
use Rattle.model.specs.Fault.{has_entries, late_fault}
use Rattle.model.specs.Marks.{State}
use Rattle.model.specs.MatrixMarket.{Matrix, object_read, sum_in_file}
use Rattle.model.specs.Object.{IsObject, Object, cols_of, no_content, rows_of, signature_of}
use Rattle.model.specs.Reductions.{all_words, sum_in}
use Rattle.model.specs.Regions.{cut_to}
use Rattle.model.specs.Renamed.{renamed_operation, renamed_out}
use Rattle.model.specs.Run.{Environment, no_object, object_at, resized}
use Rattle.model.specs.WriteBack.{result_of}
use Rattle.model.proofs.BuildLaws.{built-is_object}
use Rattle.model.proofs.MarketLaws.{object_read-is_object}
use Rattle.model.proofs.ObjectLaws.{objects_equal}
use Rattle.model.proofs.RenamedLaws.{Agrees, some_out}
use Rattle.model.proofs.StoredLaws.{sum_in-stored}
use Rattle.runner.specs.Tickets.{AreInputs, Fit, known_by_ticket, lent_in, map_by_ticket, maps_by}
use Rattle.session.specs.Deferred.{AreThere, any_told, is_role_told, maps_at}
use Rattle.session.specs.Lending.{IsStoreOf}
use Rattle.session.proofs.AcceptedLaws.{BuildsOn}
use Rattle.store.specs.Stored.{Stored, content_of}

-- ---- roles

pub each-role : (P : Role → Type 0) → P Old → P Mask → P First → P Second → (role : Role) → P role
each-role P old mask first second Old = old
each-role P old mask first second Mask = mask
each-role P old mask first second First = first
each-role P old mask first second Second = second

pub not-any : (a b c d : Bool) → (not a && not b && not c && not d) ≡ not (a || b || c || d)
not-any true b c d = refl
not-any false true c d = refl
not-any false false true d = refl
not-any false false false true = refl
not-any false false false false = refl

-- tickets were given to the objects of four roles
pub all-given : (s a b c : State Obj) (objects : Roles Obj) (old mask first second : Bool) → a ≡ s → b ≡ s → c ≡ s
    → old ≡ not (is_role_told s objects.old) → mask ≡ not (is_role_told a objects.mask)
    → first ≡ not (is_role_told b objects.first) → second ≡ not (is_role_told c objects.second)
    → (old && mask && first && second) ≡ not (any_told s objects)
all-given s a b c objects old mask first second same_a same_b same_c for_old for_mask for_first for_second =
    (λ t. for_old t && (for_mask ∙ ap (λ (s : State Obj). not (is_role_told s objects.mask)) same_a) t
    && (for_first ∙ ap (λ (s : State Obj). not (is_role_told s objects.first)) same_b) t
    && (for_second ∙ ap (λ (s : State Obj). not (is_role_told s objects.second)) same_c) t)
    ∙ not-any (is_role_told s objects.old) (is_role_told s objects.mask) (is_role_told s objects.first) (is_role_told s objects.second)

-- ---- tickets

-- what has a ticket wasn't told to have failed
pub untold-given : (is_told given : Bool) → given ≡ true → given ≡ not is_told → is_told ≡ false
untold-given true given was same = absurd (cc)
untold-given false given was same = refl

pub told-given : (is_told given : Bool) → given ≡ false → given ≡ not is_told → is_told ≡ true
told-given true given was same = refl
told-given false given was same = absurd (cc)

-- a ticket of the old content fits a recipe that reads it alone
pub fits-old : {T : Type 0} (object_of : T → Object) (ticket : Bor T) (of : Signature) (recipe : Recipe)
    → inputs_of recipe ≡ record no_roles { old = Some of } → signature_of (object_of ticket.now) ≡ of
    → Fit object_of recipe (record no_roles { old = Some ticket })
fits-old object_of ticket of recipe is known role =
    fits role ∙ ap (λ (roles : Roles Signature). role_of roles role) (sym is)
  where
    fits : (role : Role) → known_by_ticket object_of (lent_in (record no_roles { old = Some ticket }) role) ≡ role_of (record no_roles { old = Some of }) role
    fits Old = ap Some known
    fits Mask = refl
    fits First = refl
    fits Second = refl

-- what the recipe of another shape makes
pub resized-by : {T : Type 0} (object_of : T → Object) (ticket : Bor T) (o : Object) (of : Signature) (shape : Shape)
    → object_of ticket.now ≡ o → of ≡ signature_of o
    → object_with (record of { shape = shape }) (cut_to (rows_of shape) (cols_of shape) (object_of ticket.now).content) ≡ resized o shape
resized-by object_of ticket o of shape is known = λ t.
    let now : Object = is t in object_with (record (known t) { shape = shape }) (cut_to (rows_of shape) (cols_of shape) now.content)

-- ---- operations

signature_known : (o : Option Object) (s : Signature) → option_map signature_of o ≡ Some s
    → signature_of (unwrap_or o no_object) ≡ s
signature_known None s is = absurd (cc)
signature_known (Some o) s is = cc

pub known-there : (o : Option Object) (s : Signature) → option_map signature_of o ≡ Some s → is_some o ≡ true
known-there None s is = absurd (cc)
known-there (Some o) s is = refl

module _ (env : Environment Obj) where
  abbrev pub known : Obj → Option Signature
  known object = option_map signature_of (env.find_object object)

  -- what is known of an object is its own
  known_own : Agrees known (λ object. signature_of (object_at env object))
  known_own object s is = sym (signature_known (env.find_object object) s is)

  -- the object of a role of which something is known is there
  pub there-known : (s : Option Signature) (object : Option Obj) → option_map Some s ≡ option_map known object
      → AreThere env object
  there-known None (Some object) is = absurd (cc)
  there-known s None is = tt
  there-known (Some s) (Some object) is =
      let same : known object ≡ Some s = cc in known-there (env.find_object object) s same

  -- ..and its ticket takes the role
  known_lent : {T : Type 0} (object_of : T → Object) (s : Option Signature) (object : Option Obj) (ticket : Option T)
      → option_map Some s ≡ option_map known object → option_map object_of ticket ≡ option_map (object_at env) object
      → known_by_ticket object_of ticket ≡ s
  known_lent object_of None None None is lent = refl
  known_lent object_of None None (Some t) is lent = absurd (cc)
  known_lent object_of (Some s) (Some object) (Some t) is lent =
      let found : known object ≡ Some s = cc in
      let own : object_of t ≡ object_at env object = cc in
      ap Some (ap signature_of own ∙ signature_known (env.find_object object) s found)
  known_lent object_of (Some s) (Some object) None is lent = absurd (cc)
  known_lent object_of None (Some object) ticket is lent = absurd (cc)
  known_lent object_of (Some s) None ticket is lent = absurd (cc)

  pub inputs-lent : {T : Type 0} (object_of : T → Object) (known_of : Role → Option Signature) (objects : Roles Obj)
      (tickets : Roles (Bor T)) → ((role : Role) → option_map Some (known_of role) ≡ option_map known (role_of objects role))
      → ((role : Role) → option_map object_of (lent_in tickets role) ≡ option_map (object_at env) (role_of objects role))
      → AreInputs object_of known_of tickets
  inputs-lent object_of known_of objects tickets is lent role =
      known_lent object_of (known_of role) (role_of objects role) (lent_in tickets role) (is role) (lent role)

  map_lent : {T : Type 0} (object_of : T → Object) (object : Option Obj) (ticket : Option T)
      → option_map object_of ticket ≡ option_map (object_at env) object
      → map_by_ticket object_of ticket ≡ option_map_or (λ object. (object_at env object).content) object no_content
  map_lent object_of None None lent = refl
  map_lent object_of None (Some t) lent = absurd (cc)
  map_lent object_of (Some object) None lent = absurd (cc)
  map_lent object_of (Some object) (Some t) lent =
      let own : object_of t ≡ object_at env object = cc in ap (λ (o : Object). o.content) own

  -- the maps of the tickets' objects are those of the objects
  pub maps-lent : {T : Type 0} (object_of : T → Object) (objects : Roles Obj) (tickets : Roles (Bor T))
      → ((role : Role) → option_map object_of (lent_in tickets role) ≡ option_map (object_at env) (role_of objects role))
      → maps_by object_of tickets ≡ maps_at env objects
  maps-lent object_of objects tickets lent = λ t role. map_lent object_of (role_of objects role) (lent_in tickets role) (lent role) t

  module _ (out : Out Obj) (operation : Operation Obj) (accepted : Accepted) (is : IsAcceptedOf known out operation accepted) where
    -- the output is there
    pub output-there : is_some (env.find_object out.c) ≡ true
    output-there =
        let first = some_out (renamed_out known out) accepted.out (sym is.out_is) in
        known-there (env.find_object out.c) accepted.out.c (sym (ap (λ (o : Out (Option Signature)). o.c) first))

    -- what an accepted operation means is what it leaves in its output
    pub left-computed : object_with accepted.out.c (meaning accepted.out accepted.operation (maps_at env (roles_of out operation)))
        ≡ record (object_at env out.c) { content = result_of (renamed_out (object_at env) out) (renamed_operation (object_at env) operation) }
    left-computed =
        let c = output-accepted known out operation accepted is (object_at env) known_own in
        let content : (i j : ℕ) → meaning accepted.out accepted.operation (maps_of (object_at env) out operation) i j
        ≡ result_of (renamed_out (object_at env) out) (renamed_operation (object_at env) operation) i j =
        meaning-accepted known out operation accepted is (object_at env) known_own in
        λ t. object_with (c t) (λ i j. content i j t)

-- ---- stores

-- the entries of an object's store are its own
pub stored-entries : (o : Object) (store : Stored) → o ≡ object_with (signature_of o) (content_of store)
    → IsStoreIn (signature_of o) store
    → entries_of store.rows store.cols (content_of store) ≡ entries_of (rows_of o.shape) (cols_of o.shape) o.content
stored-entries o store is fits = λ t. let now : Object = sym is t in entries_of (fits.rows t) (fits.cols t) now.content

-- the sum of an object's values is that of its store's words
pub sum-stored : (monoid : MonoidName) (o : Object) (store : Stored)
    → offers (combines_by monoid.kind) monoid.domain ≡ true → are_compatible o.domain monoid.domain ≡ true
    → o ≡ object_with (signature_of o) (content_of store) → IsStoreIn (signature_of o) store
    → fold (eval_of (combines_by monoid.kind) monoid.domain) (identity_of monoid.kind monoid.domain)
    (all_words store.rows store.cols (content_of store)) ≡ sum_in monoid o
sum-stored monoid o store offered compatible is fits =
    (λ t. let now : Object = sym is t in
    fold (eval_of (combines_by monoid.kind) monoid.domain) (identity_of monoid.kind monoid.domain) (all_words (fits.rows t) (fits.cols t) now.content))
    ∙ sym (sum_in-stored monoid o offered compatible (subst IsObject (sym is) fits.is_object).words)

-- a store that is lent is that of the object that was there before
pub store-found : (env : Environment Obj) (object : Obj) (now : Object) (store : Stored) → now ≡ object_at env object
    → now ≡ object_with (signature_of now) (content_of store) → IsStoreIn (signature_of now) store → IsStoreOf env object store
store-found env object now store kept is fits = record {
  rows = fits.rows ∙ ap (λ (o : Object). rows_of o.shape) kept;
  cols = fits.cols ∙ ap (λ (o : Object). cols_of o.shape) kept;
  content = λ i j. ap (λ (o : Object). o.content i j) (sym kept ∙ is);
  is_object = subst IsObject kept (subst IsObject (sym is) fits.is_object);
}

-- what is built of accepted tuples is an object
pub built-is_store : (o : Object) (dup : Option OpName) (tuples : List Tuple) (store : Stored) → BuildsOn o dup tuples
    → store.rows ≡ rows_of o.shape → store.cols ≡ cols_of o.shape
    → ((i j : ℕ) → content_of store i j ≡ built dup o.domain tuples i j)
    → IsStoreIn (signature_of o) store
built-is_store o dup tuples store builds rows cols is =
    let after : Object = object_with (signature_of o) (content_of store) in
    let made : Object = record o { content = built dup o.domain tuples } in
    let same : after ≡ made = objects_equal after made refl refl is in
    record { rows = rows; cols = cols; is_object = rw same (built-is_object o dup tuples builds.joins builds.inside) }

-- a store that is read from a file is that of an object
pub read-is_store : (domain : Domain) (m : Matrix) (store : Stored) → is_built_in domain ≡ true
    → IsInside m.rows m.cols m.entries → All (λ e. IsWordOf domain e.word) m.entries
    → store.rows ≡ m.rows → store.cols ≡ m.cols
    → ((i j : ℕ) → content_of store i j ≡ gathered (Some (sum_in_file domain)) m.entries i j)
    → (let of : Signature = record { domain = domain; shape = Two m.rows m.cols } in
    IsStoreIn of store × (object_with of (content_of store) ≡ object_read domain m))
read-is_store domain m store built_in inside words rows cols is =
    let of : Signature = record { domain = domain; shape = Two m.rows m.cols } in
    let same : object_with of (content_of store) ≡ object_read domain m = objects_equal (object_with of (content_of store)) (object_read domain m) refl refl is in
    (record { rows = rows; cols = cols; is_object = rw same (object_read-is_object domain m built_in inside words) }, same)

-- an object whose store has no entry has none, and one whose store has some has some
pub no-entries : (o : Object) (store : Stored) (n : ℕ) → n ≡ length (entries_of store.rows store.cols (content_of store)) → n ≡ 0
    → o ≡ object_with (signature_of o) (content_of store) → IsStoreIn (signature_of o) store → has_entries o ≡ false
no-entries o store n is zero own fits =
    let same = is ∙ ap length (stored-entries o store own fits) in rw (← same, zero) refl

positive : (n : ℕ) → 0 < n → not (n == 0) ≡ true
positive n more = rw (ne_eqb n 0 (λ e. let none : n ≡ 0 = e in absurd (omega arith))) refl

pub some-entries : (o : Object) (store : Stored) (n : ℕ) → n ≡ length (entries_of store.rows store.cols (content_of store)) → 0 < n
    → o ≡ object_with (signature_of o) (content_of store) → IsStoreIn (signature_of o) store → has_entries o ≡ true
some-entries o store n is more own fits =
    let same = is ∙ ap length (stored-entries o store own fits) in rw (← same) (positive n more)

pub late-build : (found : Option Object) (o : Object) (dup : Option OpName) (tuples : List Tuple) → found ≡ Some o
    → has_entries o ≡ false → option_and_then (λ x. late_fault x (Build dup tuples)) found ≡ None
late-build found o dup tuples there empty = rw (there, empty) refl

pub late-full : (found : Option Object) (o : Object) (dup : Option OpName) (tuples : List Tuple) → found ≡ Some o
    → has_entries o ≡ true → option_and_then (λ x. late_fault x (Build dup tuples)) found ≡ Some OutputNotEmpty
late-full found o dup tuples there full = rw (there, full) refl
