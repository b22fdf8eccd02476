-- What takes the roles of a task that is taken, and what the task makes of it.
use Rattle.std.proofs.lemmas.Bool.{and_from, eq-eqb}
use Rattle.std.proofs.Common.{◌≡◌, ◌∙◌, ◌&&◌, ℕ, Bor, true, arith, eqb, List, Option, Some, None, slice_get, refl, sym, ap, subst}
use Rattle.std.specs.Arc.{arc_value}
use Rattle.std.specs.Option.{option_and_then, option_map, option_map_or}
use Rattle.calls.specs.declared.recipe.Recipe.{Recipe}
use Rattle.calls.specs.declared.role.Role.{Role}
use Rattle.calls.specs.declared.role.Role.TheVariants.{Old, Mask, First, Second}
use Rattle.calls.specs.declared.role.Roles.{Roles}
use Rattle.calls.specs.Recipes.{known_by, known_of, meaning_of}
use Rattle.calls.specs.Roles.{role_of}
use Rattle.calls.specs.Stores.{IsStoreOf, object_with}
use Rattle.model.specs.declared.shape.Signature.{Signature}
use Rattle.model.specs.Object.{Content, IsObject, Object, cols_of, no_content, rows_of}
use Rattle.store.specs.Stored.{Stored, content_of}
use Rattle.runner.specs.Tickets.{IsStoreFor}
use Rattle.kernel.specs.Takes.{AreInputs, Takes, lent_in, map_in}
use Rattle.board.specs.Pieces.{IsPieceFor, maps_in, recipe_of}
use Rattle.stages.specs.Places.{each}
use Rattle.stages.specs.Sharing.{stored_at}
use Rattle.board.specs.Sound.{IsSound}
use Rattle.stages.specs.Stages.{has_store, stored_in}
use Rattle.board.specs.Stores.{stored_for}
use Rattle.board.specs.declared.piece.Piece.{Piece}
use Rattle.board.specs.declared.piece.Stores.{Stores}
use Rattle.board.specs.declared.piece.TaskRecipe.{TaskRecipe}
use Rattle.stages.specs.Tasks.{Task, known_at, maps_of, object_at, object_in, objects}
use Rattle.stages.specs.declared.stage.Stage.{Stage}
use Rattle.stages.specs.declared.stage.Stage.TheVariants as stage
use Rattle.board.proofs.BoardLaws.{task_at}
use Rattle.kernel.proofs.PieceLaws.{recipe-is_object}
use Rattle.kernel.proofs.TakenLaws.{objects-taken}
use Rattle.board.proofs.ObjectLaws.{made_unfolds, object_at_made, object_unfolds}
use Rattle.stages.proofs.PlaceLaws.{each-at}

-- an object's store is one of its domain and shape
store_known : (o : Object) (known : Signature) (m : Content) (s : Stored) → o ≡ object_with known m → IsStoreFor o s → IsObject o
    → IsStoreOf known s
store_known o known m s e right is = record {
  rows = right.rows ∙ ap (λ (p : Object). rows_of p.shape) e;
  cols = right.cols ∙ ap (λ (p : Object). cols_of p.shape) e;
  is_object = subst IsObject (e ∙ same) is;
}
  where
    at : (i j : ℕ) → m i j ≡ content_of s i j
    at i j = sym (right.content i j ∙ ap (λ (p : Object). p.content i j) e)

    same : object_with known m ≡ object_with known (content_of s)
    same = λ t. object_with known (λ i j. at i j t)

lend : {A : Type 0} → Bor A → Option Stored → Option (Bor Stored)
lend b None = None
lend b (Some s) = Some (record { ref_ptr = b.ref_ptr; now = s })

lend_is : {A : Type 0} (b : Bor A) (o : Option Stored) → option_map (λ (r : Bor Stored). r.now) (lend b o) ≡ o
unfolding lend
lend_is b None = refl
lend_is b (Some s) = refl

module _ (ts : List Task) (stages : List Stage) (holds reads : List ℕ) (readers : List (List ℕ)) (ready : List ℕ) (room : ℕ)
    (sound : IsSound ts stages holds reads readers ready room) (k : ℕ) (t : Task) (is : slice_get ts k ≡ Some t)
    (there : each (λ i. has_store (slice_get stages i)) t.inputs ≡ true)
    (st : Role → Option Stored) (had : (role : Role) → st role ≡ stored_at stages (role_of t.inputs role)) where
  done_at : (i : ℕ) (o : Option Stage) → slice_get stages i ≡ o → has_store o ≡ true
      → (s : Stored) × (stored_at stages (Some i) ≡ Some s) × IsStoreFor (object_at ts i) s × IsObject (object_at ts i) × ((u : Task) × (slice_get ts i ≡ Some u))
  done_at i None at h = absurd cc
  done_at i (Some (stage.Untaken r)) at h = absurd cc
  done_at i (Some stage.Running) at h = absurd cc
  done_at i (Some stage.Joining) at h = absurd cc
  done_at i (Some stage.Gone) at h = absurd cc
  done_at i (Some stage.Moved) at h = absurd cc
  done_at i (Some stage.Failed) at h = absurd cc
  done_at i (Some (stage.Done a)) at h = (
    arc_value a,
    ap (option_and_then stored_in) at,
    (sound.kept i (stage.Done a) at).right (arc_value a) refl,
    (sound.kept i (stage.Done a) at).object refl,
    task_at ts stages holds reads readers ready room sound i (stage.Done a) at,
  )

  pub right_for : (role : Role) (i : ℕ) (s : Stored) → role_of t.inputs role ≡ Some i → st role ≡ Some s → IsStoreFor (object_at ts i) s
  right_for role i s takes is_s =
      let d = done_at i (slice_get stages i) refl (each-at (λ i. has_store (slice_get stages i)) t.inputs there role i takes) in
      let e : Some (d.0) ≡ Some s = sym d.1 ∙ (ap (stored_at stages) (sym takes) ∙ (sym (had role) ∙ is_s)) in
      let f : d.0 ≡ s = cc (e) in
      subst (IsStoreFor (object_at ts i)) f d.2

  pub takes_for : (role : Role) → Takes (known_by t.recipe role) (st role)
  takes_for role = go (role_of t.inputs role) refl
    where
      go : (o : Option ℕ) → role_of t.inputs role ≡ o → Takes (known_by t.recipe role) (st role)
      go None takes =
          let known : known_by t.recipe role ≡ None = sym (sound.fits k t is role) ∙ ap (option_and_then (known_at ts)) takes in
          let stored : st role ≡ None = had role ∙ ap (stored_at stages) takes in
          subst (λ (a : Option Signature). Takes a (st role)) (sym known) (subst (λ (b : Option Stored). Takes None b) (sym stored) tt)
      go (Some i) takes =
          let d = done_at i (slice_get stages i) refl (each-at (λ i. has_store (slice_get stages i)) t.inputs there role i takes) in
          let u = d.4.0 in
          let known : known_by t.recipe role ≡ Some (known_of u.recipe) = sym (sound.fits k t is role) ∙ (ap (option_and_then (known_at ts)) takes ∙ ap (option_map (λ (w : Task). known_of w.recipe)) d.4.1) in
          let stored : st role ≡ Some d.0 = had role ∙ (ap (stored_at stages) takes ∙ d.1) in
          let object = object_at_made ts i u d.4.1 (sound.flows.lower i u d.4.1) in
          subst (λ (a : Option Signature). Takes a (st role)) (sym known) (subst (λ (b : Option Stored). Takes (Some (known_of u.recipe)) b) (sym stored)
          (store_known (object_at ts i) (known_of u.recipe) (meaning_of u.recipe (maps_of (objects ts) u.inputs)) d.0 (object ∙ made_unfolds (objects ts) u) d.2 d.3))

  pub makes_for : object_at ts k ≡ object_with (known_of t.recipe) (meaning_of t.recipe (λ role. map_in (st role)))
  makes_for = object_at_made ts k t is (sound.flows.lower k t is) ∙ (made_unfolds (objects ts) t ∙ ap (λ (m : Role → Content). object_with (known_of t.recipe) (meaning_of t.recipe m)) maps)
    where
      at : (role : Role) (o : Option ℕ) → role_of t.inputs role ≡ o → (i j : ℕ) → option_map_or (λ i. (object_in (objects ts) i).content) o no_content i j ≡ map_in (st role) i j
      at role None takes i j = ap (λ (o : Option Stored). map_in o i j) (sym (had role ∙ ap (stored_at stages) takes))
      at role (Some n) takes i j =
          let d = done_at n (slice_get stages n) refl (each-at (λ i. has_store (slice_get stages i)) t.inputs there role n takes) in
          let stored : st role ≡ Some d.0 = had role ∙ (ap (stored_at stages) takes ∙ d.1) in
          ap (λ (o : Object). o.content i j) (object_unfolds ts n) ∙ (sym (d.2.content i j) ∙ ap (λ (o : Option Stored). map_in o i j) (sym stored))

      maps : maps_of (objects ts) t.inputs ≡ (λ role. map_in (st role))
      maps = λ x role i j. at role (role_of t.inputs role) refl i j x

  -- what it makes is an object: a reference is had of anything
  pub object_for : {A : Type 0} → Bor A → IsObject (object_at ts k)
  object_for b =
      let are : AreInputs (known_by t.recipe) lent = λ role. subst (λ (o : Option Stored). Takes (known_by t.recipe role) o) (sym (lent_is role)) (takes_for role) in
      let is_object = recipe-is_object t.recipe (λ role. map_in (lent_in lent role)) (objects-taken (known_by t.recipe) lent are) in
      let maps : (λ role. map_in (lent_in lent role)) ≡ (λ role. map_in (st role)) = λ x role. map_in (lent_is role x) in
      subst IsObject (sym (makes_for ∙ ap (λ (m : Role → Content). object_with (known_of t.recipe) (meaning_of t.recipe m)) (sym maps))) is_object
    where
      lent : Roles (Bor Stored)
      lent = record { old = lend b (st Old); mask = lend b (st Mask); first = lend b (st First); second = lend b (st Second) }

      lent_is : (role : Role) → lent_in lent role ≡ st role
      lent_is Old = lend_is b (st Old)
      lent_is Mask = lend_is b (st Mask)
      lent_is First = lend_is b (st First)
      lent_is Second = lend_is b (st Second)

-- each store that is had is that of its slot
pub had_all : (stores : Stores) (stages : List Stage) (inputs : Roles ℕ) → option_map (λ s. arc_value s) stores.old ≡ stored_at stages inputs.old
    → option_map (λ s. arc_value s) stores.mask ≡ stored_at stages inputs.mask → option_map (λ s. arc_value s) stores.first ≡ stored_at stages inputs.first
    → option_map (λ s. arc_value s) stores.second ≡ stored_at stages inputs.second → (role : Role) → stored_for stores role ≡ stored_at stages (role_of inputs role)
had_all stores stages inputs old mask first second Old = old
had_all stores stages inputs old mask first second Mask = mask
had_all stores stages inputs old mask first second First = first
had_all stores stages inputs old mask first second Second = second

pub piece_for : {A : Type 0} (ts : List Task) (stages : List Stage) (holds reads : List ℕ) (readers : List (List ℕ)) (ready : List ℕ) (room : ℕ)
    (sound : IsSound ts stages holds reads readers ready room) (k : ℕ) (t : Task) (is : slice_get ts k ≡ Some t)
    (there : each (λ i. has_store (slice_get stages i)) t.inputs ≡ true)
    (p : Piece) (had : (role : Role) → stored_for p.inputs role ≡ stored_at stages (role_of t.inputs role)) → Bor A
    → p.number ≡ k → p.rows.start ≡ 0 → p.rows.end ≡ rows_of (known_of t.recipe).shape → t.recipe ≡ recipe_of p.recipe
    → IsPieceFor ts p
piece_for ts stages holds reads readers ready room sound k t is there p had b number start end recipe = record {
  needs = record {
    recipe_is = ap (λ n. option_map (λ (u : Task). u.recipe) (slice_get ts n)) number ∙ (ap (option_map (λ (u : Task). u.recipe)) is ∙ ap Some recipe);
    lower = λ u at. sound.flows.lower p.number u at;
    takes = λ role. subst (λ r. Takes (known_by r role) (stored_for p.inputs role)) recipe
        (takes_for ts stages holds reads readers ready room sound k t is there (stored_for p.inputs) had role);
    right = λ u role i s at takes has.
        let same : t ≡ u = let e : Some t ≡ Some u = sym is ∙ (ap (slice_get ts) (sym number) ∙ at) in cc (e) in
        right_for ts stages holds reads readers ready room sound k t is there (stored_for p.inputs) had role i s (ap (λ (w : Task). role_of w.inputs role) same ∙ takes) has;
    makes = ap (object_at ts) number ∙ (makes_for ts stages holds reads readers ready room sound k t is there (stored_for p.inputs) had
        ∙ ap (λ (r : Recipe). object_with (known_of r) (meaning_of r (maps_in p.inputs))) recipe);
    is_object = subst (λ n. IsObject (object_at ts n)) (sym number) (object_for ts stages holds reads readers ready room sound k t is there (stored_for p.inputs) had b);
  };
  rises = omega (arith, start);
  inside = let e = end ∙ ap (λ r. rows_of (known_of r).shape) recipe in omega (arith, e);
}

-- all rows are all of them
pub whole_is : (start end : ℕ) (t : Task) (r : TaskRecipe) → start ≡ 0 → end ≡ rows_of (known_of t.recipe).shape → t.recipe ≡ recipe_of r
    → (eqb start 0 && eqb end (rows_of (known_of (recipe_of r)).shape)) ≡ true
whole_is start end t r first last recipe =
    and_from (eqb start 0) (eqb end (rows_of (known_of (recipe_of r)).shape)) (eq-eqb start 0 first)
    (eq-eqb end (rows_of (known_of (recipe_of r)).shape) (last ∙ ap (λ r. rows_of (known_of r).shape) recipe))
