-- What stores that take the roles of an operation stand for.
use Rattle.std.proofs.Common.{◌≡◌, ◌∙◌, ◌<◌, ◌≤◌, ℕ, Bool, Bor, true, false, if◌then◌else◌, ltb, [], ◌∷◌, MatchOption, Option, Some, None, refl, sym, subst, inl, inr, arith}
use Rattle.std.specs.List.{All}
use Rattle.std.specs.Option.{option_map, unwrap_or}
use Rattle.std.proofs.lemmas.Bool.{cases_Bool, ltb-true}
use Rattle.std.proofs.lemmas.List.Elements.{All-cons, All-nil}
use Rattle.calls.specs.declared.role.Role.{Role}
use Rattle.calls.specs.declared.role.Role.TheVariants.{Old, Mask, First, Second}
use Rattle.calls.specs.declared.role.Roles.{Roles}
use Rattle.calls.specs.Recipes.{known_by_role, meaning, operation_with, out_with}
use Rattle.calls.specs.Stores.{IsStoreOf, object_with}
use Rattle.kernel.specs.Takes.{AreInputs, Takes, lent_in, map_in, maps_in}
use Rattle.model.specs.declared.call.Operation.{Operation}
use Rattle.model.specs.declared.call.Operation.TheVariants.{Fill, OfOne, OfTwo}
use Rattle.model.specs.declared.call.Out.{Out}
use Rattle.model.specs.declared.shape.Signature.{Signature}
use Rattle.model.specs.Fault.{operation_fault}
use Rattle.model.specs.Object.{Content, IsObject, IsWithin, cols_of, no_content, rows_of, signature_of}
use Rattle.model.specs.Renamed.{inputs_of, out_over, renamed_operation, renamed_out}
use Rattle.model.specs.WriteBack.{reads_old}
use Rattle.model.proofs.ObjectLaws.{empty-is_object, objects_equal}
use Rattle.model.proofs.ResultLaws.{result-is_object}
use Rattle.store.specs.Stored.{Block, Stored, block_content, content_of}

-- ---- what stores stand for

-- the store of a role that is read is there
pub takes-object : (known : Signature) (stored : Option Stored) → Takes (Some known) stored
    → IsObject (object_with known (map_in stored))
takes-object known (Some stored) takes = takes.is_object
takes-object known None takes = absurd (takes)

-- maps take roles: that of a role that is read is an object's, and any other is empty
abbrev pub AreObjects : (Role → Option Signature) → (Role → Content) → Type 0
AreObjects known maps = (role : Role) → MatchOption (known role) (maps role ≡ no_content)
    (λ signature. IsObject (object_with signature (maps role)))

pub map-taken : (known : Option Signature) (stored : Option Stored) → Takes known stored
    → MatchOption known (map_in stored ≡ no_content) (λ signature. IsObject (object_with signature (map_in stored)))
map-taken (Some known) stored takes = takes-object known stored takes
map-taken None None takes = refl
map-taken None (Some stored) takes = absurd (takes)

-- the maps of stores that take them do
pub objects-taken : (known : Role → Option Signature) (stores : Roles (Bor Stored)) → AreInputs known stores
    → AreObjects known (maps_in stores)
objects-taken known stores are role = map-taken (known role) (lent_in stores role) (are role)

-- ..and an empty store is as good as that which isn't read
old_store : (read : Bool) (c : Signature) (old : Option (Bor Stored)) (unread : Bor Stored)
    → Takes (if read then Some c else None) (option_map (λ store. store.now) old)
    → unread.now.rows ≡ rows_of c.shape → unread.now.cols ≡ cols_of c.shape
    → ((i j : ℕ) → content_of unread.now i j ≡ None) → IsStoreOf c (unwrap_or old unread).now
old_store true c (Some store) unread takes rows cols empty = takes
old_store true c None unread takes rows cols empty = absurd (takes)
old_store false c (Some store) unread takes rows cols empty = absurd (takes)
old_store false c None unread takes rows cols empty = record {
  rows = rows;
  cols = cols;
  is_object = subst IsObject (objects_equal (object_with c no_content) (object_with c (content_of unread.now)) refl refl (λ i j. sym (empty i j))) (empty-is_object c.domain c.shape);
}

pub old-store : (out : Out Signature) (operation : Operation Signature) (stores : Roles (Bor Stored))
    (unread : Bor Stored) → AreInputs (known_by_role out operation) stores
    → unread.now.rows ≡ rows_of out.c.shape → unread.now.cols ≡ cols_of out.c.shape
    → ((i j : ℕ) → content_of unread.now i j ≡ None) → IsStoreOf out.c (unwrap_or stores.old unread).now
old-store out operation stores unread are rows cols empty =
    old_store (reads_old out operation) out.c stores.old unread (are Old) rows cols empty

-- ---- what is left is an object

known_mask : (mask : Option Signature) (map : Content)
    → option_map signature_of (option_map (λ known. object_with known map) mask) ≡ mask
known_mask None map = refl
known_mask (Some known) map = refl

known_out : (out : Out Signature) (maps : Role → Content) → renamed_out signature_of (out_with out maps) ≡ out
known_out out maps = λ t. out_over out out.c (known_mask out.mask (maps Mask) t)

known_operation : (operation : Operation Signature) (maps : Role → Content)
    → renamed_operation signature_of (operation_with operation maps) ≡ operation
known_operation (Fill value region) maps = refl
known_operation (OfOne computes a) maps = refl
known_operation (OfTwo computes a b) maps = refl

-- what the output has, where that isn't read, is as good as nothing
old_is_object : (read : Bool) (c : Signature) (map : Content)
    → MatchOption (if read then Some c else None) (map ≡ no_content) (λ signature. IsObject (object_with signature map))
    → IsObject (object_with c map)
old_is_object true c map is = is
old_is_object false c map empty =
    subst (λ (map : Content). IsObject (object_with c map)) (sym empty) (empty-is_object c.domain c.shape)

inputs_are : (out : Out Signature) (operation : Operation Signature) (maps : Role → Content)
    → AreObjects (known_by_role out operation) maps → All IsObject (inputs_of (operation_with operation maps))
inputs_are out (Fill value region) maps are = All-nil IsObject
inputs_are out (OfOne computes a) maps are = All-cons IsObject _ [] (are First) (All-nil IsObject)
inputs_are out (OfTwo computes a b) maps are =
    All-cons IsObject _ (object_with b (maps Second) ∷ []) (are First) (All-cons IsObject _ [] (are Second) (All-nil IsObject))

pub meaning-is_object : (out : Out Signature) (operation : Operation Signature) (maps : Role → Content)
    → operation_fault out operation ≡ None → AreObjects (known_by_role out operation) maps
    → IsObject (object_with out.c (meaning out operation maps))
meaning-is_object out operation maps accepted are =
    let passes : operation_fault (renamed_out signature_of (out_with out maps)) (renamed_operation signature_of (operation_with operation maps)) ≡ None =
    (λ t. operation_fault (known_out out maps t) (known_operation operation maps t)) ∙ accepted in
    result-is_object (out_with out maps) (operation_with operation maps) passes
    (old_is_object (reads_old out operation) out.c (maps Old) (are Old)) (inputs_are out operation maps are)

-- a store of all rows has nothing outside them, and nor has what is meant
pub whole-store : (known : Signature) (map : Content) (block : Block) (store : Stored)
    → IsObject (object_with known map) → store.rows ≡ rows_of known.shape
    → IsWithin store.rows store.cols (content_of store)
    → ((i j : ℕ) → content_of store i j ≡ block_content block i j)
    → ((i j : ℕ) → 0 ≤ i → i < rows_of known.shape → block_content block i j ≡ map i j)
    → (i j : ℕ) → content_of store i j ≡ map i j
whole-store known map block store object is within same words i j =
    let rows = rows_of known.shape in
    elim (cases_Bool (ltb i rows)) [
      | inl inside ↦ same i j ∙ words i j (omega arith) (ltb-true i rows inside)
      | inr outside ↦
          let nothing : map i j ≡ None = object.within i j (rw outside refl) in
          within i j (rw (is, outside) refl) ∙ sym nothing
    ]

-- an object with a map that is the same
pub same-object : (known : Signature) (map other : Content) → ((i j : ℕ) → other i j ≡ map i j)
    → IsObject (object_with known map) → IsObject (object_with known other)
same-object known map other same is =
    subst IsObject (objects_equal (object_with known map) (object_with known other) refl refl (λ i j. sym (same i j))) is
