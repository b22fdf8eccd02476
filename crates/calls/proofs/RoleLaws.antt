-- What an accepted operation means of its objects' maps is what the operation leaves.
use Rattle.std.proofs.Common.{◌≡◌, ◌∙◌, ◌||◌, ℕ, Bool, true, false, if◌then◌else◌, is_some, Option, Some, None, refl, sym, ap, inl, inr}
use Rattle.std.specs.Option.{option_map, option_map_or}
use Rattle.std.proofs.lemmas.Bool.{cases_Bool}
use Rattle.calls.specs.declared.role.Role.{Role}
use Rattle.calls.specs.declared.role.Role.TheVariants.{Old, Mask, First, Second}
use Rattle.calls.specs.declared.recipe.Accepted.{Accepted}
use Rattle.calls.specs.Recipes.{IsAcceptedOf, known_by_role, maps_of, meaning, operation_with, out_with}
use Rattle.calls.specs.Stores.{object_with}
use Rattle.calls.specs.Roles.{role_of, roles_of}
use Rattle.model.specs.declared.call.Operation.{Operation}
use Rattle.model.specs.declared.call.Operation.TheVariants.{Fill, OfOne, OfTwo}
use Rattle.model.specs.declared.call.Out.{Out}
use Rattle.model.specs.declared.shape.Signature.{Signature}
use Rattle.model.specs.Object.{Content, Object, no_content, signature_of}
use Rattle.model.specs.Renamed.{out_over, renamed_operation, renamed_out}
use Rattle.model.specs.WriteBack.{reads_old, result_of}
use Rattle.model.proofs.OldLaws.{old-unread, region-renamed, with_old}
use Rattle.model.proofs.RenamedLaws.{Agrees, operation_at, out_at, some_operation, some_out}

-- ---- what is read doesn't depend on how objects are named

some_renamed : {K L : Type 0} (f : K → L) (mask : Option K) → is_some (option_map f mask) ≡ is_some mask
some_renamed f None = refl
some_renamed f (Some mask) = refl

pub reads-renamed : {K L : Type 0} (f : K → L) (out : Out K) (operation : Operation K)
    → reads_old (renamed_out f out) (renamed_operation f operation) ≡ reads_old out operation
reads-renamed f out operation = λ t.
    some_renamed f out.mask t || out.desc.complement || is_some out.accum || is_some (region-renamed f operation t)

some_if : {K L : Type 0} (f : K → L) (test : Bool) (k : K)
    → (if test then Some (f k) else None) ≡ option_map f (if test then Some k else None)
some_if f true k = refl
some_if f false k = refl

-- the objects that have roles, along a way from one kind of name to another
pub role-renamed : {K L : Type 0} (f : K → L) (out : Out K) (operation : Operation K) (role : Role)
    → role_of (roles_of (renamed_out f out) (renamed_operation f operation)) role
    ≡ option_map f (role_of (roles_of out operation) role)
role-renamed f out operation Old =
    ap (λ (test : Bool). if test then Some (f out.c) else None) (reads-renamed f out operation)
    ∙ some_if f (reads_old out operation) out.c
role-renamed f out operation Mask = refl
role-renamed f out (Fill value region) First = refl
role-renamed f out (OfOne computes a) First = refl
role-renamed f out (OfTwo computes a b) First = refl
role-renamed f out (Fill value region) Second = refl
role-renamed f out (OfOne computes a) Second = refl
role-renamed f out (OfTwo computes a b) Second = refl

-- ---- what is left

module _ {K : Type 0} (object : K → Object) where
  operation_own : (out : Out K) (operation : Operation K)
      → operation_with (renamed_operation (λ k. signature_of (object k)) operation) (maps_of object out operation)
      ≡ renamed_operation object operation
  operation_own out (Fill value region) = refl
  operation_own out (OfOne computes a) = refl
  operation_own out (OfTwo computes a b) = refl

  mask_own : (mask : Option K)
      → option_map (λ known. object_with known (option_map_or (λ k. (object k).content) mask no_content))
      (option_map (λ k. signature_of (object k)) mask) ≡ option_map object mask
  mask_own None = refl
  mask_own (Some mask) = refl

  -- the output, with what it has where that is read
  out_own : (out : Out K) (operation : Operation K) (old : Content) → maps_of object out operation Old ≡ old
      → out_with (renamed_out (λ k. signature_of (object k)) out) (maps_of object out operation)
      ≡ with_old (renamed_out object out) old
  out_own out operation old is = λ t.
      out_over (renamed_out object out) (object_with (signature_of (object out.c)) (is t)) (mask_own out.mask t)

  -- maps of objects that are all there
  pub meaning-own : (out : Out K) (operation : Operation K) (i j : ℕ)
      → meaning (renamed_out (λ k. signature_of (object k)) out)
      (renamed_operation (λ k. signature_of (object k)) operation) (maps_of object out operation) i j
      ≡ result_of (renamed_out object out) (renamed_operation object operation) i j
  meaning-own out operation i j =
      let left : (old : Content) → maps_of object out operation Old ≡ old
      → meaning (renamed_out (λ k. signature_of (object k)) out) (renamed_operation (λ k. signature_of (object k)) operation)
      (maps_of object out operation) i j
      ≡ result_of (with_old (renamed_out object out) old) (renamed_operation object operation) i j =
      λ old is t. result_of (out_own out operation old is t) (operation_own out operation t) i j in
      elim (cases_Bool (reads_old out operation)) [
        | inl read ↦ left (object out.c).content (rw read refl)
        | inr unread ↦ left no_content (rw unread refl)
            ∙ old-unread (renamed_out object out) (renamed_operation object operation) no_content (reads-renamed object out operation ∙ unread) i j
      ]

-- ---- accepted operations

module _ {K : Type 0} (known : K → Option Signature) (out : Out K) (operation : Operation K) (accepted : Accepted)
    (is : IsAcceptedOf known out operation accepted) where
  -- what is known of the object of a role is what an accepted operation says of the role
  pub roles-known : (role : Role) → option_map Some (known_by_role accepted.out accepted.operation role)
      ≡ option_map known (role_of (roles_of out operation) role)
  roles-known role =
      let first = some_out (renamed_out known out) accepted.out (sym is.out_is) in
      let second = some_operation (renamed_operation known operation) accepted.operation (sym is.operation_is) in
      sym (role-renamed Some accepted.out accepted.operation role)
      ∙ (λ t. role_of (roles_of (first t) (second t)) role)
      ∙ role-renamed known out operation role

  -- what it means of the maps of its objects is what the operation leaves
  pub meaning-accepted : (object : K → Object) → Agrees known (λ k. signature_of (object k)) → (i j : ℕ)
      → meaning accepted.out accepted.operation (maps_of object out operation) i j
      ≡ result_of (renamed_out object out) (renamed_operation object operation) i j
  meaning-accepted object agrees i j =
      let at : K → Signature = λ k. signature_of (object k) in
      let first = out_at known at agrees out accepted.out is.out_is in
      let second = operation_at known at agrees operation accepted.operation is.operation_is in
      (λ t. meaning (first t) (second t) (maps_of object out operation) i j) ∙ meaning-own object out operation i j

  pub output-accepted : (object : K → Object) → Agrees known (λ k. signature_of (object k))
      → accepted.out.c ≡ signature_of (object out.c)
  output-accepted object agrees =
      ap (λ (o : Out Signature). o.c) (out_at known (λ k. signature_of (object k)) agrees out accepted.out is.out_is)
