-- Operations that take over what their output had, of the stores of a piece.
use Rattle.std.proofs.Common.{◌≡◌, ◌∙◌, ℕ, Bor, Option, Some, subst, sym}
use Rattle.board.specs.Pieces.{maps_in as maps_had}
use Rattle.board.specs.Stores.{stored_for}
use Rattle.board.specs.declared.piece.Stores.{Stores}
use Rattle.calls.specs.declared.recipe.Computation.{Computation}
use Rattle.calls.specs.declared.recipe.Recipe.{Recipe}
use Rattle.calls.specs.declared.recipe.Recipe.TheVariants.{Computed}
use Rattle.calls.specs.declared.role.Role.{Role}
use Rattle.calls.specs.declared.role.Role.TheVariants.{Old, Mask, First, Second}
use Rattle.calls.specs.declared.role.Roles.{Roles}
use Rattle.calls.specs.Recipes.{meaning}
use Rattle.kernel.specs.Overs.{beside}
use Rattle.kernel.specs.Pieces.{IsResultOf}
use Rattle.kernel.specs.Takes.{Takes, lent_in, map_in}
use Rattle.model.specs.declared.shape.Signature.{Signature}
use Rattle.model.specs.Object.{Content, cols_of, rows_of}
use Rattle.store.specs.Stored.{Stored, content_of}

-- the old store that was taken out, and the others that are lent, are those that were there
module _ (old : Stored) (lent : Roles (Bor Stored)) (had : Stores) (taken : stored_for had Old ≡ Some old)
    (mask : lent_in lent Mask ≡ stored_for had Mask) (first : lent_in lent First ≡ stored_for had First)
    (second : lent_in lent Second ≡ stored_for had Second) where
  pub same-stores : (role : Role) → beside old lent role ≡ stored_for had role
  same-stores Old = sym taken
  same-stores Mask = mask
  same-stores First = first
  same-stores Second = second

  -- ..and fit as those did
  pub takes-stores : (known : Role → Option Signature) → ((role : Role) → Takes (known role) (stored_for had role))
      → (role : Role) → Takes (known role) (beside old lent role)
  takes-stores known takes role = subst (λ (s : Option Stored). Takes (known role) s) (sym (same-stores role)) (takes role)

  pub same-maps : (λ role. map_in (beside old lent role)) ≡ maps_had had
  same-maps = λ x role. map_in (same-stores role x)

-- a store that has what an operation leaves is what its recipe makes
pub over-result : (recipe : Recipe) (computation : Computation) → recipe ≡ Computed computation
    → (maps had : Role → Content) → maps ≡ had → (store : Stored)
    → store.rows ≡ rows_of computation.accepted.value.out.c.shape
    → store.cols ≡ cols_of computation.accepted.value.out.c.shape
    → ((i j : ℕ) → content_of store i j
    ≡ meaning computation.accepted.value.out computation.accepted.value.operation maps i j)
    → IsResultOf recipe had store
over-result recipe computation is maps had same store rows cols content =
    let accepted = computation.accepted.value in
    let here : IsResultOf (Computed computation) had store = record {
      rows = rows;
      cols = cols;
      content = λ i j. content i j ∙ (λ x. meaning accepted.out accepted.operation (same x) i j);
    } in
    subst (λ (r : Recipe). IsResultOf r had store) (sym is) here

-- stores that are lent, where the old one is as it was
pub lent-kept : (lent : Roles (Bor Stored)) (had kept : Stores)
    → ((role : Role) → lent_in lent role ≡ stored_for kept role) → stored_for kept Old ≡ stored_for had Old
    → stored_for kept Mask ≡ stored_for had Mask → stored_for kept First ≡ stored_for had First
    → stored_for kept Second ≡ stored_for had Second → (role : Role) → lent_in lent role ≡ stored_for had role
lent-kept lent had kept same old mask first second Old = same Old ∙ old
lent-kept lent had kept same old mask first second Mask = same Mask ∙ mask
lent-kept lent had kept same old mask first second First = same First ∙ first
lent-kept lent had kept same old mask first second Second = same Second ∙ second
