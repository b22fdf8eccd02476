-- What tickets stand for, and what is made of it.
use Rattle.std.specs.Prelude.{ℕ, ◌≡◌, Bool, Option, Some, None}
use Rattle.std.specs.Borrow.{Bor}
use Rattle.std.specs.Option.{option_map, option_map_or}
use Rattle.calls.specs.declared.recipe.Recipe.{Recipe}
use Rattle.calls.specs.declared.role.Role.{Role}
use Rattle.calls.specs.declared.role.Roles.{Roles}
use Rattle.calls.specs.Recipes.{known_by, known_of, meaning_of}
use Rattle.calls.specs.Roles.{role_of}
use Rattle.calls.specs.Stores.{object_with}
use Rattle.model.specs.declared.shape.Signature.{Signature}
use Rattle.model.specs.Object.{Content, Object, cols_of, no_content, rows_of, signature_of, transposed_content}
use Rattle.model.specs.Object.{transposed_signature}
use Rattle.model.specs.Table.{transposed_if}
use Rattle.store.specs.Stored.{Stored, content_of}

-- the tickets that are lent for roles
abbrev pub lent_in : {T : Type 0} → Roles (Bor T) → Role → Option T
lent_in tickets role = option_map (λ t. t.now) (role_of tickets role)

-- what is known of a ticket's object, and its map; no ticket, no map
abbrev pub known_by_ticket : {T : Type 0} → (T → Object) → Option T → Option Signature
known_by_ticket object_of ticket = option_map (λ t. signature_of (object_of t)) ticket

abbrev pub map_by_ticket : {T : Type 0} → (T → Object) → Option T → Content
map_by_ticket object_of ticket = option_map_or (λ t. (object_of t).content) ticket no_content

-- ..of those that take the roles
abbrev pub known_by_role : {T : Type 0} → (T → Object) → Roles (Bor T) → Role → Option Signature
known_by_role object_of tickets role = known_by_ticket object_of (lent_in tickets role)

abbrev pub maps_by : {T : Type 0} → (T → Object) → Roles (Bor T) → Role → Content
maps_by object_of tickets role = map_by_ticket object_of (lent_in tickets role)

-- tickets take the roles of what is submitted, by what is known of its inputs
abbrev pub AreInputs : {T : Type 0} → (T → Object) → (Role → Option Signature) → Roles (Bor T) → Type 0
AreInputs object_of known tickets = (role : Role) → known_by_role object_of tickets role ≡ known role

-- ..of a recipe
abbrev pub Fit : {T : Type 0} → (T → Object) → Recipe → Roles (Bor T) → Type 0
Fit object_of recipe tickets = AreInputs object_of (known_by recipe) tickets

-- what a recipe makes of the objects of tickets
abbrev pub made_by : {T : Type 0} → (T → Object) → Recipe → Roles (Bor T) → Object
made_by object_of recipe tickets = object_with (known_of recipe) (meaning_of recipe (maps_by object_of tickets))

-- a store is an object's
pub record IsStoreFor (o : Object) (stored : Stored) : Type 0 where
  pub rows : stored.rows ≡ rows_of o.shape
  pub cols : stored.cols ≡ cols_of o.shape
  pub content : (i j : ℕ) → content_of stored i j ≡ o.content i j

-- ---- tickets of transposes

-- the ticket that was made, or the one that was there
abbrev pub lent : {T : Type 0} → Option T → Option T → Option T
lent None ticket = ticket
lent (Some made) ticket = Some made

-- a ticket stands for the object of another, transposed where a flag says so
pub record IsTurned {T : Type 0} (object_of : T → Object) (flag : Bool) (old new : Option T) : Type 0 where
  pub known : known_by_ticket object_of new
      ≡ transposed_if (option_map transposed_signature) flag (known_by_ticket object_of old)
  pub map : map_by_ticket object_of new ≡ transposed_if transposed_content flag (map_by_ticket object_of old)
