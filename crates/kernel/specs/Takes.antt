-- Stores that take the roles of an operation.
use Rattle.std.specs.Prelude.{Option, Some, None}
use Rattle.std.specs.Borrow.{Bor}
use Rattle.std.specs.Option.{option_map, option_map_or}
use Rattle.calls.specs.declared.role.Role.{Role}
use Rattle.calls.specs.declared.role.Roles.{Roles}
use Rattle.calls.specs.Roles.{role_of}
use Rattle.calls.specs.Stores.{IsStoreOf}
use Rattle.model.specs.declared.shape.Signature.{Signature}
use Rattle.model.specs.Object.{Content, no_content}
use Rattle.store.specs.Stored.{Stored, content_of}

-- a role that is read has a store that fits it, and no other role has one
abbrev pub Takes : Option Signature → Option Stored → Type 0
Takes (Some known) (Some stored) = IsStoreOf known stored
Takes None None = Unit {0}
Takes known stored = ⊥

-- the stores that are lent for roles
abbrev pub lent_in : Roles (Bor Stored) → Role → Option Stored
lent_in stores role = option_map (λ store. store.now) (role_of stores role)

-- stores take the roles of what is evaluated, by what is known of its inputs
abbrev pub AreInputs : (Role → Option Signature) → Roles (Bor Stored) → Type 0
AreInputs known stores = (role : Role) → Takes (known role) (lent_in stores role)

-- the map of a store; no store, no map
abbrev pub map_in : Option Stored → Content
map_in stored = option_map_or content_of stored no_content

-- the maps that take the roles
abbrev pub maps_in : Roles (Bor Stored) → Role → Content
maps_in stores role = map_in (lent_in stores role)
