-- The stores of tickets take the roles, and have the maps of the objects that the tickets stand for.
use Rattle.std.proofs.Common.{◌≡◌, ◌∙◌, ℕ, Bor, Option, Some, None, ap, refl}
use Rattle.std.specs.Arc.{arc_value}
use Rattle.std.specs.Option.{option_map}
use Rattle.calls.specs.declared.recipe.Recipe.{Recipe}
use Rattle.calls.specs.declared.role.Role.{Role}
use Rattle.calls.specs.declared.role.Roles.{Roles}
use Rattle.calls.specs.Recipes.{known_of, meaning_of}
use Rattle.calls.specs.Roles.{role_of}
use Rattle.calls.specs.Stores.{object_with}
use Rattle.kernel.specs.Takes.{Takes, lent_in, map_in, maps_in}
use Rattle.model.specs.declared.shape.Signature.{Signature}
use Rattle.model.proofs.ObjectLaws.{objects_equal}
use Rattle.runner.specs.declared.ticket.Ticket.{Ticket}
use Rattle.runner.specs.AtOnce.{object_in}
use Rattle.runner.specs.Tickets.{known_by_ticket, made_by, map_by_ticket, maps_by}
use Rattle.store.specs.Stored.{Stored, content_of}

pub takes-ticket : (ticket : Option (Bor Ticket)) → Takes (known_by_ticket object_in (option_map (λ t. t.now) ticket))
    (option_map (λ t. arc_value t.now.store) ticket)
takes-ticket None = tt
takes-ticket (Some t) = t.now.is_store

map-ticket : (ticket : Option (Bor Ticket)) → map_in (option_map (λ t. arc_value t.now.store) ticket)
    ≡ map_by_ticket object_in (option_map (λ t. t.now) ticket)
map-ticket None = refl
map-ticket (Some t) = refl

module _ (tickets : Roles (Bor Ticket)) (stores : Roles (Bor Stored))
    (same : (role : Role) → lent_in stores role ≡ option_map (λ t. arc_value t.now.store) (role_of tickets role)) where
  maps-tickets : maps_in stores ≡ maps_by object_in tickets
  maps-tickets = λ t role. (ap map_in (same role) ∙ map-ticket (role_of tickets role)) t

  -- what is evaluated of the stores is made of the objects
  pub made-alike : (recipe : Recipe) (of : Signature) (made shared : Stored) → of ≡ known_of recipe → shared ≡ made
      → ((i j : ℕ) → content_of made i j ≡ meaning_of recipe (maps_in stores) i j)
      → object_with of (content_of shared) ≡ made_by object_in recipe tickets
  made-alike recipe of made shared known copy content =
      objects_equal (object_with of (content_of shared)) (made_by object_in recipe tickets) (ap (λ (s : Signature). s.domain) known) (ap (λ (s : Signature). s.shape) known)
      (λ i j. ap (λ (s : Stored). content_of s i j) copy ∙ content i j ∙ (λ t. meaning_of recipe (maps-tickets t) i j))
