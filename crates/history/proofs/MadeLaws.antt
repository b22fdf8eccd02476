-- Objects as data.
use Rattle.std.proofs.Common.{◌≡◌, Bor, MatchOption, None, Option, Some, refl, subst}
use Rattle.std.specs.Option.{IfSome}
use Rattle.calls.specs.declared.recipe.Recipe.{Recipe}
use Rattle.calls.specs.declared.role.Role.{Role}
use Rattle.calls.specs.declared.role.Roles.{Roles}
use Rattle.calls.specs.Recipes.{known_by}
use Rattle.calls.specs.Stores.{object_with}
use Rattle.history.specs.Histories.{made_from, object_in}
use Rattle.kernel.proofs.PieceLaws.{recipe-is_object}
use Rattle.model.specs.declared.shape.Signature.{Signature}
use Rattle.model.specs.Object.{IsObject, Object, cols_of, no_content, rows_of, signature_of}
use Rattle.model.proofs.EntryLaws.{gathered-entries_of}
use Rattle.model.proofs.ObjectLaws.{objects_equal}
use Rattle.runner.specs.Tickets.{Fit, known_by_ticket, lent_in, made_by, map_by_ticket, maps_by}

-- the data of an object are the object
pub made-object : (o : Object) → IsObject o → object_in (made_from o) ≡ o
made-object o is =
    objects_equal (object_in (made_from o)) o refl refl (λ i j. gathered-entries_of None (rows_of o.shape) (cols_of o.shape) o.content is.within i j)

-- ---- what recipes make of objects

taken : {T : Type 0} (object_of : T → Object) (known : Option Signature) (ticket : Option T)
    → known_by_ticket object_of ticket ≡ known → IfSome ticket (λ t. IsObject (object_of t))
    → MatchOption known (map_by_ticket object_of ticket ≡ no_content) (λ of. IsObject (object_with of (map_by_ticket object_of ticket)))
taken object_of None None is sound = refl
taken object_of None (Some t) is sound = absurd (cc)
taken object_of (Some of) None is sound = absurd (cc)
taken object_of (Some of) (Some t) is sound =
    let same : known_by_ticket object_of (Some t) ≡ Some of = is in
    signature_same object_of of t (cc) sound
  where
    signature_same : {T : Type 0} (object_of : T → Object) (of : Signature) (t : T) → signature_of (object_of t) ≡ of → IsObject (object_of t)
        → IsObject (object_with of (object_of t).content)
    signature_same object_of of t is sound =
        subst (λ (of : Signature). IsObject (object_with of (object_of t).content)) is sound

-- it is an object, where they are
pub made-is_object : {T : Type 0} (object_of : T → Object) (recipe : Recipe) (tickets : Roles (Bor T)) → Fit object_of recipe tickets
    → ((role : Role) → IfSome (lent_in tickets role) (λ t. IsObject (object_of t)))
    → IsObject (made_by object_of recipe tickets)
made-is_object object_of recipe tickets fits sound =
    recipe-is_object recipe (maps_by object_of tickets) (λ role. taken object_of (known_by recipe role) (lent_in tickets role) (fits role) (sound role))
