-- What an entry tells is what its recipe makes of the objects of its inputs' notes.
use Rattle.std.proofs.Common.{◌≡◌, ℕ, Bor, Option, Some, None, refl, ap, ◌∙◌, subst, sym}
use Rattle.std.specs.Option.{IfSome, option_map, option_map_or}
use Rattle.calls.specs.declared.recipe.Recipe.{Recipe}
use Rattle.calls.specs.declared.role.Role.{Role}
use Rattle.calls.specs.declared.role.Role.TheVariants.{Old, Mask, First, Second}
use Rattle.calls.specs.declared.role.Roles.{Roles}
use Rattle.calls.specs.Recipes.{known_of, meaning_of}
use Rattle.calls.specs.Roles.{role_of}
use Rattle.calls.specs.Stores.{object_with}
use Rattle.history.specs.declared.made.Made.{Made}
use Rattle.history.specs.Histories.{Told, made_from, object_in, object_of}
use Rattle.history.proofs.MadeLaws.{made-is_object, made-object}
use Rattle.journal.specs.Entries.{told}
use Rattle.model.specs.Object.{Content, IsObject, no_content}
use Rattle.runner.specs.Tickets.{Fit, lent_in, made_by, map_by_ticket}

map_same : (o : Option (ℕ × Made)) (note : Option Told) → option_map (λ v. v.1) o ≡ option_map (λ t. t.made) note
    → option_map_or (λ v. (object_in v.1).content) o no_content ≡ map_by_ticket object_of note
map_same None None is = refl
map_same None (Some t) is = absurd cc
map_same (Some v) None is = absurd cc
map_same (Some v) (Some t) is = let e : v.1 ≡ t.made = cc (is) in ap (λ (m : Made). (object_in m).content) e

told-made : (recipe : Recipe) (seen : Roles (ℕ × Made)) (notes : Roles (Bor Told))
    → ((role : Role) → option_map (λ v. v.1) (role_of seen role) ≡ option_map (λ t. t.made) (lent_in notes role))
    → (told recipe seen).1 ≡ made_from (made_by object_of recipe notes)
told-made recipe seen notes same =
    ap (λ (maps : Role → Content). made_from (object_with (known_of recipe) (meaning_of recipe maps)))
    (λ x role. map_same (role_of seen role) (lent_in notes role) (same role) x)

-- what holds of each role
pub each_role : (P : Role → Type 0) → P Old → P Mask → P First → P Second → (role : Role) → P role
each_role P old mask first second Old = old
each_role P old mask first second Mask = mask
each_role P old mask first second First = first
each_role P old mask first second Second = second

-- an entry tells what its recipe makes of the objects of its inputs' notes, and that is an object
pub tells : (recipe : Recipe) (seen : Roles (ℕ × Made)) (notes : Roles (Bor Told)) (v : ℕ × Made) → v ≡ told recipe seen
    → ((role : Role) → option_map (λ v. v.1) (role_of seen role) ≡ option_map (λ t. t.made) (lent_in notes role))
    → Fit object_of recipe notes → ((role : Role) → IfSome (lent_in notes role) (λ note. IsObject (object_of note)))
    → (object_in v.1 ≡ made_by object_of recipe notes) × IsObject (object_in v.1)
tells recipe seen notes v is same fits sound =
    let made = made_by object_of recipe notes in
    let object : IsObject made = made-is_object object_of recipe notes fits sound in
    let tells : object_in v.1 ≡ made = ap (λ (w : ℕ × Made). object_in w.1) is ∙ (ap object_in (told-made recipe seen notes same) ∙ made-object made object) in
    (tells, subst IsObject (sym tells) object)
