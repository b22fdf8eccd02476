-- Tickets of transposes take the roles of a recipe, and what it makes of them is what an operation leaves.
use Rattle.std.proofs.Common.{◌≡◌, ◌∙◌, ℕ, Bool, Bor, Option, false, refl, sym, ap}
use Rattle.std.specs.Option.{option_map}
use Rattle.calls.specs.declared.role.Role.{Role}
use Rattle.calls.specs.declared.role.Role.TheVariants.{Old, Mask, First, Second}
use Rattle.calls.specs.declared.role.Roles.{Roles}
use Rattle.calls.specs.declared.turns.Turns.{Turns}
use Rattle.calls.specs.declared.turns.Turns.TheVariants.{Transposed, Exchanged}
use Rattle.calls.specs.declared.recipe.Recipe.{Recipe}
use Rattle.calls.specs.Recipes.{known_by, known_of, meaning_of}
use Rattle.calls.specs.Stores.{object_with}
use Rattle.calls.specs.Turned.{turned}
use Rattle.model.specs.declared.shape.Signature.{Signature}
use Rattle.model.specs.Object.{Content, Object, transposed_content, transposed_signature}
use Rattle.runner.specs.Tickets.{AreInputs, Fit, IsTurned, known_by_role, lent_in, made_by, maps_by}

module _ {T : Type 0} (object_of : T → Object) (inputs : Roles (Bor T)) where
  -- ---- in exchanged order

  abbrev pub exchanged : Roles (Bor T)
  exchanged = record inputs { first = inputs.second; second = inputs.first }

  pub known-exchanged : (role : Role) → known_by_role object_of exchanged role
      ≡ turned (option_map transposed_signature) Exchanged (known_by_role object_of inputs) role
  known-exchanged Old = refl
  known-exchanged Mask = refl
  known-exchanged First = refl
  known-exchanged Second = refl

  pub maps-exchanged : maps_by object_of exchanged ≡ turned transposed_content Exchanged (maps_by object_of inputs)
  maps-exchanged = λ t role. point role t
    where
      point : (role : Role) → maps_by object_of exchanged role ≡ turned transposed_content Exchanged (maps_by object_of inputs) role
      point Old = refl
      point Mask = refl
      point First = refl
      point Second = refl

  -- ---- transposed

  module _ (second : Bool) (new : Option (Bor T))
      (is : IsTurned object_of second (lent_in inputs Second) (option_map (λ t. t.now) new)) where
    abbrev pub with_second : Roles (Bor T)
    with_second = record inputs { second = new }

    pub known-second : (role : Role) → known_by_role object_of with_second role
        ≡ turned (option_map transposed_signature) (Transposed false second) (known_by_role object_of inputs) role
    known-second Old = refl
    known-second Mask = refl
    known-second First = refl
    known-second Second = is.known

    pub maps-second : maps_by object_of with_second ≡ turned transposed_content (Transposed false second) (maps_by object_of inputs)
    maps-second = λ t role. point role t
      where
        point : (role : Role) → maps_by object_of with_second role ≡ turned transposed_content (Transposed false second) (maps_by object_of inputs) role
        point Old = refl
        point Mask = refl
        point First = refl
        point Second = is.map

  module _ (first second : Bool) (new : Option (Bor T))
      (is : IsTurned object_of first (lent_in inputs First) (option_map (λ t. t.now) new)) where
    abbrev pub with_first : Roles (Bor T)
    with_first = record inputs { first = new }

    pub known-first : (role : Role)
        → turned (option_map transposed_signature) (Transposed false second) (known_by_role object_of with_first) role
        ≡ turned (option_map transposed_signature) (Transposed first second) (known_by_role object_of inputs) role
    known-first Old = refl
    known-first Mask = refl
    known-first First = is.known
    known-first Second = refl

    pub maps-first : turned transposed_content (Transposed false second) (maps_by object_of with_first)
        ≡ turned transposed_content (Transposed first second) (maps_by object_of inputs)
    maps-first = λ t role. point role t
      where
        point : (role : Role) → turned transposed_content (Transposed false second) (maps_by object_of with_first) role
            ≡ turned transposed_content (Transposed first second) (maps_by object_of inputs) role
        point Old = refl
        point Mask = refl
        point First = is.map
        point Second = refl

-- ---- what a recipe makes of them

module _ {T : Type 0} (object_of : T → Object) (inputs : Roles (Bor T)) (known : Role → Option Signature)
    (recipe : Recipe) (turns : Turns) (of : Signature) (means : (Role → Content) → Content)
    (are : AreInputs object_of known inputs) (makes : known_of recipe ≡ of)
    (same : (role : Role) → known_by recipe role ≡ turned (option_map transposed_signature) turns known role)
    (alike : (maps : Role → Content) (i j : ℕ)
    → meaning_of recipe (turned transposed_content turns maps) i j ≡ means maps i j) where
  -- the recipe knows what is known of the inputs, once they are turned
  pub fits-turned : (role : Role)
      → turned (option_map transposed_signature) turns (known_by_role object_of inputs) role ≡ known_by recipe role
  fits-turned role = (λ t. turned (option_map transposed_signature) turns (λ r. are r t) role) ∙ sym (same role)

  -- what it makes of them is what the operation leaves
  made-turned : (maps : Role → Content) → maps ≡ turned transposed_content turns (maps_by object_of inputs)
      → object_with (known_of recipe) (meaning_of recipe maps) ≡ object_with of (means (maps_by object_of inputs))
  made-turned maps is = λ t. object_with (makes t) ((ap (meaning_of recipe) is ∙ (λ s i j. alike (maps_by object_of inputs) i j s)) t)

  pub fits-exchanged : turns ≡ Exchanged → Fit object_of recipe (exchanged object_of inputs)
  fits-exchanged is role = known-exchanged object_of inputs role
      ∙ ap (λ (u : Turns). turned (option_map transposed_signature) u (known_by_role object_of inputs) role) (sym is)
      ∙ fits-turned role

  pub made-exchanged : turns ≡ Exchanged
      → made_by object_of recipe (exchanged object_of inputs) ≡ object_with of (means (maps_by object_of inputs))
  made-exchanged is = made-turned (maps_by object_of (exchanged object_of inputs)) (maps-exchanged object_of inputs
      ∙ ap (λ (u : Turns). turned transposed_content u (maps_by object_of inputs)) (sym is))

  pub fits-transposed : (first second : Bool) → turns ≡ Transposed first second → (role : Role)
      → turned (option_map transposed_signature) (Transposed first second) (known_by_role object_of inputs) role
      ≡ known_by recipe role
  fits-transposed first second is role =
      ap (λ (u : Turns). turned (option_map transposed_signature) u (known_by_role object_of inputs) role) (sym is)
      ∙ fits-turned role

  pub made-transposed : (first second : Bool) → turns ≡ Transposed first second
      → object_with (known_of recipe) (meaning_of recipe (turned transposed_content (Transposed first second) (maps_by object_of inputs)))
      ≡ object_with of (means (maps_by object_of inputs))
  made-transposed first second is = made-turned (turned transposed_content (Transposed first second) (maps_by object_of inputs))
      (ap (λ (u : Turns). turned transposed_content u (maps_by object_of inputs)) (sym is))
