-- Notes tell the objects of their slots, whatever happens on the board.
use Rattle.std.specs.Global.{Box}
use Rattle.std.proofs.Common.{◌≡◌, ◌∙◌, ◌⊎◌, ℕ, zero, suc, ◌<◌, Bor, List, [], ◌∷◌, ◌++◌, length, Option, Some, None, true, slice_get, refl, sym, subst, ap, inl, inr, arith}
use Rattle.std.specs.Prelude.{nat_lt, Result, Ok, Err, OnOk, OnErr}
use Rattle.std.specs.Option.{option_map, option_map_or}
use Rattle.std.proofs.lemmas.Bool.Decides.{nat_tests}
use Rattle.board.specs.Events.{Accepts, IsTaken, issued, placed}
use Rattle.stages.specs.Places.{each, passes}
use Rattle.stages.specs.Tasks.{Task, known_at, maps_of, object_at, objects}
use Rattle.stages.specs.Views.{View}
use Rattle.board.specs.declared.look.Refusal.{Refusal}
use Rattle.board.proofs.GivenLaws.{given_object}
use Rattle.board.proofs.ObjectLaws.{made_unfolds, object_at_left, object_at_made}
use Rattle.calls.specs.declared.recipe.Given.{Given}
use Rattle.calls.specs.declared.recipe.Recipe.{Recipe}
use Rattle.calls.specs.declared.recipe.Recipe.TheVariants as recipe
use Rattle.calls.specs.declared.role.Role.{Role}
use Rattle.calls.specs.declared.role.Role.TheVariants.{Old, Mask, First, Second}
use Rattle.calls.specs.declared.role.Roles.{Roles}
use Rattle.calls.specs.Recipes.{known_by, known_of, meaning_of}
use Rattle.calls.specs.Roles.{no_roles, role_of}
use Rattle.calls.specs.Stores.{object_with}
use Rattle.history.specs.Histories.{Told, object_of}
use Rattle.desk.specs.declared.ticket.Ticket.{Ticket}
use Rattle.desk.specs.Desks.{AreTold, IsPlaceOf, object_in}
use Rattle.model.specs.declared.memory.NoMemory.{NoMemory}
use Rattle.model.specs.declared.shape.Signature.{Signature}
use Rattle.model.specs.Object.{Content, Object, no_content}
use Rattle.runner.specs.Tickets.{known_by_role, known_by_ticket, lent_in, made_by, map_by_ticket, maps_by}

-- what stands in a list with one more
snoc_at : {A : Type 0} (xs : List A) (x y : A) (k : ℕ) → slice_get (xs ++ x ∷ []) k ≡ Some y
    → ((k < length xs) × (slice_get xs k ≡ Some y)) ⊎ ((k ≡ length xs) × (x ≡ y))
snoc_at [] x y zero h = inr (refl, cc)
snoc_at [] x y (suc k) h = absurd (cc)
snoc_at (z ∷ xs) x y zero h = inl (omega arith, h)
snoc_at (z ∷ xs) x y (suc k) h = elim (snoc_at xs x y k h) [
  | inl before ↦ inl (omega (arith, before.0), before.1)
  | inr last ↦ inr (ap suc last.0, last.1)
]

snoc_last : {A : Type 0} (xs : List A) (x : A) → slice_get (xs ++ x ∷ []) (length xs) ≡ Some x
snoc_last [] x = refl
snoc_last (z ∷ xs) x = snoc_last xs x

within : (ts : List Task) (k : ℕ) (known : Signature) → known_at ts k ≡ Some known → k < length ts
within [] k known h = absurd (cc)
within (t ∷ ts) zero known h = omega arith
within (t ∷ ts) (suc k) known h = omega (arith, within ts k known h)

module _ {N : Type 0} (told : N → Told) where
  pub told-same : (v w : View N) → AreTold told v → w.tasks ≡ v.tasks → w.notes ≡ v.notes → AreTold told w
  told-same v w tells tasks notes k note at =
      subst (λ (ts : List Task). object_at ts k ≡ object_of (told note)) (sym tasks)
      (tells k note (ap (λ (ns : List N). slice_get ns k) (sym notes) ∙ at))

  pub told-empty : (v : View N) → v.notes ≡ [] → AreTold told v
  told-empty v none k note at =
      let contra : None ≡ Some note = ap (λ (ns : List N). slice_get ns k) (sym none) ∙ at in absurd (cc)

  -- ---- one slot more

  module _ (v : View N) (recipe : Recipe) (inputs : Roles ℕ) (accepts : Accepts v recipe inputs) where
    abbrev after : List Task
    after = v.tasks ++ record { recipe = recipe; inputs = inputs } ∷ []

    low : (known : Option Signature) (i : Option ℕ) → IsTaken v known i
        → passes (λ j. nat_lt j (length v.tasks)) i ≡ true
    low None None taken = refl
    low (Some known) None taken = absurd (taken)
    low None (Some i) taken = absurd (taken)
    low (Some known) (Some i) taken =
        let below : i < length v.tasks = within v.tasks i known taken.0 in grind (arith, nat_tests)

    all_low : each (λ j. nat_lt j (length v.tasks)) inputs ≡ true
    all_low =
        rw (low (known_by recipe Old) inputs.old (accepts Old), low (known_by recipe Mask) inputs.mask (accepts Mask), low (known_by recipe First) inputs.first (accepts First), low (known_by recipe Second) inputs.second (accepts Second)) refl

    map_same : (known : Option Signature) (i : Option ℕ) (ticket : Option (Ticket N)) → IsTaken v known i
        → IsPlaceOf told v.tasks i ticket
        → option_map_or (λ j. (object_at after j).content) i no_content
        ≡ option_map_or (λ t. (object_in told t).content) ticket no_content
    map_same known None None taken place = refl
    map_same known None (Some ticket) taken place = absurd (place)
    map_same known (Some i) None taken place = absurd (place)
    map_same None (Some i) (Some ticket) taken place = absurd (taken)
    map_same (Some known) (Some i) (Some ticket) taken place =
        ap (λ (o : Object). o.content) (object_at_left v.tasks (record { recipe = recipe; inputs = inputs }) i (within v.tasks i known taken.0) ∙ place)

    -- the new slot's object is what was noted
    pub told-issued : (note : N) (tickets : Roles (Bor (Ticket N))) → length v.notes ≡ length v.tasks → AreTold told v
        → ((role : Role) → IsPlaceOf told v.tasks (role_of inputs role) (lent_in tickets role))
        → object_of (told note) ≡ made_by (object_in told) recipe tickets → AreTold told (issued v note recipe inputs)
    unfolding object_at
    told-issued note tickets sized tells places makes k n at = elim (snoc_at v.notes note n k at) [
      | inl before ↦ object_at_left v.tasks (record { recipe = recipe; inputs = inputs }) k (omega (arith, sized, before.0)) ∙ tells k n before.1
      | inr last ↦
          let maps : maps_of (objects after) inputs ≡ maps_by (object_in told) tickets =
          λ t role. map_same (known_by recipe role) (role_of inputs role) (lent_in tickets role) (accepts role) (places role) t in
          ap (object_at after) (last.0 ∙ sized)
          ∙ object_at_made after (length v.tasks) (record { recipe = recipe; inputs = inputs }) (snoc_last v.tasks (record { recipe = recipe; inputs = inputs })) all_low
          ∙ made_unfolds (objects after) (record { recipe = recipe; inputs = inputs })
          ∙ ap (λ (maps : Role → Content). object_with (known_of recipe) (meaning_of recipe maps)) maps
          ∙ sym makes ∙ ap (λ (m : N). object_of (told m)) last.1
    ]

  -- a board that a slot was asked of, whether or not it was given
  pub told-after : (v w : View N) (result : Result ℕ Refusal) (note : N) (recipe : Recipe) (inputs : Roles ℕ) (tickets : Roles (Bor (Ticket N)))
      → OnOk result (w ≡ issued v note recipe inputs) → OnErr result (w ≡ v) → OnOk result (Accepts v recipe inputs)
      → length v.notes ≡ length v.tasks → AreTold told v
      → ((role : Role) → IsPlaceOf told v.tasks (role_of inputs role) (lent_in tickets role))
      → object_of (told note) ≡ made_by (object_in told) recipe tickets → AreTold told w
  told-after v w (Ok slot) note recipe inputs tickets new refused accepts sized tells places makes =
      subst (AreTold told) (sym new) (told-issued v recipe inputs accepts note tickets sized tells places makes)
  told-after v w (Err refusal) note recipe inputs tickets new refused accepts sized tells places makes =
      subst (AreTold told) (sym refused) tells

  -- the same where the slot has a store that is there
  told-placed : (v : View N) (note : N) (given : Box Given) (tickets : Roles (Bor (Ticket N)))
      → length v.notes ≡ length v.tasks → AreTold told v
      → object_of (told note) ≡ made_by (object_in told) (recipe.Given given) tickets → AreTold told (placed v note given)
  told-placed v note given tickets sized tells makes k n at = elim (snoc_at v.notes note n k at) [
    | inl before ↦ object_at_left v.tasks (record { recipe = recipe.Given given; inputs = no_roles }) k (omega (arith, sized, before.0)) ∙ tells k n before.1
    | inr last ↦
        let after : List Task = v.tasks ++ record { recipe = recipe.Given given; inputs = no_roles } ∷ [] in
        ap (object_at after) (last.0 ∙ sized)
        ∙ given_object after (length v.tasks) given (snoc_last v.tasks (record { recipe = recipe.Given given; inputs = no_roles }))
        ∙ sym makes ∙ ap (λ (m : N). object_of (told m)) last.1
  ]

  pub told-after_given : (v w : View N) (result : Result ℕ NoMemory) (note : N) (given : Box Given) (tickets : Roles (Bor (Ticket N)))
      → OnOk result (w ≡ placed v note given) → OnErr result (w ≡ v) → length v.notes ≡ length v.tasks → AreTold told v
      → object_of (told note) ≡ made_by (object_in told) (recipe.Given given) tickets → AreTold told w
  told-after_given v w (Ok slot) note given tickets new refused sized tells makes =
      subst (AreTold told) (sym new) (told-placed v note given tickets sized tells makes)
  told-after_given v w (Err refusal) note given tickets new refused sized tells makes =
      subst (AreTold told) (sym refused) tells

  -- ---- notes of tickets

  module _ (tickets : Roles (Bor (Ticket N))) (notes : Roles (Bor N))
      (same : (role : Role) → lent_in notes role ≡ option_map (λ t. t.note) (lent_in tickets role)) where
    known_of_note : (ticket : Option (Ticket N))
        → known_by_ticket (λ note. object_of (told note)) (option_map (λ t. t.note) ticket)
        ≡ known_by_ticket (object_in told) ticket
    known_of_note None = refl
    known_of_note (Some ticket) = refl

    map_of_note : (ticket : Option (Ticket N))
        → map_by_ticket (λ note. object_of (told note)) (option_map (λ t. t.note) ticket)
        ≡ map_by_ticket (object_in told) ticket
    map_of_note None = refl
    map_of_note (Some ticket) = refl

    pub noted-known : (role : Role)
        → known_by_role (λ note. object_of (told note)) notes role ≡ known_by_role (object_in told) tickets role
    noted-known role =
        ap (known_by_ticket (λ note. object_of (told note))) (same role) ∙ known_of_note (lent_in tickets role)

    pub noted-made : (recipe : Recipe)
        → made_by (λ note. object_of (told note)) recipe notes ≡ made_by (object_in told) recipe tickets
    noted-made recipe = ap (λ (m : Role → Content). object_with (known_of recipe) (meaning_of recipe m)) maps
      where
        at : (role : Role) → map_by_ticket (λ note. object_of (told note)) (lent_in notes role)
            ≡ map_by_ticket (object_in told) (lent_in tickets role)
        at role = ap (map_by_ticket (λ note. object_of (told note))) (same role) ∙ map_of_note (lent_in tickets role)

        maps : maps_by (λ note. object_of (told note)) notes ≡ maps_by (object_in told) tickets
        maps = λ x role. at role x
