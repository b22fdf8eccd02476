-- The slots that take a task's roles.
use Rattle.std.proofs.Common.{inl, inr, ◌≡◌, ◌∙◌, ℕ, zero, suc, ◌<◌, Bool, true, cond, eqb, Option, Some, None, refl, sym, ap, arith, ◌⊎◌}
use Rattle.std.proofs.lemmas.Bool.{and_from, and_parts, cases_Bool, eqb-true, eq-eqb}
use Rattle.calls.specs.declared.role.Role.{Role}
use Rattle.calls.specs.declared.role.Role.TheVariants.{Old, Mask, First, Second}
use Rattle.calls.specs.declared.role.Roles.{Roles}
use Rattle.calls.specs.Roles.{role_of}
use Rattle.stages.specs.Places.{each, passes, place_of, places_of}

-- each input passes, by its role
pub each-at : {T : Type 0} (p : T → Bool) (inputs : Roles T) → each p inputs ≡ true → (role : Role) (x : T)
    → role_of inputs role ≡ Some x → p x ≡ true
each-at p inputs all Old x is = ap (passes p) (sym is) ∙ (and_parts (passes p inputs.old) _ all).0
each-at p inputs all Mask x is =
    let r = (and_parts (passes p inputs.old) _ all).1 in
    ap (passes p) (sym is) ∙ (and_parts (passes p inputs.mask) _ r).0
each-at p inputs all First x is =
    let r = (and_parts (passes p inputs.old) _ all).1 in
    let s = (and_parts (passes p inputs.mask) _ r).1 in
    ap (passes p) (sym is) ∙ (and_parts (passes p inputs.first) _ s).0
each-at p inputs all Second x is =
    let r = (and_parts (passes p inputs.old) _ all).1 in
    let s = (and_parts (passes p inputs.mask) _ r).1 in
    ap (passes p) (sym is) ∙ (and_parts (passes p inputs.first) _ s).1

passes-from : {T : Type 0} (p : T → Bool) (o : Option T) → ((x : T) → o ≡ Some x → p x ≡ true) → passes p o ≡ true
passes-from p None h = refl
passes-from p (Some x) h = h x refl

pub each-from : {T : Type 0} (p : T → Bool) (inputs : Roles T)
    → ((role : Role) (x : T) → role_of inputs role ≡ Some x → p x ≡ true) → each p inputs ≡ true
each-from p inputs h =
    and_from _ _ (passes-from p inputs.old (h Old)) (and_from _ _ (passes-from p inputs.mask (h Mask))
    (and_from _ _ (passes-from p inputs.first (h First)) (passes-from p inputs.second (h Second))))

-- what follows for each input
pub each-then : {T : Type 0} (p q : T → Bool) (inputs : Roles T) → each p inputs ≡ true
    → ((role : Role) (x : T) → role_of inputs role ≡ Some x → p x ≡ true → q x ≡ true) → each q inputs ≡ true
each-then p q inputs all h = each-from q inputs (λ role x is. h role x is (each-at p inputs all role x is))

pub each-both : {T : Type 0} (p q r : T → Bool) (inputs : Roles T) → each p inputs ≡ true → each q inputs ≡ true
    → ((x : T) → p x ≡ true → q x ≡ true → r x ≡ true) → each r inputs ≡ true
each-both p q r inputs ps qs h =
    each-from r inputs (λ role x is. h x (each-at p inputs ps role x is) (each-at q inputs qs role x is))

-- tests that agree on the inputs
passes-same : {T : Type 0} (p q : T → Bool) (o : Option T) → ((x : T) → o ≡ Some x → p x ≡ q x) → passes p o ≡ passes q o
passes-same p q None h = refl
passes-same p q (Some x) h = h x refl

pub each-same : {T : Type 0} (p q : T → Bool) (inputs : Roles T)
    → ((role : Role) (x : T) → role_of inputs role ≡ Some x → p x ≡ q x) → each p inputs ≡ each q inputs
each-same p q inputs h =
    cc (
      passes-same p q inputs.old (h Old),
      passes-same p q inputs.mask (h Mask),
      passes-same p q inputs.first (h First),
      passes-same p q inputs.second (h Second),
    )

-- ---- places

place-at : (o : Option ℕ) (k : ℕ) → o ≡ Some k → place_of o k ≡ 1
place-at None k is = absurd cc
place-at (Some i) k is = ap (λ b. cond b 1 0) (eq-eqb i k (cc (is)))

-- a slot that takes a role is named
pub places-at : (inputs : Roles ℕ) (role : Role) (k : ℕ) → role_of inputs role ≡ Some k → 0 < places_of inputs k
places-at inputs Old k is = omega (arith, place-at inputs.old k is)
places-at inputs Mask k is = omega (arith, place-at inputs.mask k is)
places-at inputs First k is = omega (arith, place-at inputs.first k is)
places-at inputs Second k is = omega (arith, place-at inputs.second k is)

place-above : (o : Option ℕ) (k : ℕ) → 0 < place_of o k → o ≡ Some k
place-above None k h = absurd (omega arith)
place-above (Some i) k h = elim (cases_Bool (eqb i k)) [
  | inl e ↦ ap Some (eqb-true i k e)
  | inr e ↦ let none : place_of (Some i) k ≡ 0 = ap (λ b. cond b 1 0) e in absurd (omega (arith, none, h))
]

-- and a slot that is named takes one
pub places-above : (inputs : Roles ℕ) (k : ℕ) → 0 < places_of inputs k → (role : Role) × (role_of inputs role ≡ Some k)
places-above inputs k h = elim (zero_or (place_of inputs.old k)) [
  | inl a ↦ elim (zero_or (place_of inputs.mask k)) [
    | inl b ↦ elim (zero_or (place_of inputs.first k)) [
      | inl c ↦ (Second, place-above inputs.second k (omega arith))
      | inr c ↦ (First, place-above inputs.first k c)
    ]
    | inr b ↦ (Mask, place-above inputs.mask k b)
  ]
  | inr a ↦ (Old, place-above inputs.old k a)
]
  where
    zero_or : (n : ℕ) → (n ≡ 0) ⊎ (0 < n)
    zero_or zero = inl refl
    zero_or (suc n) = inr (omega arith)
