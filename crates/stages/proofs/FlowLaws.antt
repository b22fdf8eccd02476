-- Steps after which slots still rest on slots that have come as far as they must.
use Rattle.std.proofs.Common.{inl, inr, ◌≡◌, ◌≢◌, ◌∙◌, ℕ, suc, ◌<◌, true, ltb, List, [], ◌∷◌, ◌++◌, length, Some, slice_get, slice_set, sym, ap, arith, subst, ◌⊎◌}
use Rattle.std.proofs.lemmas.Bool.{cases_eq, ltb-true}
use Rattle.calls.specs.declared.role.Role.{Role}
use Rattle.calls.specs.Roles.{role_of}
use Rattle.stages.specs.Flows.{Flows}
use Rattle.stages.specs.Places.{each, places_of}
use Rattle.stages.specs.Progress.{Progress, allows}
use Rattle.stages.specs.Tasks.{Task}
use Rattle.stages.proofs.ListLaws.{get_end, get_left, get_set, get_set_other, get_set_same, get_snoc, length_set, length_snoc}
use Rattle.stages.proofs.PlaceLaws.{each-at, each-then, places-at}

-- an input stands before its slot
pub below : (ts : List Task) (ps : List Progress) (k : ℕ) (t : Task) (role : Role) (i : ℕ) → Flows ts ps
    → slice_get ts k ≡ Some t → role_of t.inputs role ≡ Some i → i < k
below ts ps k t role i flows is takes =
    ltb-true i k (each-at (λ j. ltb j k) t.inputs (flows.lower k t is) role i takes)

-- one slot comes further, as those that name it allow, and its inputs have come so far
pub flows_set : (ts : List Task) (ps : List Progress) (k : ℕ) (t : Task) (p q : Progress) → Flows ts ps
    → slice_get ts k ≡ Some t → slice_get ps k ≡ Some p
    → ((j : ℕ) (u : Task) (r : Progress) → slice_get ts j ≡ Some u → slice_get ps j ≡ Some r → 0 < places_of u.inputs k
    → allows r (Some p) ≡ true → allows r (Some q) ≡ true)
    → each (λ i. allows q (slice_get ps i)) t.inputs ≡ true → Flows ts (slice_set ps k q)
flows_set ts ps k t p q flows is was further own = record {
  sized = length_set ps k q ∙ flows.sized;
  lower = flows.lower;
  allowed = λ j u r there at. get_set ps k j q r at
      (λ e same.
      let task : u ≡ t = cc (there, is, ap (slice_get ts) e) in
      subst (λ w. each (λ i. allows w (slice_get (slice_set ps k q) i)) u.inputs ≡ true) same
      (subst (λ w. each (λ i. allows q (slice_get (slice_set ps k q) i)) w.inputs ≡ true) (sym task)
      (each-then (λ i. allows q (slice_get ps i)) (λ i. allows q (slice_get (slice_set ps k q) i)) t.inputs own
      (λ role i takes h.
      let low : i < k = below ts ps k t role i flows is takes in
      let far : i ≢ k = omega (arith, low) in
      ap (allows q) (get_set_other ps k i q far) ∙ h))))
      (λ far before. each-then (λ i. allows r (slice_get ps i)) (λ i. allows r (slice_get (slice_set ps k q) i)) u.inputs
      (flows.allowed j u r there before)
      (λ role i takes h. other_or_same j u r there before role i takes h (cases_eq i k)));
}
  where
    other_or_same : (j : ℕ) (u : Task) (r : Progress) → slice_get ts j ≡ Some u → slice_get ps j ≡ Some r → (role : Role) (i : ℕ)
        → role_of u.inputs role ≡ Some i → allows r (slice_get ps i) ≡ true → (i ≡ k) ⊎ (i ≡ k → ⊥)
        → allows r (slice_get (slice_set ps k q) i) ≡ true
    other_or_same j u r there before role i takes h (inl e) =
        let names : 0 < places_of u.inputs k = places-at u.inputs role k (takes ∙ ap Some e) in
        let old : allows r (Some p) ≡ true = ap (allows r) (sym was ∙ ap (slice_get ps) (sym e)) ∙ h in
        ap (allows r) (ap (slice_get (slice_set ps k q)) e ∙ get_set_same ps k q p was) ∙ further j u r there before names old
    other_or_same j u r there before role i takes h (inr far) = ap (allows r) (get_set_other ps k i q far) ∙ h

-- one slot more
pub flows_push : (ts : List Task) (ps : List Progress) (t : Task) (q : Progress) → Flows ts ps
    → each (λ i. ltb i (length ts)) t.inputs ≡ true → each (λ i. allows q (slice_get ps i)) t.inputs ≡ true
    → Flows (ts ++ t ∷ []) (ps ++ q ∷ [])
flows_push ts ps t q flows low own = record {
  sized = length_snoc ps q ∙ (ap suc flows.sized ∙ sym (length_snoc ts t));
  lower = λ j u there. get_snoc ts j t u there
      (λ e same. subst (λ w. each (λ i. ltb i j) w.inputs ≡ true) same (subst (λ n. each (λ i. ltb i n) t.inputs ≡ true) (sym e) low))
      (λ l before. flows.lower j u before);
  allowed = λ j u r there at. get_snoc ts j t u there
      (λ e same.
      let which : q ≡ r = last j r e at in
      subst (λ w. each (λ i. allows r (slice_get (ps ++ q ∷ []) i)) w.inputs ≡ true) same
      (subst (λ w. each (λ i. allows w (slice_get (ps ++ q ∷ []) i)) t.inputs ≡ true) which
      (each-then (λ i. allows q (slice_get ps i)) (λ i. allows q (slice_get (ps ++ q ∷ []) i)) t.inputs own
      (λ role i takes h. ap (allows q) (get_left ps (q ∷ []) i (within role i takes)) ∙ h))))
      (λ l before.
      let mine : slice_get ps j ≡ Some r = sym (get_left ps (q ∷ []) j (omega (arith, l, flows.sized))) ∙ at in
      each-then (λ i. allows r (slice_get ps i)) (λ i. allows r (slice_get (ps ++ q ∷ []) i)) u.inputs (flows.allowed j u r before mine)
      (λ role i takes h. ap (allows r) (get_left ps (q ∷ []) i (let b = below ts ps j u role i flows before takes in omega (arith, b, l, flows.sized))) ∙ h));
}
  where
    last : (j : ℕ) (r : Progress) → j ≡ length ts → slice_get (ps ++ q ∷ []) j ≡ Some r → q ≡ r
    last j r e at = let there = get_end ps q j (omega (arith, e, flows.sized)) in cc (there, at)

    within : (role : Role) (i : ℕ) → role_of t.inputs role ≡ Some i → i < length ps
    within role i takes = let b = ltb-true i (length ts) (each-at (λ j. ltb j (length ts)) t.inputs low role i takes) in omega (arith, b, flows.sized)
