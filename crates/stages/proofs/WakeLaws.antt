-- Who is looked at when a slot was made.
use Rattle.std.proofs.Common.{inl, inr, ◌≡◌, ◌∙◌, ℕ, suc, ◌<◌, ◌||◌, Bool, true, false, List, [], ◌∷◌, ◌++◌, length, map, eqb, Option, Some, None, slice_get, slice_set, refl, sym, ap, arith, subst}
use Rattle.std.specs.Prelude.{nat_lt}
use Rattle.std.proofs.lemmas.Bool.{cases_eq, eq-eqb, ltb-true}
use Rattle.std.proofs.lemmas.Option.{slice_get-map}
use Rattle.std.proofs.lemmas.List.{map-set}
use Rattle.std.specs.Option.{option_map}
use Rattle.calls.specs.declared.role.Role.{Role}
use Rattle.calls.specs.Roles.{role_of}
use Rattle.stages.specs.Flows.{Flows, Grows, IsWaked}
use Rattle.stages.specs.Numbers.{has, has_in}
use Rattle.stages.specs.Places.{each, passes}
use Rattle.stages.specs.Progress.{Progress, Untaken, is_made, is_untaken}
use Rattle.stages.specs.Tasks.{Task}
use Rattle.stages.proofs.FlowLaws.{below}
use Rattle.stages.proofs.ListLaws.{get_end, get_left, get_set, get_set_other, get_set_same, get_snoc, length_set, length_snoc}
use Rattle.stages.proofs.NumberLaws.{has_snoc}
use Rattle.stages.proofs.PlaceLaws.{each-at, each-then}

or_left : (x y z : Bool) → (x ≡ true → z ≡ true) → (x || y) ≡ true → (z || y) ≡ true
or_left true y z f h = ap (λ b. b || y) (f refl)
or_left false true z f h = z_or z
  where
    z_or : (z : Bool) → (z || true) ≡ true
    z_or true = refl
    z_or false = refl
or_left false false z f h = absurd cc

or_both : (x y z w : Bool) → (x ≡ true → z ≡ true) → (y ≡ true → w ≡ true) → (x || y) ≡ true → (z || w) ≡ true
or_both true y z w f g h = ap (λ b. b || w) (f refl)
or_both false true z w f g h = subst (λ b. (z || b) ≡ true) (sym (g refl)) (any z)
  where
    any : (z : Bool) → (z || true) ≡ true
    any true = refl
    any false = refl
or_both false false z w f g h = absurd cc

pub waked_set : (ts : List Task) (ps : List Progress) (readers : List (List ℕ)) (k : ℕ) (p q : Progress) → IsWaked ts ps readers
    → slice_get ps k ≡ Some p → is_untaken (Some q) ≡ false → (is_made (Some p) ≡ true → is_made (Some q) ≡ true)
    → IsWaked ts (slice_set ps k q) readers
waked_set ts ps readers k p q waked was taken still = record {
  sized = waked.sized;
  waits = λ j t there at. get_set ps k j q Untaken at
      (λ e same. absurd (let u : is_untaken (Some q) ≡ true = ap (λ r. is_untaken (Some r)) same in cc (u, taken)))
      (λ far before. each-then (λ i. is_made (slice_get ps i) || has_in j (slice_get readers i)) (λ i. is_made (slice_get (slice_set ps k q) i) || has_in j (slice_get readers i)) t.inputs
      (waked.waits j t there before)
      (λ role i takes h. or_left (is_made (slice_get ps i)) (has_in j (slice_get readers i)) (is_made (slice_get (slice_set ps k q) i)) (more i) h));
}
  where
    more : (i : ℕ) → is_made (slice_get ps i) ≡ true → is_made (slice_get (slice_set ps k q) i) ≡ true
    more i h = elim (cases_eq i k) [
      | inl e ↦ ap (λ n. is_made (slice_get (slice_set ps k q) n)) e ∙ (ap is_made (get_set_same ps k q p was) ∙ still (ap is_made (sym was) ∙ (ap (λ n. is_made (slice_get ps n)) (sym e) ∙ h)))
      | inr far ↦ ap is_made (get_set_other ps k i q far) ∙ h
    ]

pub grows_self : (readers : List (List ℕ)) → Grows readers readers
grows_self readers = record { sized = refl; still = λ k j h. h }

pub grows_then : (one two three : List (List ℕ)) → Grows one two → Grows two three → Grows one three
grows_then one two three f g = record { sized = g.sized ∙ f.sized; still = λ k j h. g.still k j (f.still k j h) }

pub waked_grows : (ts : List Task) (ps : List Progress) (readers more : List (List ℕ)) → IsWaked ts ps readers → Grows readers more
    → IsWaked ts ps more
waked_grows ts ps readers more waked grows = record {
  sized = grows.sized ∙ waked.sized;
  waits = λ j t there at. each-then (λ i. is_made (slice_get ps i) || has_in j (slice_get readers i)) (λ i. is_made (slice_get ps i) || has_in j (slice_get more i)) t.inputs (waked.waits j t there at)
      (λ role i takes h. or_both (is_made (slice_get ps i)) (has_in j (slice_get readers i)) (is_made (slice_get ps i)) (has_in j (slice_get more i)) (λ e. e) (grows.still j i) h);
}

pub waked_push : (ts : List Task) (ps : List Progress) (readers : List (List ℕ)) (t : Task) (q : Progress) (mine : List ℕ)
    → Flows ts ps → IsWaked ts ps readers
    → (is_untaken (Some q) ≡ true → each (λ i. is_made (slice_get ps i) || has_in (length ts) (slice_get readers i)) t.inputs ≡ true)
    → each (λ i. nat_lt i (length ts)) t.inputs ≡ true
    → IsWaked (ts ++ t ∷ []) (ps ++ q ∷ []) (readers ++ mine ∷ [])
waked_push ts ps readers t q mine flows waked own low = record {
  sized = length_snoc readers mine ∙ (ap suc waked.sized ∙ sym (length_snoc ts t));
  waits = λ j u there at. get_snoc ts j t u there
      (λ e same.
      let last : slice_get (ps ++ q ∷ []) j ≡ Some q = get_end ps q j (omega (arith, e, flows.sized)) in
      let un : is_untaken (Some q) ≡ true = ap is_untaken (sym last ∙ at) in
      subst (λ (w : Task). each (λ i. is_made (slice_get (ps ++ q ∷ []) i) || has_in j (slice_get (readers ++ mine ∷ []) i)) w.inputs ≡ true) same
      (subst (λ n. each (λ i. is_made (slice_get (ps ++ q ∷ []) i) || has_in n (slice_get (readers ++ mine ∷ []) i)) t.inputs ≡ true) (sym e)
      (each-then (λ i. is_made (slice_get ps i) || has_in (length ts) (slice_get readers i)) (λ i. is_made (slice_get (ps ++ q ∷ []) i) || has_in (length ts) (slice_get (readers ++ mine ∷ []) i)) t.inputs (own un)
      (λ role i takes h. let l = lower role i takes in left (length ts) i l h))))
      (λ l before.
      let mine_then : slice_get ps j ≡ Some Untaken = sym (get_left ps (q ∷ []) j (omega (arith, l, flows.sized))) ∙ at in
      each-then (λ i. is_made (slice_get ps i) || has_in j (slice_get readers i)) (λ i. is_made (slice_get (ps ++ q ∷ []) i) || has_in j (slice_get (readers ++ mine ∷ []) i)) u.inputs (waked.waits j u before mine_then)
      (λ role i takes h. let b = below ts ps j u role i flows before takes in left j i (omega (arith, b, l)) h));
}
  where
    lower : (role : Role) (i : ℕ) → role_of t.inputs role ≡ Some i → i < length ts
    lower role i takes = ltb-true i (length ts) (each-at (λ j. nat_lt j (length ts)) t.inputs low role i takes)

    left : (j i : ℕ) → i < length ts → (is_made (slice_get ps i) || has_in j (slice_get readers i)) ≡ true
        → (is_made (slice_get (ps ++ q ∷ []) i) || has_in j (slice_get (readers ++ mine ∷ []) i)) ≡ true
    left j i l h =
        let a : slice_get (ps ++ q ∷ []) i ≡ slice_get ps i = get_left ps (q ∷ []) i (omega (arith, l, flows.sized)) in
        let b : slice_get (readers ++ mine ∷ []) i ≡ slice_get readers i = get_left readers (mine ∷ []) i (omega (arith, l, waked.sized)) in
        ap (λ o. is_made o || has_in j (slice_get (readers ++ mine ∷ []) i)) a ∙ (ap (λ o. is_made (slice_get ps i) || has_in j o) b ∙ h)

-- one list has one number more
pub grows_put : {A : Type 0} (f : A → List ℕ) (xs : List A) (k n : ℕ) (old new : A) → slice_get xs k ≡ Some old → f new ≡ f old ++ n ∷ []
    → Grows (map f xs) (map f (slice_set xs k new))
grows_put f xs k n old new is more = record {
  sized = ap length (map-set f xs k new) ∙ length_set (map f xs) k (f new);
  still = λ a j h. subst (λ l. has_in a (slice_get l j) ≡ true) (sym (map-set f xs k new)) (elim (cases_eq j k) [
    | inl e ↦
        let had : slice_get (map f xs) k ≡ Some (f old) = slice_get-map f xs k ∙ ap (option_map f) is in
        let now : slice_get (slice_set (map f xs) k (f new)) k ≡ Some (f new) = get_set_same (map f xs) k (f new) (f old) had in
        let before : has a (f old) ≡ true = ap (has_in a) (sym had ∙ ap (slice_get (map f xs)) (sym e)) ∙ h in
        ap (λ i. has_in a (slice_get (slice_set (map f xs) k (f new)) i)) e ∙ (ap (has_in a) now ∙ (ap (has a) more ∙ (has_snoc a (f old) n ∙ ap (λ b. b || eqb n a) before)))
    | inr far ↦ ap (has_in a) (get_set_other (map f xs) k j (f new) far) ∙ h
  ]);
}

pub has_put : {A : Type 0} (f : A → List ℕ) (xs : List A) (k n : ℕ) (old new : A) → slice_get xs k ≡ Some old → f new ≡ f old ++ n ∷ []
    → has_in n (slice_get (map f (slice_set xs k new)) k) ≡ true
has_put f xs k n old new is more =
    ap (has_in n) (slice_get-map f (slice_set xs k new) k ∙ ap (option_map f) (get_set_same xs k new old is))
    ∙ (ap (has n) more ∙ (has_snoc n (f old) n ∙ (ap (λ b. has n (f old) || b) (eq-eqb n n refl) ∙ any (has n (f old)))))
  where
    any : (b : Bool) → (b || true) ≡ true
    any true = refl
    any false = refl

-- what is waited for stays so
pub passes_grows : (made : ℕ → Bool) (k : ℕ) (before after : List (List ℕ)) (o : Option ℕ) → Grows before after
    → passes (λ i. made i || has_in k (slice_get before i)) o ≡ true → passes (λ i. made i || has_in k (slice_get after i)) o ≡ true
passes_grows made k before after None grows h = refl
passes_grows made k before after (Some i) grows h = or_both (made i) (has_in k (slice_get before i)) (made i) (has_in k (slice_get after i)) (λ e. e) (grows.still k i) h
