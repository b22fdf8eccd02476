-- The slots that can be taken, after steps.
use Rattle.std.proofs.Common.{inl, inr, ◌≡◌, ◌≢◌, ◌∙◌, ℕ, suc, ◌<◌, ◌&&◌, ◌||◌, Bool, true, false, cond, ltb, List, [], ◌∷◌, ◌++◌, length, Option, Some, None, slice_get, slice_set, refl, sym, ap, arith}
use Rattle.std.specs.Prelude.{remove}
use Rattle.std.specs.Option.{option_map_or}
use Rattle.std.proofs.lemmas.Bool.{and_from, and_parts, cases_eq, cases_lt, ltb-true}
use Rattle.std.proofs.lemmas.Option.{slice_get_past}
use Rattle.stages.specs.Flows.{Flows, IsWaked}
use Rattle.stages.specs.Numbers.{has, has_in, numbers}
use Rattle.stages.specs.Places.{each}
use Rattle.stages.specs.Progress.{Progress, Untaken, is_made, is_untaken}
use Rattle.stages.specs.Tasks.{Task}
use Rattle.stages.specs.Views.{is_fed, is_ready, offered}
use Rattle.stages.proofs.FlowLaws.{below}
use Rattle.stages.proofs.ListLaws.{get_end, get_left, get_set_other, get_set_same, get_there, length_snoc}
use Rattle.stages.proofs.NumberLaws.{numbers_below, numbers_remove, numbers_same}
use Rattle.stages.proofs.PlaceLaws.{each-at, each-both, each-same, each-then}

-- an inputs' tests alone count
pub fed_same : (ts : List Task) (ps qs : List Progress) (k : ℕ)
    → ((i : ℕ) → is_made (slice_get qs i) ≡ is_made (slice_get ps i)) → is_fed ts qs k ≡ is_fed ts ps k
fed_same ts ps qs k same = go (slice_get ts k)
  where
    go : (o : Option Task) → option_map_or (λ t. each (λ i. is_made (slice_get qs i)) t.inputs) o false ≡ option_map_or (λ t. each (λ i. is_made (slice_get ps i)) t.inputs) o false
    go None = refl
    go (Some t) = each-same (λ i. is_made (slice_get qs i)) (λ i. is_made (slice_get ps i)) t.inputs (λ role x is. same x)

pub fed_at : (ts : List Task) (ps : List Progress) (k : ℕ) (t : Task) → slice_get ts k ≡ Some t
    → is_fed ts ps k ≡ each (λ i. is_made (slice_get ps i)) t.inputs
fed_at ts ps k t is = ap (λ o. option_map_or (λ (u : Task). each (λ i. is_made (slice_get ps i)) u.inputs) o false) is

-- one slot comes further, and is neither more nor less made
pub made_same : (ps : List Progress) (k i : ℕ) (p q : Progress) → slice_get ps k ≡ Some p
    → is_made (Some q) ≡ is_made (Some p) → is_made (slice_get (slice_set ps k q) i) ≡ is_made (slice_get ps i)
made_same ps k i p q was same = elim (cases_eq i k) [
  | inl e ↦ ap (λ j. is_made (slice_get (slice_set ps k q) j)) e ∙ (ap is_made (get_set_same ps k q p was) ∙ (same ∙ (ap is_made (sym was) ∙ ap (λ j. is_made (slice_get ps j)) (sym e))))
  | inr far ↦ ap is_made (get_set_other ps k i q far)
]

pub ready_other : (ts : List Task) (ps : List Progress) (k j : ℕ) (p q : Progress) → slice_get ps k ≡ Some p
    → is_made (Some q) ≡ is_made (Some p) → j ≢ k → is_ready ts (slice_set ps k q) j ≡ is_ready ts ps j
ready_other ts ps k j p q was same far =
    let a : is_untaken (slice_get (slice_set ps k q) j) ≡ is_untaken (slice_get ps j) = ap is_untaken (get_set_other ps k j q far) in
    let b : is_fed ts (slice_set ps k q) j ≡ is_fed ts ps j = fed_same ts ps (slice_set ps k q) j (λ i. made_same ps k i p q was same) in
    cc (a, b)

pub ready_not : (ts : List Task) (ps : List Progress) (k : ℕ) → is_untaken (slice_get ps k) ≡ false → is_ready ts ps k ≡ false
ready_not ts ps k un = ap (λ b. b && is_fed ts ps k) un

-- the slot at a place among those offered comes further
pub offered_remove : (ts : List Task) (ps : List Progress) (k at : ℕ) (p q : Progress) → slice_get ps k ≡ Some p
    → is_made (Some q) ≡ is_made (Some p) → is_untaken (Some q) ≡ false → slice_get (offered ts ps) at ≡ Some k
    → offered ts (slice_set ps k q) ≡ remove (offered ts ps) at
unfolding offered
offered_remove ts ps k at p q was same taken is =
    numbers_remove (is_ready ts ps) (is_ready ts (slice_set ps k q)) (length ts) at k is
    (ready_not ts (slice_set ps k q) k (ap is_untaken (get_set_same ps k q p was) ∙ taken))
    (λ j far. ready_other ts ps k j p q was same far)

-- a slot comes further that wasn't offered, and isn't
pub offered_same : (ts : List Task) (ps : List Progress) (k : ℕ) (p q : Progress) → slice_get ps k ≡ Some p
    → is_made (Some q) ≡ is_made (Some p) → is_ready ts ps k ≡ false → is_untaken (Some q) ≡ false
    → offered ts (slice_set ps k q) ≡ offered ts ps
unfolding offered
offered_same ts ps k p q was same unready taken =
    numbers_same (is_ready ts (slice_set ps k q)) (is_ready ts ps) (length ts)
    (λ j low. elim (cases_eq j k) [
      | inl e ↦ ap (is_ready ts (slice_set ps k q)) e ∙ (ready_not ts (slice_set ps k q) k (ap is_untaken (get_set_same ps k q p was) ∙ taken) ∙ (sym unready ∙ ap (is_ready ts ps) (sym e)))
      | inr far ↦ ready_other ts ps k j p q was same far
    ])

-- what is offered is there, untaken, and each of its inputs was made
pub offered_at : (ts : List Task) (ps : List Progress) (at k : ℕ) → slice_get (offered ts ps) at ≡ Some k
    → (k < length ts) × (is_ready ts ps k ≡ true)
unfolding offered
offered_at ts ps at k is = numbers_below (is_ready ts ps) (length ts) at k is

-- one slot more
pub ready_left : (ts : List Task) (ps : List Progress) (t : Task) (q : Progress) (j : ℕ) → Flows ts ps → j < length ts
    → is_ready (ts ++ t ∷ []) (ps ++ q ∷ []) j ≡ is_ready ts ps j
ready_left ts ps t q j flows low =
    let (u, there) = get_there ts j low in
    let there_too : slice_get (ts ++ t ∷ []) j ≡ Some u = get_left ts (t ∷ []) j low ∙ there in
    let a : is_untaken (slice_get (ps ++ q ∷ []) j) ≡ is_untaken (slice_get ps j) = ap is_untaken (get_left ps (q ∷ []) j (omega (arith, low, flows.sized))) in
    let b : is_fed (ts ++ t ∷ []) (ps ++ q ∷ []) j ≡ is_fed ts ps j =
    fed_at (ts ++ t ∷ []) (ps ++ q ∷ []) j u there_too
    ∙ (each-same (λ i. is_made (slice_get (ps ++ q ∷ []) i)) (λ i. is_made (slice_get ps i)) u.inputs
    (λ role i takes. ap is_made (get_left ps (q ∷ []) i (let b = below ts ps j u role i flows there takes in omega (arith, b, low, flows.sized))))
    ∙ sym (fed_at ts ps j u there)) in
    cc (a, b)

pub offered_push : (ts : List Task) (ps : List Progress) (t : Task) (q : Progress) → Flows ts ps
    → each (λ i. ltb i (length ts)) t.inputs ≡ true
    → offered (ts ++ t ∷ []) (ps ++ q ∷ [])
    ≡ offered ts ps ++ (cond (is_untaken (Some q) && each (λ i. is_made (slice_get ps i)) t.inputs) (length ts ∷ []) [])
unfolding offered
offered_push ts ps t q flows low =
    let n : length (ts ++ t ∷ []) ≡ suc (length ts) = length_snoc ts t in
    let rest : numbers (is_ready (ts ++ t ∷ []) (ps ++ q ∷ [])) (length ts) ≡ numbers (is_ready ts ps) (length ts) =
    numbers_same (is_ready (ts ++ t ∷ []) (ps ++ q ∷ [])) (is_ready ts ps) (length ts) (λ j l. ready_left ts ps t q j flows l) in
    let a : is_untaken (slice_get (ps ++ q ∷ []) (length ts)) ≡ is_untaken (Some q) = ap is_untaken (get_end ps q (length ts) (sym flows.sized)) in
    let b : is_fed (ts ++ t ∷ []) (ps ++ q ∷ []) (length ts) ≡ each (λ i. is_made (slice_get ps i)) t.inputs =
    fed_at (ts ++ t ∷ []) (ps ++ q ∷ []) (length ts) t (get_end ts t (length ts) refl)
    ∙ each-same (λ i. is_made (slice_get (ps ++ q ∷ []) i)) (λ i. is_made (slice_get ps i)) t.inputs
    (λ role i takes. ap is_made (get_left ps (q ∷ []) i (let b = ltb-true i (length ts) (each-at (λ j. ltb j (length ts)) t.inputs low role i takes) in omega (arith, b, flows.sized)))) in
    let here : is_ready (ts ++ t ∷ []) (ps ++ q ∷ []) (length ts) ≡ is_untaken (Some q) && each (λ i. is_made (slice_get ps i)) t.inputs = cc (a, b) in
    ap (numbers (is_ready (ts ++ t ∷ []) (ps ++ q ∷ []))) n ∙ (ap (λ l. l ++ cond (is_ready (ts ++ t ∷ []) (ps ++ q ∷ []) (length ts)) (length ts ∷ []) []) rest
    ∙ ap (λ b. numbers (is_ready ts ps) (length ts) ++ cond b (length ts ∷ []) []) here)

-- ---- where a slot was made

pub untaken_some : (o : Option Progress) → is_untaken o ≡ true → o ≡ Some Untaken
untaken_some None h = absurd cc
untaken_some (Some r) h =
    elim r as (λ r. is_untaken (Some r) ≡ true → Some r ≡ Some Untaken) [ Untaken ↦ λ h. refl | _ ↦ λ h. absurd cc ] h

-- those that can be taken once slot k was made are those that could before, and those of its readers that can now
pub ready_made : (ts : List Task) (ps : List Progress) (readers : List (List ℕ)) (mine : List ℕ) (k j : ℕ) (p q : Progress)
    → IsWaked ts ps readers → slice_get readers k ≡ Some mine → slice_get ps k ≡ Some p → is_made (Some q) ≡ true
    → is_untaken (Some q) ≡ false → is_untaken (Some p) ≡ false
    → is_ready ts (slice_set ps k q) j ≡ is_ready ts ps j || (has j mine && is_ready ts (slice_set ps k q) j)
ready_made ts ps readers mine k j p q waked listed was made taken took = join (is_ready ts ps j) (has j mine) (is_ready ts (slice_set ps k q) j) stays wanted
  where
    more : (i : ℕ) → is_made (slice_get ps i) ≡ true → is_made (slice_get (slice_set ps k q) i) ≡ true
    more i h = elim (cases_eq i k) [
      | inl e ↦ ap (λ n. is_made (slice_get (slice_set ps k q) n)) e ∙ (ap is_made (get_set_same ps k q p was) ∙ made)
      | inr far ↦ ap is_made (get_set_other ps k i q far) ∙ h
    ]

    untaken_same : (i : ℕ) → is_untaken (slice_get (slice_set ps k q) i) ≡ is_untaken (slice_get ps i)
    untaken_same i = elim (cases_eq i k) [
      | inl e ↦ ap (λ n. is_untaken (slice_get (slice_set ps k q) n)) e ∙ (ap is_untaken (get_set_same ps k q p was) ∙ (taken ∙ (sym took ∙ (ap is_untaken (sym was) ∙ ap (λ n. is_untaken (slice_get ps n)) (sym e)))))
      | inr far ↦ ap is_untaken (get_set_other ps k i q far)
    ]

    -- a slot that is fed is there
    there : (o : Option Task) (rs : List Progress) → option_map_or (λ (t : Task). each (λ i. is_made (slice_get rs i)) t.inputs) o false ≡ true → (t : Task) × (o ≡ Some t)
    there None rs h = absurd cc
    there (Some t) rs h = (t, refl)

    -- what it wants was made before, where it wasn't among the readers
    before : (t : Task) → each (λ i. is_made (slice_get (slice_set ps k q) i)) t.inputs ≡ true
        → each (λ i. is_made (slice_get ps i) || has_in j (slice_get readers i)) t.inputs ≡ true → has j mine ≡ false
        → each (λ i. is_made (slice_get ps i)) t.inputs ≡ true
    before t now waits missing = each-both (λ i. is_made (slice_get (slice_set ps k q) i)) (λ i. is_made (slice_get ps i) || has_in j (slice_get readers i)) (λ i. is_made (slice_get ps i)) t.inputs now waits
        (λ i a b. elim (cases_eq i k) [
          | inl e ↦
              let out : has_in j (slice_get readers i) ≡ false = ap (λ n. has_in j (slice_get readers n)) e ∙ (ap (has_in j) listed ∙ missing) in
              left_of (is_made (slice_get ps i)) (has_in j (slice_get readers i)) b out
          | inr far ↦ sym (ap is_made (get_set_other ps k i q far)) ∙ a
        ])
      where
        left_of : (x y : Bool) → (x || y) ≡ true → y ≡ false → x ≡ true
        left_of true y h e = refl
        left_of false y h e = absurd cc

    wanted : is_ready ts (slice_set ps k q) j ≡ true → has j mine ≡ false → is_ready ts ps j ≡ true
    wanted now missing =
        let parts = and_parts (is_untaken (slice_get (slice_set ps k q) j)) (is_fed ts (slice_set ps k q) j) now in
        let old : is_untaken (slice_get ps j) ≡ true = sym (untaken_same j) ∙ parts.0 in
        let (t, is) = there (slice_get ts j) (slice_set ps k q) parts.1 in
        let fed_now : each (λ i. is_made (slice_get (slice_set ps k q) i)) t.inputs ≡ true = sym (fed_at ts (slice_set ps k q) j t is) ∙ parts.1 in
        let fed = before t fed_now (waked.waits j t is (untaken_some (slice_get ps j) old)) missing in
        and_from (is_untaken (slice_get ps j)) (is_fed ts ps j) old (fed_at ts ps j t is ∙ fed)

    stays : is_ready ts ps j ≡ true → is_ready ts (slice_set ps k q) j ≡ true
    stays then =
        let parts = and_parts (is_untaken (slice_get ps j)) (is_fed ts ps j) then in
        let (t, is) = there (slice_get ts j) ps parts.1 in
        let fed : each (λ i. is_made (slice_get ps i)) t.inputs ≡ true = sym (fed_at ts ps j t is) ∙ parts.1 in
        and_from (is_untaken (slice_get (slice_set ps k q) j)) (is_fed ts (slice_set ps k q) j) (untaken_same j ∙ parts.0)
        (fed_at ts (slice_set ps k q) j t is ∙ each-then (λ i. is_made (slice_get ps i)) (λ i. is_made (slice_get (slice_set ps k q) i)) t.inputs fed (λ role i takes h. more i h))

    join : (a b c : Bool) → (a ≡ true → c ≡ true) → (c ≡ true → b ≡ false → a ≡ true) → c ≡ a || (b && c)
    join true b c f g = f refl
    join false b true f g = elim b as (λ b. (true ≡ true → b ≡ false → false ≡ true) → true ≡ false || (b && true)) [ true ↦ λ g. refl | false ↦ λ g. sym (g refl refl) ] g
    join false true false f g = refl
    join false false false f g = refl

pub ready_within : (ts : List Task) (ps : List Progress) (k : ℕ) → is_ready ts ps k ≡ true → k < length ts
ready_within ts ps k h =
    let parts = and_parts (is_untaken (slice_get ps k)) (is_fed ts ps k) h in
    elim (cases_lt k (length ts)) [
      | inl low ↦ low
      | inr past ↦
          let none : is_fed ts ps k ≡ false = ap (λ o. option_map_or (λ (t : Task). each (λ i. is_made (slice_get ps i)) t.inputs) o false) (slice_get_past ts k past) in
          absurd (cc (none, parts.1))
    ]

pub offered_is : (ts : List Task) (ps : List Progress) → numbers (is_ready ts ps) (length ts) ≡ offered ts ps
unfolding offered
offered_is ts ps = refl
