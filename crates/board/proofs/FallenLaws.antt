-- What fails with a slot is what is unfinished and rests on it, and nothing else.
use Rattle.std.proofs.Common.{inl, inr, ◌≡◌, ◌≢◌, ◌∙◌, ℕ, zero, suc, ◌<◌, ◌≤◌, ◌&&◌, Bool, true, false, cond, List, [], ◌∷◌, length, not, Option, Some, None, slice_get, slice_set, refl, sym, ap, arith, subst, ◌⊎◌}
use Rattle.std.specs.Option.{option_map_or}
use Rattle.std.proofs.lemmas.Bool.{and_from, and_parts, cases_Bool, cases_eq, cases_lt}
use Rattle.std.proofs.lemmas.Option.{slice_get_within}
use Rattle.calls.specs.declared.role.Role.{Role}
use Rattle.calls.specs.declared.role.Role.TheVariants.{Old, Mask, First, Second}
use Rattle.calls.specs.declared.role.Roles.{Roles}
use Rattle.calls.specs.Roles.{role_of}
use Rattle.board.specs.Falls.{fall_at, fallen, fallen_below, falls}
use Rattle.stages.specs.Flows.{Flows}
use Rattle.stages.specs.Places.{each, passes}
use Rattle.stages.specs.Progress.{Progress, Untaken, Running, Joining, Made, Moved, Failed, allows, is_failed, is_made, is_underway, is_unfinished}
use Rattle.board.specs.Rests.{Leads, RestsOn}
use Rattle.stages.specs.Tasks.{Task}
use Rattle.board.proofs.FailLaws.{some_unfinished}
use Rattle.board.proofs.FallLaws.{fallen_unfolds}
use Rattle.stages.proofs.FlowLaws.{below}
use Rattle.stages.proofs.ListLaws.{get_set_other, get_set_same, get_there}
use Rattle.stages.proofs.PlaceLaws.{each-at}

-- ---- one step

-- a step changes its own slot alone
fall_other : (ts : List Task) (ps : List Progress) (n j : ℕ) → j ≢ n → slice_get (fall_at ts n ps) j ≡ slice_get ps j
fall_other ts ps n j far = either (falls ts ps n)
  where
    either : (b : Bool) → slice_get (cond b (slice_set ps n Failed) ps) j ≡ slice_get ps j
    either true = get_set_other ps n j Failed far
    either false = refl

fall_here : (ts : List Task) (ps : List Progress) (n : ℕ) (p : Progress) → slice_get ps n ≡ Some p → falls ts ps n ≡ true
    → slice_get (fall_at ts n ps) n ≡ Some Failed
fall_here ts ps n p at h = ap (λ b. slice_get (cond b (slice_set ps n Failed) ps) n) h ∙ get_set_same ps n Failed p at

fall_not : (ts : List Task) (ps : List Progress) (n : ℕ) → falls ts ps n ≡ false → fall_at ts n ps ≡ ps
fall_not ts ps n h = ap (λ b. cond b (slice_set ps n Failed) ps) h

failed_some : (o : Option Progress) → is_failed o ≡ true → o ≡ Some Failed
failed_some None h = absurd cc
failed_some (Some Untaken) h = absurd cc
failed_some (Some Running) h = absurd cc
failed_some (Some Joining) h = absurd cc
failed_some (Some Made) h = absurd cc
failed_some (Some Moved) h = absurd cc
failed_some (Some Failed) h = refl

-- what has failed stays so
fall_failed : (ts : List Task) (ps : List Progress) (n i : ℕ) → is_failed (slice_get ps i) ≡ true → is_failed (slice_get (fall_at ts n ps) i) ≡ true
fall_failed ts ps n i h = elim (cases_eq i n) [
  | inl e ↦ ap (λ m. is_failed (slice_get (fall_at ts n ps) m)) e ∙ here (falls ts ps n)
      (failed_some (slice_get ps n) (ap (λ m. is_failed (slice_get ps m)) (sym e) ∙ h))
  | inr far ↦ ap is_failed (fall_other ts ps n i far) ∙ h
]
  where
    here : (b : Bool) → slice_get ps n ≡ Some Failed → is_failed (slice_get (cond b (slice_set ps n Failed) ps) n) ≡ true
    here true at = ap is_failed (get_set_same ps n Failed Failed at)
    here false at = ap is_failed at

-- ---- all steps

untouched : (ts : List Task) (ps : List Progress) (n j : ℕ) → n ≤ j → slice_get (fallen_below ts n ps) j ≡ slice_get ps j
untouched ts ps zero j low = refl
untouched ts ps (suc n) j low = fall_other ts (fallen_below ts n ps) n j (omega (arith, low)) ∙ untouched ts ps n j (omega (arith, low))

stays_failed : (ts : List Task) (ps : List Progress) (i m n : ℕ) → m ≤ n → is_failed (slice_get (fallen_below ts m ps) i) ≡ true
    → is_failed (slice_get (fallen_below ts n ps) i) ≡ true
stays_failed ts ps i m zero low h =
    let e : m ≡ zero = omega (arith, low) in ap (λ x. is_failed (slice_get (fallen_below ts x ps) i)) (sym e) ∙ h
stays_failed ts ps i m (suc n) low h = elim (cases_lt n m) [
  | inl past ↦ let e : m ≡ suc n = omega (arith, low, past) in ap (λ x. is_failed (slice_get (fallen_below ts x ps) i)) (sym e) ∙ h
  | inr before ↦ fall_failed ts (fallen_below ts n ps) n i (stays_failed ts ps i m n before h)
]

-- ---- tests of inputs

passes_not : (p : ℕ → Bool) (o : Option ℕ) → passes p o ≡ false → (x : ℕ) × (o ≡ Some x) × (p x ≡ false)
passes_not p None h = absurd cc
passes_not p (Some x) h = (x, refl, h)

or_not : (a b : Bool) → (a && b) ≡ false → (a ≡ false) ⊎ (b ≡ false)
or_not true b h = inr h
or_not false b h = inl refl

-- one doesn't pass where not each does
each_not : (p : ℕ → Bool) (inputs : Roles ℕ) → each p inputs ≡ false → (role : Role) × (x : ℕ) × (role_of inputs role ≡ Some x) × (p x ≡ false)
each_not p inputs h = elim (or_not (passes p inputs.old) _ h) [
  | inl a ↦ let (x, is, no_pass) = passes_not p inputs.old a in (Old, x, is, no_pass)
  | inr r ↦ elim (or_not (passes p inputs.mask) _ r) [
    | inl a ↦ let (x, is, no_pass) = passes_not p inputs.mask a in (Mask, x, is, no_pass)
    | inr s ↦ elim (or_not (passes p inputs.first) _ s) [
      | inl a ↦ let (x, is, no_pass) = passes_not p inputs.first a in (First, x, is, no_pass)
      | inr b ↦ let (x, is, no_pass) = passes_not p inputs.second b in (Second, x, is, no_pass)
    ]
  ]
]

not_false : (b : Bool) → not b ≡ false → b ≡ true
not_false true h = refl
not_false false h = absurd cc

not_true : (b : Bool) → not b ≡ true → b ≡ false
not_true true h = absurd cc
not_true false h = refl

-- ---- a slot fails

module _ (ts : List Task) (ps : List Progress) (flows : Flows ts ps) (k : ℕ)
    (un : option_map_or is_unfinished (slice_get ps k) false ≡ true) where
  abbrev after : List Progress
  after = slice_set ps k Failed

  failed_now : slice_get after k ≡ Some Failed
  failed_now = let (p, at, u) = some_unfinished (slice_get ps k) un in get_set_same ps k Failed p at

  unfailed : (r : Progress) → is_unfinished r ≡ true → allows r (Some Failed) ≡ false
  unfailed Untaken h = refl
  unfailed Running h = refl
  unfailed Joining h = refl
  unfailed Made h = absurd cc
  unfailed Moved h = absurd cc
  unfailed Failed h = absurd cc

  -- an unfinished slot has no input that has failed before
  input_unfailed : (j : ℕ) (t : Task) (role : Role) (i : ℕ) → slice_get ts j ≡ Some t → role_of t.inputs role ≡ Some i
      → option_map_or is_unfinished (slice_get ps j) false ≡ true → is_failed (slice_get ps i) ≡ true → ⊥
  input_unfailed j t role i is takes unfinished h =
      let (r, at, u) = some_unfinished (slice_get ps j) unfinished in
      let a = each-at (λ x. allows r (slice_get ps x)) t.inputs (flows.allowed j t r is at) role i takes in
      let b : allows r (slice_get ps i) ≡ false = ap (allows r) (failed_some (slice_get ps i) h) ∙ unfailed r u in
      cc (a, b)

  -- ---- nothing else fails

  pub fell : (n j : ℕ) → (slice_get (fallen_below ts n after) j ≡ slice_get after j)
      ⊎ ((is_failed (slice_get (fallen_below ts n after) j) ≡ true) × (option_map_or is_unfinished (slice_get ps j) false ≡ true) × RestsOn ts j k)
  fell zero j = inl refl
  fell (suc n) j = elim (cases_eq j n) [
    | inl e ↦ elim (cases_Bool (falls ts (fallen_below ts n after) n)) [
      | inl h ↦ inr (here e h (λ i. fell n i))
      | inr h ↦ kept (fell n j) (ap (λ l. slice_get l j) (fall_not ts (fallen_below ts n after) n h))
    ]
    | inr far ↦ kept (fell n j) (fall_other ts (fallen_below ts n after) n j far)
  ]
    where
      kept : (slice_get (fallen_below ts n after) j ≡ slice_get after j)
          ⊎ ((is_failed (slice_get (fallen_below ts n after) j) ≡ true) × (option_map_or is_unfinished (slice_get ps j) false ≡ true) × RestsOn ts j k)
          → slice_get (fall_at ts n (fallen_below ts n after)) j ≡ slice_get (fallen_below ts n after) j
          → (slice_get (fall_at ts n (fallen_below ts n after)) j ≡ slice_get after j)
          ⊎ ((is_failed (slice_get (fall_at ts n (fallen_below ts n after)) j) ≡ true) × (option_map_or is_unfinished (slice_get ps j) false ≡ true) × RestsOn ts j k)
      kept (inl same) stays = inl (stays ∙ same)
      kept (inr other) stays = inr (ap is_failed stays ∙ other.0, other.1, other.2)

      rests : (t : Task) (role : Role) (i : ℕ) → slice_get ts n ≡ Some t → role_of t.inputs role ≡ Some i
          → option_map_or is_unfinished (slice_get ps n) false ≡ true → is_failed (slice_get (fallen_below ts n after) i) ≡ true
          → (slice_get (fallen_below ts n after) i ≡ slice_get after i)
          ⊎ ((is_failed (slice_get (fallen_below ts n after) i) ≡ true) × (option_map_or is_unfinished (slice_get ps i) false ≡ true) × RestsOn ts i k)
          → RestsOn ts n k
      rests t role i is takes unfinished failed (inr other) = (i ∷ other.2.0, ((t, is, (role, takes)), other.2.1))
      rests t role i is takes unfinished failed (inl same) = elim (cases_eq i k) [
        | inl e ↦ ([], (t, is, (role, takes ∙ ap Some e)))
        | inr far ↦ absurd (input_unfailed n t role i is takes unfinished
            (ap is_failed (sym (get_set_other ps k i Failed far)) ∙ (ap is_failed (sym same) ∙ failed)))
      ]

      here : j ≡ n → falls ts (fallen_below ts n after) n ≡ true
          → ((i : ℕ) → (slice_get (fallen_below ts n after) i ≡ slice_get after i)
          ⊎ ((is_failed (slice_get (fallen_below ts n after) i) ≡ true) × (option_map_or is_unfinished (slice_get ps i) false ≡ true) × RestsOn ts i k))
          → (is_failed (slice_get (fall_at ts n (fallen_below ts n after)) j) ≡ true) × (option_map_or is_unfinished (slice_get ps j) false ≡ true) × RestsOn ts j k
      here e h others =
          let parts = and_parts (option_map_or is_unfinished (slice_get (fallen_below ts n after) n) false) _ h in
          let (p, at, u) = some_unfinished (slice_get (fallen_below ts n after) n) parts.0 in
          let was : slice_get after n ≡ Some p = sym (untouched ts after n n (omega arith)) ∙ at in
          let far : n ≢ k = λ same. finished p u (sym was ∙ (ap (slice_get after) same ∙ failed_now)) in
          let before : slice_get ps n ≡ Some p = sym (get_set_other ps k n Failed far) ∙ was in
          let unfinished : option_map_or is_unfinished (slice_get ps n) false ≡ true = ap (λ o. option_map_or is_unfinished o false) before ∙ u in
          let (t, is, some) = task_of (slice_get ts n) refl parts.1 in
          let (role, i, takes, fails) = each_not (λ x. not (is_failed (slice_get (fallen_below ts n after) x))) t.inputs (not_true _ some) in (
            ap (λ m. is_failed (slice_get (fall_at ts n (fallen_below ts n after)) m)) e ∙ ap is_failed (fall_here ts (fallen_below ts n after) n p at h),
            ap (λ m. option_map_or is_unfinished (slice_get ps m) false) e ∙ unfinished,
            moved e (rests t role i is takes unfinished (not_false _ fails) (others i)),
          )
        where
          finished : (p : Progress) → is_unfinished p ≡ true → Some p ≡ Some Failed → ⊥
          finished p u same = let e : p ≡ Failed = cc (same) in let f : is_unfinished p ≡ false = ap is_unfinished e in cc (u, f)

          task_of : (o : Option Task) → slice_get ts n ≡ o
              → option_map_or (λ (t : Task). not (each (λ i. not (is_failed (slice_get (fallen_below ts n after) i))) t.inputs)) (slice_get ts n) false ≡ true
              → (t : Task) × (slice_get ts n ≡ Some t) × (not (each (λ i. not (is_failed (slice_get (fallen_below ts n after) i))) t.inputs) ≡ true)
          task_of None is h = absurd (let e : false ≡ true = sym (ap (λ o. option_map_or (λ (t : Task). not (each (λ i. not (is_failed (slice_get (fallen_below ts n after) i))) t.inputs)) o false) is) ∙ h in cc (e))
          task_of (Some t) is h = (t, is, sym (ap (λ o. option_map_or (λ (t : Task). not (each (λ i. not (is_failed (slice_get (fallen_below ts n after) i))) t.inputs)) o false) is) ∙ h)

          moved : j ≡ n → RestsOn ts n k → RestsOn ts j k
          moved e r = subst (λ m. RestsOn ts m k) (sym e) r

  -- ---- all that rest on it fail

  input_made : (i : ℕ) (t : Task) (role : Role) (x : ℕ) → slice_get ts i ≡ Some t → role_of t.inputs role ≡ Some x
      → is_made (slice_get ps i) ≡ true → is_made (slice_get ps x) ≡ true
  input_made i t role x is takes made =
      let (r, at, allowed) = made_some (slice_get ps i) made in
      sym (allowed (slice_get ps x)) ∙ each-at (λ y. allows r (slice_get ps y)) t.inputs (flows.allowed i t r is at) role x takes
    where
      made_some : (o : Option Progress) → is_made o ≡ true → (r : Progress) × (o ≡ Some r) × ((input : Option Progress) → allows r input ≡ is_made input)
      made_some None h = absurd cc
      made_some (Some Untaken) h = absurd cc
      made_some (Some Running) h = absurd cc
      made_some (Some Joining) h = absurd cc
      made_some (Some Made) h = (Made, refl, λ input. refl)
      made_some (Some Moved) h = (Moved, refl, λ input. refl)
      made_some (Some Failed) h = absurd cc

  made_below : (bs : List ℕ) (i : ℕ) → Leads ts i bs k → is_made (slice_get ps i) ≡ true → is_made (slice_get ps k) ≡ true
  made_below [] i (t, is, (role, takes)) made = input_made i t role k is takes made
  made_below (b ∷ bs) i ((t, is, (role, takes)), rest) made = made_below bs b rest (input_made i t role b is takes made)

  unmade : is_made (slice_get ps k) ≡ true → ⊥
  unmade h = let (p, at, u) = some_unfinished (slice_get ps k) un in finished p u (ap is_made (sym at) ∙ h)
    where
      finished : (p : Progress) → is_unfinished p ≡ true → is_made (Some p) ≡ true → ⊥
      finished Untaken u h = cc
      finished Running u h = cc
      finished Joining u h = cc
      finished Made u h = cc
      finished Moved u h = cc
      finished Failed u h = cc

  -- what stands between two unfinished slots is unfinished
  between : (j : ℕ) (t : Task) (role : Role) (i : ℕ) (bs : List ℕ) → slice_get ts j ≡ Some t → role_of t.inputs role ≡ Some i
      → option_map_or is_unfinished (slice_get ps j) false ≡ true → Leads ts i bs k → option_map_or is_unfinished (slice_get ps i) false ≡ true
  between j t role i bs is takes unfinished leads = go (slice_get ps i) refl
    where
      there : i < length ps
      there =
          let (r, at, u) = some_unfinished (slice_get ps j) unfinished in
          let l = slice_get_within ps j r at in
          let b : i < j = below ts ps j t role i flows is takes in omega (arith, b, l)

      go : (o : Option Progress) → slice_get ps i ≡ o → option_map_or is_unfinished (slice_get ps i) false ≡ true
      go None at = absurd (let (x, has) = get_there ps i there in cc (has, at))
      go (Some Untaken) at = ap (λ o. option_map_or is_unfinished o false) at
      go (Some Running) at = ap (λ o. option_map_or is_unfinished o false) at
      go (Some Joining) at = ap (λ o. option_map_or is_unfinished o false) at
      go (Some Made) at = absurd (unmade (made_below bs i leads (ap is_made at)))
      go (Some Moved) at = absurd (unmade (made_below bs i leads (ap is_made at)))
      go (Some Failed) at = absurd (input_unfailed j t role i is takes unfinished (ap is_failed at))

  -- when the walk comes to a slot with an input that has failed, it fails
  falls_at : (j : ℕ) (t : Task) (role : Role) (i : ℕ) → slice_get ts j ≡ Some t → role_of t.inputs role ≡ Some i
      → option_map_or is_unfinished (slice_get ps j) false ≡ true → j ≢ k → is_failed (slice_get (fallen_below ts j after) i) ≡ true
      → is_failed (slice_get (fallen_below ts (suc j) after) j) ≡ true
  falls_at j t role i is takes unfinished far failed =
      let (p, at, u) = some_unfinished (slice_get ps j) unfinished in
      let now : slice_get (fallen_below ts j after) j ≡ Some p = untouched ts after j j (omega arith) ∙ (get_set_other ps k j Failed far ∙ at) in
      let a : option_map_or is_unfinished (slice_get (fallen_below ts j after) j) false ≡ true = ap (λ o. option_map_or is_unfinished o false) now ∙ u in
      let not_all : each (λ x. not (is_failed (slice_get (fallen_below ts j after) x))) t.inputs ≡ false = elim (cases_Bool (each (λ x. not (is_failed (slice_get (fallen_below ts j after) x))) t.inputs)) [
        | inl all ↦ absurd (let n = each-at (λ x. not (is_failed (slice_get (fallen_below ts j after) x))) t.inputs all role i takes in let m = ap not failed in cc (n, m))
        | inr some ↦ some
      ] in
      let b : option_map_or (λ (u : Task). not (each (λ x. not (is_failed (slice_get (fallen_below ts j after) x))) u.inputs)) (slice_get ts j) false ≡ true =
      ap (λ o. option_map_or (λ (u : Task). not (each (λ x. not (is_failed (slice_get (fallen_below ts j after) x))) u.inputs)) o false) is ∙ ap not not_all in
      ap is_failed (fall_here ts (fallen_below ts j after) j p now (and_from _ _ a b))

  pub falls_with : (bs : List ℕ) (j : ℕ) → Leads ts j bs k → option_map_or is_unfinished (slice_get ps j) false ≡ true
      → is_failed (slice_get (fallen_below ts (suc j) after) j) ≡ true
  falls_with [] j (t, is, (role, takes)) unfinished =
      let b : k < j = below ts ps j t role k flows is takes in
      falls_at j t role k is takes unfinished (omega (arith, b)) (stays_failed ts after k zero j (omega arith) (ap is_failed failed_now))
  falls_with (i ∷ bs) j ((t, is, (role, takes)), rest) unfinished =
      let b : i < j = below ts ps j t role i flows is takes in
      let inner = between j t role i bs is takes unfinished rest in
      let fallen_i = falls_with bs i rest inner in
      falls_at j t role i is takes unfinished (above bs i j rest b) (stays_failed ts after i (suc i) j (omega (arith, b)) fallen_i)
    where
      leads_below : (bs : List ℕ) (i : ℕ) → Leads ts i bs k → k < i
      leads_below [] i (t, is, (role, takes)) = below ts ps i t role k flows is takes
      leads_below (b ∷ bs) i ((t, is, (role, takes)), rest) =
          let low : b < i = below ts ps i t role b flows is takes in
          let further = leads_below bs b rest in omega (arith, low, further)

      above : (bs : List ℕ) (i j : ℕ) → Leads ts i bs k → i < j → j ≢ k
      above bs i j leads low = let l = leads_below bs i leads in omega (arith, l, low)

  -- ---- what has failed then

  -- it had failed before, or is the slot, or was unfinished and rests on it
  pub fallen-only : (j : ℕ) → is_failed (slice_get (fallen ts (slice_set ps k Failed)) j) ≡ true
      → (is_failed (slice_get ps j) ≡ true) ⊎ ((j ≡ k) ⊎ ((option_map_or is_unfinished (slice_get ps j) false ≡ true) × RestsOn ts j k))
  fallen-only j h = elim (fell (length ts) j) [
    | inl same ↦ elim (cases_eq j k) [
      | inl e ↦ inr (inl e)
      | inr far ↦ inl (ap is_failed (sym (get_set_other ps k j Failed far)) ∙ (ap is_failed (sym same) ∙ (ap (λ l. is_failed (slice_get l j)) (fallen_unfolds ts (slice_set ps k Failed)) ∙ h)))
    ]
    | inr other ↦ inr (inr (other.1, other.2))
  ]

  -- the slot has failed, and all that was unfinished and rests on it
  pub fallen-all : (j : ℕ) → (j ≡ k) ⊎ ((option_map_or is_unfinished (slice_get ps j) false ≡ true) × RestsOn ts j k)
      → is_failed (slice_get (fallen ts (slice_set ps k Failed)) j) ≡ true
  fallen-all j (inl e) =
      ap (λ l. is_failed (slice_get l j)) (sym (fallen_unfolds ts (slice_set ps k Failed)))
      ∙ stays_failed ts (slice_set ps k Failed) j zero (length ts) (omega arith) (ap is_failed (ap (slice_get (slice_set ps k Failed)) e ∙ failed_now))
  fallen-all j (inr (unfinished, (bs, leads))) =
      let (p, at, u) = some_unfinished (slice_get ps j) unfinished in
      let l = slice_get_within ps j p at in
      ap (λ l. is_failed (slice_get l j)) (sym (fallen_unfolds ts (slice_set ps k Failed)))
      ∙ stays_failed ts (slice_set ps k Failed) j (suc j) (length ts) (omega (arith, l, flows.sized)) (falls_with bs j leads unfinished)

  -- and each other slot is as it was
  pub fallen-others : (j : ℕ) → is_failed (slice_get (fallen ts (slice_set ps k Failed)) j) ≡ false
      → slice_get (fallen ts (slice_set ps k Failed)) j ≡ slice_get ps j
  fallen-others j h = elim (fell (length ts) j) [
    | inl same ↦ elim (cases_eq j k) [
      | inl e ↦ absurd (let f = fallen-all j (inl e) in cc (f, h))
      | inr far ↦ ap (λ l. slice_get l j) (sym (fallen_unfolds ts (slice_set ps k Failed))) ∙ (same ∙ get_set_other ps k j Failed far)
    ]
    | inr other ↦ absurd (let f = fallen-all j (inr (other.1, other.2)) in cc (f, h))
  ]

  -- what somebody works on stays, whatever fails but itself: all that it rests on was made
  pub underway-stays : (j : ℕ) → j ≢ k → is_underway (slice_get ps j) ≡ true
      → slice_get (fallen ts (slice_set ps k Failed)) j ≡ slice_get ps j
  underway-stays j far under = elim (cases_Bool (is_failed (slice_get (fallen ts (slice_set ps k Failed)) j))) [
    | inr h ↦ fallen-others j h
    | inl h ↦ elim (fallen-only j h) [
      | inl before ↦ absurd (not_both (slice_get ps j) under before)
      | inr other ↦ elim other [
        | inl e ↦ absurd (far e)
        | inr rests ↦ absurd (unmade (leads_made rests.1.0 rests.1.1))
      ]
    ]
  ]
    where
      not_both : (o : Option Progress) → is_underway o ≡ true → is_failed o ≡ true → ⊥
      not_both None u f = cc
      not_both (Some Untaken) u f = cc
      not_both (Some Running) u f = cc
      not_both (Some Joining) u f = cc
      not_both (Some Made) u f = cc
      not_both (Some Moved) u f = cc
      not_both (Some Failed) u f = cc

      made_first : (o : Option Progress) → is_underway o ≡ true → (r : Progress) × (o ≡ Some r) × ((input : Option Progress) → allows r input ≡ is_made input)
      made_first None u = absurd cc
      made_first (Some Untaken) u = absurd cc
      made_first (Some Running) u = (Running, refl, λ input. refl)
      made_first (Some Joining) u = (Joining, refl, λ input. refl)
      made_first (Some Made) u = absurd cc
      made_first (Some Moved) u = absurd cc
      made_first (Some Failed) u = absurd cc

      input_of : (t : Task) (role : Role) (i : ℕ) → slice_get ts j ≡ Some t → role_of t.inputs role ≡ Some i → is_made (slice_get ps i) ≡ true
      input_of t role i is takes =
          let (r, at, allowed) = made_first (slice_get ps j) under in
          sym (allowed (slice_get ps i)) ∙ each-at (λ y. allows r (slice_get ps y)) t.inputs (flows.allowed j t r is at) role i takes

      leads_made : (bs : List ℕ) → Leads ts j bs k → is_made (slice_get ps k) ≡ true
      leads_made [] (t, is, (role, takes)) = input_of t role k is takes
      leads_made (b ∷ bs) ((t, is, (role, takes)), rest) = made_below bs b rest (input_of t role b is takes)
