-- The number at a place among those that pass one of two tests.
use Rattle.std.proofs.Common.{inl, inr, ◌≡◌, ◌∙◌, ℕ, zero, suc, ◌+◌, ◌-◌, ◌<◌, ◌≤◌, ◌||◌, Bool, true, false, cond, [], ◌∷◌, ◌++◌, length, Some, slice_get, refl, sym, ap, arith, subst}
use Rattle.std.proofs.lemmas.Bool.{cases_Bool, cases_eq, cases_lt}
use Rattle.std.proofs.lemmas.List.{append-nil}
use Rattle.std.proofs.lemmas.Option.{slice_get_within}
use Rattle.stages.specs.Numbers.{IsPlace, numbers}
use Rattle.board.specs.Picks.{IsPicked}
use Rattle.board.specs.declared.picking.Picked.TheVariants.{Ready, Open}
use Rattle.stages.proofs.ListLaws.{get_end, get_left, get_there, length_snoc}
use Rattle.stages.proofs.NumberLaws.{numbers_below, numbers_rise}

-- how many pass below n
abbrev pub rank : (ℕ → Bool) → ℕ → ℕ
rank p n = length (numbers p n)

passes : (p : ℕ → Bool) (n : ℕ) → p n ≡ true → numbers p (suc n) ≡ numbers p n ++ n ∷ []
passes p n h = ap (λ b. numbers p n ++ (cond b (n ∷ []) [])) h

pub fails : (p : ℕ → Bool) (n : ℕ) → p n ≡ false → numbers p (suc n) ≡ numbers p n
fails p n h = ap (λ b. numbers p n ++ (cond b (n ∷ []) [])) h ∙ append-nil (numbers p n)

rank_passes : (p : ℕ → Bool) (n : ℕ) → p n ≡ true → rank p (suc n) ≡ suc (rank p n)
rank_passes p n h = ap length (passes p n h) ∙ length_snoc (numbers p n) n

rank_fails : (p : ℕ → Bool) (n : ℕ) → p n ≡ false → rank p (suc n) ≡ rank p n
rank_fails p n h = ap length (fails p n h)

rank_rises : (p : ℕ → Bool) (a b : ℕ) → a ≤ b → rank p a ≤ rank p b
rank_rises p a zero low = let e : a ≡ 0 = omega (arith, low) in subst (λ n. rank p n ≤ rank p 0) (sym e) (omega arith)
rank_rises p a (suc b) low = elim (cases_eq a (suc b)) [
  | inl e ↦ subst (λ n. rank p n ≤ rank p (suc b)) (sym e) (omega arith)
  | inr far ↦
      let rest = rank_rises p a b (omega (arith, low, far)) in
      elim (cases_Bool (p b)) [
        | inl h ↦ omega (arith, rest, rank_passes p b h)
        | inr h ↦ omega (arith, rest, rank_fails p b h)
      ]
]

rank_above : (p : ℕ → Bool) (a b : ℕ) → p a ≡ true → a < b → rank p a + 1 ≤ rank p b
rank_above p a b h low = omega (arith, rank_passes p a h, rank_rises p (suc a) b (omega (arith, low)))

-- those below a number are the first
first_are : (p : ℕ → Bool) (k n i : ℕ) → k ≤ n → i < rank p k → slice_get (numbers p n) i ≡ slice_get (numbers p k) i
first_are p k zero i low less = let e : k ≡ 0 = omega (arith, low) in ap (λ m. slice_get (numbers p m) i) (sym e)
first_are p k (suc n) i low less = elim (cases_eq k (suc n)) [
  | inl e ↦ ap (λ m. slice_get (numbers p m) i) (sym e)
  | inr far ↦
      let under : k ≤ n = omega (arith, low, far) in
      get_left (numbers p n) (cond (p n) (n ∷ []) []) i (omega (arith, less, rank_rises p k n under))
      ∙ first_are p k n i under less
]

at_rank : (p : ℕ → Bool) (n k : ℕ) → p k ≡ true → k < n → slice_get (numbers p n) (rank p k) ≡ Some k
at_rank p n k h low =
    first_are p (suc k) n (rank p k) (omega (arith, low)) (omega (arith, rank_passes p k h))
    ∙ (ap (λ l. slice_get l (rank p k)) (passes p k h) ∙ get_end (numbers p k) k (rank p k) refl)

rank_at : (p : ℕ → Bool) (n i k : ℕ) → slice_get (numbers p n) i ≡ Some k → i ≡ rank p k
rank_at p n i k at =
    let low = numbers_below p n i k at in
    let there = at_rank p n k low.1 low.0 in
    elim (cases_eq i (rank p k)) [
      | inl e ↦ e
      | inr far ↦ elim (cases_lt i (rank p k)) [
        | inl less ↦ absurd (let r = numbers_rise p n i (rank p k) k k less at there in omega (arith, r))
        | inr more ↦ absurd (let r = numbers_rise p n (rank p k) i k k (omega (arith, more, far)) there at in omega (arith, r))
      ]
    ]

-- the place of a number is how many are below it
pub place_is : (p : ℕ → Bool) (n k place : ℕ) → IsPlace (numbers p n) k place → k ≤ n → place ≡ rank p k
place_is p n k place is low = elim (cases_lt place (rank p k)) [
  | inl less ↦
      let (x, here) = get_there (numbers p k) place less in
      let below = numbers_below p k place x here in
      let above = is.above place x (omega arith) (first_are p k n place low less ∙ here) in
      absurd (let b = below.0 in omega (arith, b, above))
  | inr more ↦ elim (cases_eq place (rank p k)) [
    | inl e ↦ e
    | inr far ↦ absurd (not_more place (omega (arith, more, far)) refl)
  ]
]
  where
    not_more : (c : ℕ) → rank p k < c → place ≡ c → ⊥
    not_more zero high e = omega (arith, high)
    not_more (suc m) high e =
        let within = is.within in
        let (x, there) = get_there (numbers p n) m (omega (arith, within, e)) in
        let less = is.below m x (sym e) there in
        let at = rank_at p n m x there in
        let pass = (numbers_below p n m x there).1 in
        let r = rank_above p x k pass less in
        omega (arith, high, at, r)

-- no number passes both tests
pub rank_either : (p q : ℕ → Bool) → ((k : ℕ) → p k ≡ true → q k ≡ true → ⊥) → (n : ℕ) → rank (λ j. p j || q j) n ≡ rank p n + rank q n
rank_either p q apart zero = refl
rank_either p q apart (suc n) =
    let rest = rank_either p q apart n in
    elim (cases_Bool (p n)) [
      | inl a ↦ elim (cases_Bool (q n)) [
        | inl b ↦ absurd (apart n a b)
        | inr b ↦ omega (arith, rest, rank_passes p n a, rank_fails q n b, rank_passes (λ j. p j || q j) n (ap (λ x. x || q n) a))
      ]
      | inr a ↦ elim (cases_Bool (q n)) [
        | inl b ↦ omega (arith, rest, rank_fails p n a, rank_passes q n b, rank_passes (λ j. p j || q j) n (ap (λ x. x || q n) a ∙ b))
        | inr b ↦ omega (arith, rest, rank_fails p n a, rank_fails q n b, rank_fails (λ j. p j || q j) n (ap (λ x. x || q n) a ∙ b))
      ]
    ]

or_second : (x y : Bool) → y ≡ true → (x || y) ≡ true
or_second true y h = refl
or_second false y h = h

module _ (p q : ℕ → Bool) (n : ℕ) (apart : (k : ℕ) → p k ≡ true → q k ≡ true → ⊥) where
  -- the second list's number at a place
  pub picked_open : (before k at place : ℕ) → slice_get (numbers q n) before ≡ Some k → IsPlace (numbers p n) k at → at + before ≡ place
      → IsPicked p q n place (Open k)
  picked_open before k at place there is sum =
      let low = numbers_below q n before k there in
      let a = place_is p n k at is (let l = low.0 in omega (arith, l)) in
      let b = rank_at q n before k there in
      let here : place ≡ rank (λ j. p j || q j) k = omega (arith, a, b, sum, rank_either p q apart k) in (
        low.1,
        ap (slice_get (numbers (λ j. p j || q j) n)) here ∙ at_rank (λ j. p j || q j) n k (or_second (p k) (q k) low.1) low.0,
      )

  -- the first list's, behind so many of the second
  picked_from : (at k place : ℕ) → slice_get (numbers p n) at ≡ Some k → at + rank q k ≡ place → IsPicked p q n place (Ready at)
  picked_from at k place there sum =
      let low = numbers_below p n at k there in
      let a = rank_at p n at k there in
      let here : place ≡ rank (λ j. p j || q j) k = omega (arith, a, sum, rank_either p q apart k) in (
        k,
        there,
        ap (slice_get (numbers (λ j. p j || q j) n)) here ∙ at_rank (λ j. p j || q j) n k (ap (λ x. x || q k) low.1) low.0,
      )

  -- the numbers of the second list before a number of the first
  at_least : (at k place before : ℕ) → slice_get (numbers p n) at ≡ Some k → at + before ≡ place → before ≤ length (numbers q n)
      → ((j : ℕ) (m c : ℕ) → suc j ≡ before → slice_get (numbers q n) j ≡ Some m → c ≡ rank p m → c + j < place)
      → before ≤ rank q k
  at_least at k place zero there sum few less = omega arith
  at_least at k place (suc j) there sum few less =
      let (m, last) = get_there (numbers q n) j (omega (arith, few)) in
      let under = less j m (rank p m) refl last refl in
      let a = rank_at p n at k there in
      let b = rank_at q n j m last in
      let pass = (numbers_below p n at k there).1 in
      let pass_m = (numbers_below q n j m last).1 in
      elim (cases_lt m k) [
        | inl low ↦ let r = rank_above q m k pass_m low in omega (arith, b, r)
        | inr high ↦ elim (cases_eq k m) [
          | inl same ↦ absurd (apart k pass (subst (λ x. q x ≡ true) (sym same) pass_m))
          | inr far ↦ absurd (let r = rank_above p k m pass (omega (arith, high, far)) in omega (arith, a, r, under, sum))
        ]
      ]

  -- ..where the next of the second list stands behind the place
  pub picked_before : (before m c place : ℕ) → slice_get (numbers q n) before ≡ Some m → IsPlace (numbers p n) m c → place < c + before → before ≤ place
      → ((j x d : ℕ) → suc j ≡ before → slice_get (numbers q n) j ≡ Some x → d ≡ rank p x → d + j < place)
      → IsPicked p q n place (Ready (place - before))
  picked_before before m c place next is past some less =
      let within = is.within in
      let low = numbers_below q n before m next in
      let at_m = place_is p n m c is (let l = low.0 in omega (arith, l)) in
      let (k, there) = get_there (numbers p n) (place - before) (omega (arith, within, past, some)) in
      let a = rank_at p n (place - before) k there in
      let b = rank_at q n before m next in
      let few = slice_get_within (numbers q n) before m next in
      let least = at_least (place - before) k place before there (omega (arith, some)) (omega (arith, few)) less in
      let most : rank q k ≤ before = elim (cases_lt k m) [
        | inl lower ↦ let r = rank_rises q k m (omega (arith, lower)) in omega (arith, r, b)
        | inr high ↦ absurd (let r = rank_rises p m k high in omega (arith, r, a, at_m, past, some))
      ] in
      picked_from (place - before) k place there (omega (arith, least, most, some))

  -- ..where none of the second list is left
  pub picked_last : (before place : ℕ) → before ≡ length (numbers q n) → place < length (numbers p n) + before → before ≤ place
      → ((j x d : ℕ) → suc j ≡ before → slice_get (numbers q n) j ≡ Some x → d ≡ rank p x → d + j < place)
      → IsPicked p q n place (Ready (place - before))
  picked_last before place all within some less =
      let (k, there) = get_there (numbers p n) (place - before) (omega (arith, within, some)) in
      let low = (numbers_below p n (place - before) k there).0 in
      let least = at_least (place - before) k place before there (omega (arith, some)) (omega (arith, all)) less in
      let most = rank_rises q k n (omega (arith, low)) in
      picked_from (place - before) k place there (omega (arith, least, most, all, some))
