-- Two fibers walked side by side for the inner indices that both have.
use Rattle.std.proofs.Common.{◌≡◌, ℕ, ◌+◌, ◌<◌, ◌≤◌, Bool, true, false, eqb, leb, List, [], ◌∷◌, ◌++◌, length, get_or, set, take, drop, Some, None, refl, sym, ◌∙◌, ap, subst, inl, inr, arith, append_assoc, length-drop, length-take}
use Rattle.std.specs.List.{AllPairs}
use Rattle.std.proofs.lemmas.Bool.{cases_eq, cases_order}
use Rattle.std.proofs.lemmas.Bool.Decides.{nat_tests}
use Rattle.std.proofs.lemmas.List.{append-nil, drop_more, get_or-drop, get_or-take, get_or_default, take-set, take_more_set}
use Rattle.lanes.specs.Lists.{zip_with}
use Rattle.model.specs.declared.entry.Entry.{Entry}
use Rattle.model.specs.Entries.{entry_at, word_at}
use Rattle.store.specs.Fibers.{entries_along}
use Rattle.store.proofs.Places.{length_row, row_at}
use Rattle.masks.proofs.Keeps.{IsFirstFrom, word_absent, word_found}
use Rattle.elementwise.specs.Meets.{met}
use Rattle.elementwise.proofs.Meets.{meets, met_cons, met_none}

-- the first i indices of a were looked at and the first j of b, and k of them were found
pub record IsPairing (a aw b bw : List ℕ) (i j k : ℕ) (inner lefts rights : List ℕ) : Type 0 where
  pub so_far : (outer : ℕ) (f : ℕ → ℕ → ℕ) → entries_along outer (take k inner)
      (zip_with f (take k lefts) (take k rights)) ++ met f (drop i (entries_along outer a aw))
      (entries_along outer b bw) ≡ met f (entries_along outer a aw) (entries_along outer b bw)
  pub below : (n m : ℕ) → n < j → i ≤ m → m < length a → get_or b n 0 < get_or a m 0
  pub few : k ≤ i
  pub a_in : i ≤ length a
  pub b_in : j ≤ length b

pub pairing_none : (a aw b bw inner lefts rights : List ℕ) → IsPairing a aw b bw 0 0 0 inner lefts rights
pairing_none a aw b bw inner lefts rights = record {
  so_far = λ outer f. refl;
  below = λ n m low from within. absurd (omega arith);
  few = omega arith;
  a_in = omega arith;
  b_in = omega arith;
}

along_more : (outer : ℕ) (f : ℕ → ℕ → ℕ) (xs ls rs : List ℕ) (x l r : ℕ) → length ls ≡ length xs → length rs ≡ length xs
    → entries_along outer (xs ++ x ∷ [])
    (zip_with f (ls ++ l ∷ []) (rs ++ r ∷ [])) ≡ entries_along outer xs (zip_with f ls rs) ++ entry_at outer x (f l r) ∷ []
along_more outer f [] [] [] x l r sl sr = refl
along_more outer f [] (q ∷ ls) rs x l r sl sr = absurd (omega arith)
along_more outer f [] [] (q ∷ rs) x l r sl sr = absurd (omega arith)
along_more outer f (y ∷ xs) [] rs x l r sl sr = absurd (omega arith)
along_more outer f (y ∷ xs) (q ∷ ls) [] x l r sl sr = absurd (omega arith)
along_more outer f (y ∷ xs) (q ∷ ls) (p ∷ rs) x l r sl sr = ap (λ es. entry_at outer y (f q p) ∷ es) (along_more outer f xs ls rs x l r (omega arith) (omega arith))

-- the numbers up to a place of the other side are below an index
first_from : (a b : List ℕ) (i j m : ℕ) → ((n m : ℕ) → n < j → i ≤ m → m < length a → get_or b n 0 < get_or a m 0)
    → i ≤ m → m < length a → j ≤ length b → (j < length b → get_or a m 0 ≤ get_or b j 0)
    → IsFirstFrom (get_or a m 0) b j
first_from a b i j m below from within bound next = record {
  bound = bound;
  before = λ n d inside.
      let low : n < j = omega (arith, length-take j b) in
      rw (get_or-take j b n d low, get_or_default b n d 0 (omega arith)) (below n m low from within);
  next = next;
}

-- an index of a that b doesn't have
pub pass_left : (a aw b bw : List ℕ) (i j k : ℕ) (inner lefts rights : List ℕ) (x l r : ℕ)
    → IsPairing a aw b bw i j k inner lefts rights
    → length aw ≡ length a → length bw ≡ length b → AllPairs (λ p q. p < q) a → AllPairs (λ p q. p < q) b
    → i < length a → j < length b → get_or a i 0 < get_or b j 0
    → IsPairing a aw b bw (i + 1) j k (set inner k x) (set lefts k l) (set rights k r)
pass_left a aw b bw i j k inner lefts rights x l r here sa sb ra rb some some' less =
    let few = here.few in
    let b_in = here.b_in in
    record {
      so_far = λ outer f.
          let es = entries_along outer a aw in
          let fs = entries_along outer b bw in
          let d = entry_at 0 0 0 in
          let long = length_row outer a aw sa in
          let p = get_or a i 0 in
          let w = get_or aw i 0 in
          let at : get_or es i d ≡ entry_at outer p w = row_at outer a aw i d sa some in
          let first = first_from a b i j i here.below (omega arith) some b_in (λ _. omega arith) in
          let none : word_at fs outer p ≡ None = word_absent outer p b bw j sb rb first (λ _ same. absurd (omega arith)) in
          let split : drop i es ≡ entry_at outer p w ∷ drop (i + 1) es = drop_more es i d (omega arith) ∙ ap (λ e. e ∷ drop (i + 1) es) at in
          let skip : met f (drop i es) fs ≡ met f (drop (i + 1) es) fs = ap (λ zs. met f zs fs) split ∙ met_cons f (entry_at outer p w) (drop (i + 1) es) fs ∙ ap (λ o. meets f (entry_at outer p w) o (met f (drop (i + 1) es) fs)) none in
          rw (take-set inner k x, take-set lefts k l, take-set rights k r) (ap (λ zs. entries_along outer (take k inner) (zip_with f (take k lefts) (take k rights)) ++ zs) (sym skip) ∙ here.so_far outer f);
      below = λ n m low from within. here.below n m low (omega arith) within;
      few = omega arith;
      a_in = omega arith;
      b_in = b_in;
    }

-- an index of b that a doesn't have
pub pass_right : (a aw b bw : List ℕ) (i j k : ℕ) (inner lefts rights : List ℕ) (x l r : ℕ)
    → IsPairing a aw b bw i j k inner lefts rights
    → AllPairs (λ p q. p < q) a → AllPairs (λ p q. p < q) b → i < length a → j < length b → get_or b j 0 < get_or a i 0
    → IsPairing a aw b bw i (j + 1) k (set inner k x) (set lefts k l) (set rights k r)
pass_right a aw b bw i j k inner lefts rights x l r here ra rb some some' less = record {
  so_far = λ outer f. rw (take-set inner k x, take-set lefts k l, take-set rights k r) (here.so_far outer f);
  below = λ n m low from within.
      elim (cases_eq n j) [
        | inl same ↦
            let up : get_or a i 0 ≤ get_or a m 0 = elim (cases_eq i m) [
              | inl at ↦ rw at (omega arith)
              | inr away ↦ let more = ra i m 0 (omega arith) within in omega arith
            ] in
            rw same (omega arith)
        | inr other ↦ here.below n m (omega arith) from within
      ];
  few = here.few;
  a_in = here.a_in;
  b_in = omega arith;
}

-- an index that both have
pub pair_more : (a aw b bw : List ℕ) (i j k : ℕ) (inner lefts rights : List ℕ)
    → IsPairing a aw b bw i j k inner lefts rights
    → length aw ≡ length a → length bw ≡ length b → AllPairs (λ p q. p < q) a → AllPairs (λ p q. p < q) b
    → length a ≤ length inner → length lefts ≡ length inner → length rights ≡ length inner → i < length a
    → j < length b → get_or a i 0 ≡ get_or b j 0
    → IsPairing a aw b bw (i + 1) (j + 1) (k + 1) (set inner k (get_or a i 0)) (set lefts k (get_or aw i 0))
    (set rights k (get_or bw j 0))
pair_more a aw b bw i j k inner lefts rights here sa sb ra rb space sl sr some some' same =
    let few = here.few in
    record {
      so_far = λ outer f.
          let es = entries_along outer a aw in
          let fs = entries_along outer b bw in
          let d = entry_at 0 0 0 in
          let long = length_row outer a aw sa in
          let p = get_or a i 0 in
          let w = get_or aw i 0 in
          let v = get_or bw j 0 in
          let at : get_or es i d ≡ entry_at outer p w = row_at outer a aw i d sa some in
          let found : word_at fs outer p ≡ Some v = word_found outer p b bw j sb rb some' (sym same) in
          let split : drop i es ≡ entry_at outer p w ∷ drop (i + 1) es = drop_more es i d (omega arith) ∙ ap (λ e. e ∷ drop (i + 1) es) at in
          let rest = met f (drop (i + 1) es) fs in
          let step : met f (drop i es) fs ≡ entry_at outer p (f w v) ∷ rest = ap (λ zs. met f zs fs) split ∙ met_cons f (entry_at outer p w) (drop (i + 1) es) fs ∙ ap (λ o. meets f (entry_at outer p w) o rest) found in
          let front = entries_along outer (take k inner) (zip_with f (take k lefts) (take k rights)) in
          let more : entries_along outer (take (k + 1) (set inner k p)) (zip_with f (take (k + 1) (set lefts k w)) (take (k + 1) (set rights k v))) ≡ front ++ entry_at outer p (f w v) ∷ [] =
          rw (take_more_set inner k p (omega arith), take_more_set lefts k w (omega arith), take_more_set rights k v (omega arith))
          (along_more outer f (take k inner) (take k lefts) (take k rights) p w v (omega (arith, length-take k inner, length-take k lefts)) (omega (arith, length-take k inner, length-take k rights))) in
          ap (λ zs. zs ++ rest) more ∙ append_assoc front (entry_at outer p (f w v) ∷ []) rest ∙ ap (λ zs. front ++ zs) (sym step) ∙ here.so_far outer f;
      below = λ n m low from within.
          elim (cases_eq n j) [
            | inl is ↦ let more = ra i m 0 (omega arith) within in rw is (omega arith)
            | inr other ↦ here.below n m (omega arith) (omega arith) within
          ];
      few = omega arith;
      a_in = omega arith;
      b_in = omega arith;
    }

-- what the next two indices choose
pub pairing_step : (a aw b bw : List ℕ) (i j k : ℕ) (inner lefts rights : List ℕ) (by_i by_j by_k : ℕ)
    (number : Bool → ℕ) → IsPairing a aw b bw i j k inner lefts rights
    → length aw ≡ length a → length bw ≡ length b → AllPairs (λ p q. p < q) a → AllPairs (λ p q. p < q) b
    → length a ≤ length inner → length lefts ≡ length inner → length rights ≡ length inner → i < length a
    → j < length b
    → by_k ≡ number (eqb (get_or a i 0) (get_or b j 0)) → by_i ≡ number (leb (get_or a i 0) (get_or b j 0))
    → by_j ≡ number (leb (get_or b j 0) (get_or a i 0)) → number true ≡ 1 → number false ≡ 0
    → IsPairing a aw b bw (i + by_i) (j + by_j) (k + by_k) (set inner k (get_or a i 0)) (set lefts k (get_or aw i 0))
    (set rights k (get_or bw j 0))
pairing_step a aw b bw i j k inner lefts rights by_i by_j by_k number here sa sb ra rb space sl sr some some' step_k step_i step_j is_1 is_0 =
    let p = get_or a i 0 in
    let q = get_or b j 0 in
    elim (cases_order p q) [
      | inr (inl less) ↦
          let up : leb p q ≡ true = grind (arith, nat_tests) in
          let down : leb q p ≡ false = grind (arith, nat_tests) in
          let apart : eqb p q ≡ false = grind (arith, nat_tests) in
          let e1 : by_i ≡ 1 = (rw up at step_i) ∙ is_1 in
          let e2 : by_j ≡ 0 = (rw down at step_j) ∙ is_0 in
          let e3 : by_k ≡ 0 = (rw apart at step_k) ∙ is_0 in
          let j_is : j + 0 ≡ j = omega arith in
          let k_is : k + 0 ≡ k = omega arith in
          rw (e1, e2, e3, j_is, k_is) (pass_left a aw b bw i j k inner lefts rights p (get_or aw i 0) (get_or bw j 0) here sa sb ra rb some some' less)
      | inl same ↦
          let up : leb p q ≡ true = grind (arith, nat_tests) in
          let down : leb q p ≡ true = grind (arith, nat_tests) in
          let at : eqb p q ≡ true = grind (arith, nat_tests) in
          let e1 : by_i ≡ 1 = (rw up at step_i) ∙ is_1 in
          let e2 : by_j ≡ 1 = (rw down at step_j) ∙ is_1 in
          let e3 : by_k ≡ 1 = (rw at at step_k) ∙ is_1 in
          rw (e1, e2, e3) (pair_more a aw b bw i j k inner lefts rights here sa sb ra rb space sl sr some some' same)
      | inr (inr more) ↦
          let up : leb p q ≡ false = grind (arith, nat_tests) in
          let down : leb q p ≡ true = grind (arith, nat_tests) in
          let apart : eqb p q ≡ false = grind (arith, nat_tests) in
          let e1 : by_i ≡ 0 = (rw up at step_i) ∙ is_0 in
          let e2 : by_j ≡ 1 = (rw down at step_j) ∙ is_1 in
          let e3 : by_k ≡ 0 = (rw apart at step_k) ∙ is_0 in
          let i_is : i + 0 ≡ i = omega arith in
          let k_is : k + 0 ≡ k = omega arith in
          rw (e1, e2, e3, i_is, k_is) (pass_right a aw b bw i j k inner lefts rights p (get_or aw i 0) (get_or bw j 0) here ra rb some some' more)
    ]

-- where one side is at its end all are found
pub pairing_all : (a aw b bw : List ℕ) (i j k : ℕ) (inner lefts rights : List ℕ)
    → IsPairing a aw b bw i j k inner lefts rights → length aw ≡ length a → length bw ≡ length b
    → AllPairs (λ p q. p < q) b → (i < length a → length b ≤ j)
    → (outer : ℕ) (f : ℕ → ℕ → ℕ) → entries_along outer (take k inner)
    (zip_with f (take k lefts) (take k rights)) ≡ met f (entries_along outer a aw) (entries_along outer b bw)
pairing_all a aw b bw i j k inner lefts rights here sa sb rb over outer f =
    let es = entries_along outer a aw in
    let fs = entries_along outer b bw in
    let front = entries_along outer (take k inner) (zip_with f (take k lefts) (take k rights)) in
    let long = length_row outer a aw sa in
    let d = entry_at 0 0 0 in
    let none : met f (drop i es) fs ≡ [] = met_none f (drop i es) fs (λ n e within.
    let room : i + n < length a = omega (arith, length-drop i es) in
    let b_in = here.b_in in
    let done = over (omega arith) in
    let at : get_or (drop i es) n e ≡ entry_at outer (get_or a (i + n) 0) (get_or aw (i + n) 0) = get_or-drop i es n e ∙ row_at outer a aw (i + n) e sa room in
    let first = first_from a b i j (i + n) here.below (omega arith) room b_in (λ more. absurd (omega arith)) in
    let absent : word_at fs outer (get_or a (i + n) 0) ≡ None = word_absent outer (get_or a (i + n) 0) b bw j sb rb first (λ more. absurd (omega arith)) in
    subst (λ (z : Entry). word_at fs z.row z.col ≡ None) (sym at) absent) in
    sym (append-nil front) ∙ ap (λ zs. front ++ zs) (sym none) ∙ here.so_far outer f
