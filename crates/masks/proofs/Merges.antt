-- The merge of two fibers, as a merge of their entries at each outer index.
use Rattle.std.proofs.Common.{◌≡◌, ◌⊎◌, ℕ, ◌+◌, ◌*◌, ◌<◌, ◌≤◌, Bool, true, false, leb, List, [], ◌∷◌, length, get_or, set, take, drop, refl, sym, ◌∙◌, ap, subst, inl, inr, arith, length-drop, length-set}
use Rattle.std.specs.Prelude.{replicate}
use Rattle.std.specs.List.{All, AllPairs}
use Rattle.std.proofs.lemmas.Bool.{cases_eq, cases_order}
use Rattle.std.proofs.lemmas.Bool.Decides.{nat_tests}
use Rattle.std.proofs.lemmas.List.{length-replicate, get_or-replicate, set-get_or, take-replicate, get_or-drop, take_all}
use Rattle.model.specs.Entries.{Precedes, entry_at}
use Rattle.store.specs.Fibers.{entries_along}
use Rattle.store.proofs.FlatLaws.{row_in_order}
use Rattle.masks.specs.Merges.{IsMerge, Place, position}
use Rattle.store.proofs.Order.{all_pairs_cons, all_pairs_head, all_pairs_nil, all_pairs_tail, all_from_map}
use Rattle.masks.proofs.Merging.{IsMerging, merging_none, left_more, right_more, both_more}
use Rattle.store.proofs.Places.{length_row, row_at}

pub record IsAlong (a aw b bw : List ℕ) (i j k : ℕ) (cols lefts rights sides : List ℕ) : Type 0 where
  pub merging : (outer : ℕ) → IsMerging (entries_along outer a aw)
      (entries_along outer b bw) i j k (replicate (length cols) outer) cols lefts rights sides
  pub room : k ≤ i + j
  pub a_in : i ≤ length a
  pub b_in : j ≤ length b

pub along_none : (a aw b bw cols lefts rights sides : List ℕ) → IsAlong a aw b bw 0 0 0 cols lefts rights sides
along_none a aw b bw cols lefts rights sides = record {
  merging = λ outer. merging_none (entries_along outer a aw) (entries_along outer b bw) (replicate (length cols) outer) cols lefts rights sides;
  room = omega arith;
  a_in = omega arith;
  b_in = omega arith;
}

same_rows : (n k outer : ℕ) → k < n → set (replicate n outer) k outer ≡ replicate n outer
same_rows n k outer within = ap (λ o. set (replicate n outer) k o) (sym (get_or-replicate n k outer 0 within)) ∙ set-get_or (replicate n outer) k 0

-- the first of what is left stands before all that is left on the other side
ahead : (outer x xw : ℕ) (b bw : List ℕ) (j : ℕ) → length bw ≡ length b → AllPairs (λ p q. p < q) b
    → (j < length b → x < get_or b j 0) → All (Precedes (entry_at outer x xw)) (drop j (entries_along outer b bw))
ahead outer x xw b bw j same rises less n d within =
    let long = length_row outer b bw same in
    let room : j + n < length b = omega (arith, length-drop j (entries_along outer b bw)) in
    let first = less (omega arith) in
    let at : x < get_or b (j + n) 0 = elim (cases_eq n 0) [
      | inl none ↦ let is : j + n ≡ j = omega arith in rw is first
      | inr some ↦ let later = rises j (j + n) 0 (omega arith) room in omega arith
    ] in
    rw (get_or-drop j (entries_along outer b bw) n d, row_at outer b bw (j + n) d same room) (inr (refl, at))

pub left_along : (a aw b bw : List ℕ) (i j k : ℕ) (cols lefts rights sides : List ℕ) (other : ℕ)
    → IsAlong a aw b bw i j k cols lefts rights sides
    → length aw ≡ length a → length bw ≡ length b → AllPairs (λ p q. p < q) a → AllPairs (λ p q. p < q) b
    → length a + length b ≤ length cols → length lefts ≡ length cols → length rights ≡ length cols
    → length sides ≡ length cols
    → i < length a → (j < length b → get_or a i 0 < get_or b j 0)
    → IsAlong a aw b bw (i + 1) j (k + 1) (set cols k (get_or a i 0)) (set lefts k (get_or aw i 0))
    (set rights k other) (set sides k 1)
left_along a aw b bw i j k cols lefts rights sides other here sa sb ra rb space l r s some less =
    let room = here.room in
    let b_in = here.b_in in
    record {
      merging = λ outer.
          let es = entries_along outer a aw in
          let fs = entries_along outer b bw in
          let d = entry_at 0 0 0 in
          let long_a = length_row outer a aw sa in
          let long_b = length_row outer b bw sb in
          let n = length cols in
          let rows = replicate n outer in
          let long = length-replicate n outer in
          let is : get_or es i d ≡ entry_at outer (get_or a i 0) (get_or aw i 0) = row_at outer a aw i d sa some in
          let before : All (Precedes (get_or es i d)) (drop j fs) = rw is (ahead outer (get_or a i 0) (get_or aw i 0) b bw j sb rb less) in
          let more = left_more es fs i j k rows cols lefts rights sides d other (here.merging outer) (row_in_order outer a aw ra) (omega arith) (sym long) (omega arith) (omega arith) (omega arith) (omega arith) before in
          rw (length-set cols k (get_or a i 0)) (rw (is, same_rows n k outer (omega arith)) at more);
      room = omega arith;
      a_in = omega arith;
      b_in = omega arith;
    }

pub right_along : (a aw b bw : List ℕ) (i j k : ℕ) (cols lefts rights sides : List ℕ) (other : ℕ)
    → IsAlong a aw b bw i j k cols lefts rights sides
    → length aw ≡ length a → length bw ≡ length b → AllPairs (λ p q. p < q) a → AllPairs (λ p q. p < q) b
    → length a + length b ≤ length cols → length lefts ≡ length cols → length rights ≡ length cols
    → length sides ≡ length cols
    → j < length b → (i < length a → get_or b j 0 < get_or a i 0)
    → IsAlong a aw b bw i (j + 1) (k + 1) (set cols k (get_or b j 0)) (set lefts k other)
    (set rights k (get_or bw j 0)) (set sides k 2)
right_along a aw b bw i j k cols lefts rights sides other here sa sb ra rb space l r s some less =
    let room = here.room in
    let a_in = here.a_in in
    record {
      merging = λ outer.
          let es = entries_along outer a aw in
          let fs = entries_along outer b bw in
          let d = entry_at 0 0 0 in
          let long_a = length_row outer a aw sa in
          let long_b = length_row outer b bw sb in
          let n = length cols in
          let rows = replicate n outer in
          let long = length-replicate n outer in
          let is : get_or fs j d ≡ entry_at outer (get_or b j 0) (get_or bw j 0) = row_at outer b bw j d sb some in
          let before : All (Precedes (get_or fs j d)) (drop i es) = rw is (ahead outer (get_or b j 0) (get_or bw j 0) a aw i sa ra less) in
          let more = right_more es fs i j k rows cols lefts rights sides d other (here.merging outer) (row_in_order outer b bw rb) (omega arith) (sym long) (omega arith) (omega arith) (omega arith) (omega arith) before in
          rw (length-set cols k (get_or b j 0)) (rw (is, same_rows n k outer (omega arith)) at more);
      room = omega arith;
      a_in = omega arith;
      b_in = omega arith;
    }

pub both_along : (a aw b bw : List ℕ) (i j k : ℕ) (cols lefts rights sides : List ℕ)
    → IsAlong a aw b bw i j k cols lefts rights sides
    → length aw ≡ length a → length bw ≡ length b → AllPairs (λ p q. p < q) a → AllPairs (λ p q. p < q) b
    → length a + length b ≤ length cols → length lefts ≡ length cols → length rights ≡ length cols
    → length sides ≡ length cols
    → i < length a → j < length b → get_or a i 0 ≡ get_or b j 0
    → IsAlong a aw b bw (i + 1) (j + 1) (k + 1) (set cols k (get_or a i 0)) (set lefts k (get_or aw i 0))
    (set rights k (get_or bw j 0)) (set sides k 3)
both_along a aw b bw i j k cols lefts rights sides here sa sb ra rb space l r s some some' same =
    let room = here.room in
    record {
      merging = λ outer.
          let es = entries_along outer a aw in
          let fs = entries_along outer b bw in
          let d = entry_at 0 0 0 in
          let long_a = length_row outer a aw sa in
          let long_b = length_row outer b bw sb in
          let n = length cols in
          let rows = replicate n outer in
          let long = length-replicate n outer in
          let is : get_or es i d ≡ entry_at outer (get_or a i 0) (get_or aw i 0) = row_at outer a aw i d sa some in
          let is' : get_or fs j d ≡ entry_at outer (get_or b j 0) (get_or bw j 0) = row_at outer b bw j d sb some' in
          let more = both_more es fs i j k rows cols lefts rights sides d (here.merging outer) (row_in_order outer a aw ra) (row_in_order outer b bw rb) (omega arith) (sym long) (omega arith) (omega arith) (omega arith) (omega arith) (omega arith) (rw (is, is') refl) (rw (is, is') same) in
          rw (length-set cols k (get_or a i 0)) (rw (is, is', same_rows n k outer (omega arith)) at more);
      room = omega arith;
      a_in = omega arith;
      b_in = omega arith;
    }

pub along_all : (a aw b bw : List ℕ) (i j k : ℕ) (cols lefts rights sides : List ℕ)
    → IsAlong a aw b bw i j k cols lefts rights sides → length aw ≡ length a → length bw ≡ length b → length a ≤ i
    → length b ≤ j → k ≤ length cols
    → (outer : ℕ) → IsMerge (entries_along outer a aw) (entries_along outer b bw) (replicate k outer) (take k cols)
    (take k lefts) (take k rights) (take k sides)
along_all a aw b bw i j k cols lefts rights sides here sa sb done done' room outer =
    let long_a = length_row outer a aw sa in
    let long_b = length_row outer b bw sb in
    let left = take_all i (entries_along outer a aw) (omega arith) in
    let right = take_all j (entries_along outer b bw) (omega arith) in
    rw (left, right, take-replicate k (length cols) outer room) at (here.merging outer).made

-- what the next two indices choose
pub side_along : (a aw b bw : List ℕ) (i j k : ℕ) (cols lefts rights sides : List ℕ) (col one two by_i by_j : ℕ)
    (number : Bool → ℕ) → IsAlong a aw b bw i j k cols lefts rights sides
    → length aw ≡ length a → length bw ≡ length b → AllPairs (λ p q. p < q) a → AllPairs (λ p q. p < q) b
    → length a + length b ≤ length cols → length lefts ≡ length cols → length rights ≡ length cols
    → length sides ≡ length cols
    → i < length a → j < length b
    → ((get_or a i 0 < get_or b j 0) × (col ≡ get_or a i 0)) ⊎ ((get_or b j 0 ≤ get_or a i 0) × (col ≡ get_or b j 0))
    → one ≡ number (leb (get_or a i 0) (get_or b j 0)) → two ≡ number (leb (get_or b j 0) (get_or a i 0))
    → by_i ≡ number (leb (get_or a i 0) (get_or b j 0)) → by_j ≡ number (leb (get_or b j 0) (get_or a i 0))
    → number true ≡ 1 → number false ≡ 0
    → IsAlong a aw b bw (i + by_i) (j + by_j) (k + 1) (set cols k col) (set lefts k (get_or aw i 0))
    (set rights k (get_or bw j 0)) (set sides k (one + 2 * two))
side_along a aw b bw i j k cols lefts rights sides col one two by_i by_j number here sa sb ra rb space l r s some some' chosen is_one is_two step_i step_j is_1 is_0 =
    let p = get_or a i 0 in
    let q = get_or b j 0 in
    elim (cases_order p q) [
      | inr (inl less) ↦
          let up : leb p q ≡ true = grind (arith, nat_tests) in
          let down : leb q p ≡ false = grind (arith, nat_tests) in
          let e1 : one ≡ 1 = (rw up at is_one) ∙ is_1 in
          let e2 : two ≡ 0 = (rw down at is_two) ∙ is_0 in
          let e3 : by_i ≡ 1 = (rw up at step_i) ∙ is_1 in
          let e4 : by_j ≡ 0 = (rw down at step_j) ∙ is_0 in
          let j_is : j + 0 ≡ j = omega arith in
          let at : col ≡ p = elim chosen [ inl z ↦ z.1 | inr z ↦ absurd (let e = z.0 in omega arith) ] in
          rw (e1, e2, e3, e4, at, j_is) (left_along a aw b bw i j k cols lefts rights sides (get_or bw j 0) here sa sb ra rb space l r s some (λ more. less))
      | inl same ↦
          let up : leb p q ≡ true = grind (arith, nat_tests) in
          let down : leb q p ≡ true = grind (arith, nat_tests) in
          let e1 : one ≡ 1 = (rw up at is_one) ∙ is_1 in
          let e2 : two ≡ 1 = (rw down at is_two) ∙ is_1 in
          let e3 : by_i ≡ 1 = (rw up at step_i) ∙ is_1 in
          let e4 : by_j ≡ 1 = (rw down at step_j) ∙ is_1 in
          let at : col ≡ p = elim chosen [ inl z ↦ z.1 | inr z ↦ z.1 ∙ sym same ] in
          rw (e1, e2, e3, e4, at) (both_along a aw b bw i j k cols lefts rights sides here sa sb ra rb space l r s some some' same)
      | inr (inr more) ↦
          let up : leb p q ≡ false = grind (arith, nat_tests) in
          let down : leb q p ≡ true = grind (arith, nat_tests) in
          let e1 : one ≡ 0 = (rw up at is_one) ∙ is_0 in
          let e2 : two ≡ 1 = (rw down at is_two) ∙ is_1 in
          let e3 : by_i ≡ 0 = (rw up at step_i) ∙ is_0 in
          let e4 : by_j ≡ 1 = (rw down at step_j) ∙ is_1 in
          let i_is : i + 0 ≡ i = omega arith in
          let at : col ≡ q = elim chosen [ inl z ↦ absurd (let e = z.0 in omega arith) | inr z ↦ z.1 ] in
          rw (e1, e2, e3, e4, at, i_is) (right_along a aw b bw i j k cols lefts rights sides (get_or aw i 0) here sa sb ra rb space l r s some' (λ left. more))
    ]

-- ---- fibers with the same inner indices

-- at each inner index both are there
pub same_merge : (outer : ℕ) (cols lefts rights : List ℕ) → length lefts ≡ length cols → length rights ≡ length cols
    → AllPairs (λ p q. p < q) cols
    → IsMerge (entries_along outer cols lefts) (entries_along outer cols rights)
    (replicate (length cols) outer) cols lefts rights (replicate (length cols) 3)
same_merge outer [] [] [] sl sr rises = record { places = []; rows_are = refl; cols_are = refl; lefts_are = refl; rights_are = refl; sides_are = refl; left = refl; right = refl; order = all_pairs_nil (λ p q. Precedes (position p) (position q)) }
same_merge outer [] (l ∷ lefts) rights sl sr rises = absurd (omega arith)
same_merge outer [] [] (r ∷ rights) sl sr rises = absurd (omega arith)
same_merge outer (col ∷ cols) [] rights sl sr rises = absurd (omega arith)
same_merge outer (col ∷ cols) (l ∷ lefts) [] sl sr rises = absurd (omega arith)
same_merge outer (col ∷ cols) (l ∷ lefts) (r ∷ rights) sl sr rises =
    let rest = same_merge outer cols lefts rights (omega arith) (omega arith) (all_pairs_tail (λ p q. p < q) col cols rises) in
    let p : Place = record { row = outer; col = col; left = l; right = r; side = 3 } in
    let above : All (λ (q : Place). col < q.col) rest.places = all_from_map (λ c. col < c) (λ (q : Place). q.col) rest.places (subst (All (λ c. col < c)) rest.cols_are (all_pairs_head (λ p q. p < q) col cols rises)) in
    let here : All (λ (q : Place). outer ≡ q.row) rest.places = all_from_map (λ row. outer ≡ row) (λ (q : Place). q.row) rest.places (subst (All (λ row. outer ≡ row)) rest.rows_are (λ k d within. sym (get_or-replicate (length cols) k outer d (omega (arith, length-replicate (length cols) outer, within))))) in
    record {
      places = p ∷ rest.places;
      rows_are = ap (λ rows. outer ∷ rows) rest.rows_are;
      cols_are = ap (λ cols. col ∷ cols) rest.cols_are;
      lefts_are = ap (λ words. l ∷ words) rest.lefts_are;
      rights_are = ap (λ words. r ∷ words) rest.rights_are;
      sides_are = ap (λ sides. 3 ∷ sides) rest.sides_are;
      left = ap (λ es. entry_at outer col l ∷ es) rest.left;
      right = ap (λ es. entry_at outer col r ∷ es) rest.right;
      order = all_pairs_cons (λ p q. Precedes (position p) (position q)) p rest.places (λ k d within. inr (here k d within, above k d within)) rest.order;
    }
