-- A merge, place by place.
use Rattle.std.proofs.Common.{◌≡◌, ℕ, ◌+◌, ◌<◌, ◌≤◌, List, [], ◌∷◌, ◌++◌, length, get_or, set, take, drop, map, refl, sym, ◌∙◌, ap, subst, arith}
use Rattle.std.specs.List.{All, AllPairs, filter_map}
use Rattle.std.proofs.lemmas.List.{append-nil, take_more, take_more_set, map-append, get_or-drop, get_or_default, length-drop}
use Rattle.std.proofs.lemmas.List.Elements.{All-nil, All-cons, All-append, All-weaker, filter_map-append}
use Rattle.model.specs.declared.entry.Entry.{Entry}
use Rattle.model.specs.Entries.{InOrder, Precedes, entry_at}
use Rattle.store.proofs.Order.{all_pairs_nil, all_pairs_cons, all_pairs_append}
use Rattle.masks.specs.Merges.{Place, position, left_entry, right_entry, IsMerge}

-- the merge so far: of the first i entries of a and the first j of b, in the first k places
pub record IsMerging (a b : List Entry) (i j k : ℕ) (rows cols lefts rights sides : List ℕ) : Type 0 where
  pub made : IsMerge (take i a) (take j b) (take k rows) (take k cols) (take k lefts) (take k rights) (take k sides)
  pub before_a : All (λ p. All (Precedes (position p)) (drop i a)) made.places
  pub before_b : All (λ p. All (Precedes (position p)) (drop j b)) made.places
  pub room : k ≤ i + j
  pub a_in : i ≤ length a
  pub b_in : j ≤ length b

pub merging_none : (a b : List Entry) (rows cols lefts rights sides : List ℕ)
    → IsMerging a b 0 0 0 rows cols lefts rights sides
merging_none a b rows cols lefts rights sides = record {
  made = record {
    places = [];
    rows_are = refl;
    cols_are = refl;
    lefts_are = refl;
    rights_are = refl;
    sides_are = refl;
    left = refl;
    right = refl;
    order = all_pairs_nil (λ p q. Precedes (position p) (position q));
  };
  before_a = All-nil (λ p. All (Precedes (position p)) a);
  before_b = All-nil (λ p. All (Precedes (position p)) b);
  room = omega arith;
  a_in = omega arith;
  b_in = omega arith;
}

grown : (field : Place → ℕ) (k : ℕ) (xs : List ℕ) (ps : List Place) (p : Place) → k < length xs
    → take k xs ≡ map field ps → take (k + 1) (set xs k (field p)) ≡ map field (ps ++ p ∷ [])
grown field k xs ps p room is = take_more_set xs k (field p) room ∙ rw is (sym (map-append field ps (p ∷ [])))

one_place : (R : Place → Place → Type 0) (p : Place) → AllPairs R (p ∷ [])
one_place R p = all_pairs_cons R p [] (All-nil (R p)) (all_pairs_nil R)

-- a place more, which is behind all others and before what is left
pub place_more : (a b : List Entry) (i j i' j' k : ℕ) (rows cols lefts rights sides : List ℕ) (p : Place)
    → IsMerging a b i j k rows cols lefts rights sides → k < length rows → length cols ≡ length rows
    → length lefts ≡ length rows → length rights ≡ length rows → length sides ≡ length rows
    → (take i a ++ filter_map left_entry (p ∷ []) ≡ take i' a)
    → (take j b ++ filter_map right_entry (p ∷ []) ≡ take j' b)
    → All (Precedes (position p)) (drop i' a) → All (Precedes (position p)) (drop j' b)
    → ((Q : Entry → Type 0) → All Q (drop i a) → All Q (drop i' a))
    → ((Q : Entry → Type 0) → All Q (drop j b) → All Q (drop j' b))
    → ((q : Place) → All (Precedes (position q)) (drop i a) → All (Precedes (position q)) (drop j b) → Precedes (position q) (position p)) → k + 1 ≤ i' + j' → i' ≤ length a → j' ≤ length b
    → IsMerging a b i' j' (k + 1) (set rows k p.row) (set cols k p.col) (set lefts k p.left) (set rights k p.right)
    (set sides k p.side)
place_more a b i j i' j' k rows cols lefts rights sides p here room c l r s left right ahead_a ahead_b less_a less_b is_next more a_in b_in =
    let made = here.made in
    let ps = made.places in
    record {
      made = record {
        places = ps ++ p ∷ [];
        rows_are = grown (λ p. p.row) k rows ps p room made.rows_are;
        cols_are = grown (λ p. p.col) k cols ps p (omega arith) made.cols_are;
        lefts_are = grown (λ p. p.left) k lefts ps p (omega arith) made.lefts_are;
        rights_are = grown (λ p. p.right) k rights ps p (omega arith) made.rights_are;
        sides_are = grown (λ p. p.side) k sides ps p (omega arith) made.sides_are;
        left = filter_map-append left_entry ps (p ∷ []) ∙ ap (λ es. es ++ filter_map left_entry (p ∷ [])) made.left ∙ left;
        right = filter_map-append right_entry ps (p ∷ []) ∙ ap (λ es. es ++ filter_map right_entry (p ∷ [])) made.right ∙ right;
        order =
            all_pairs_append (λ p q. Precedes (position p) (position q)) ps (p ∷ []) made.order (one_place (λ p q. Precedes (position p) (position q)) p)
            (λ n d within. All-cons (λ q. Precedes (position (get_or ps n d)) (position q)) p [] (is_next (get_or ps n d) (here.before_a n d within) (here.before_b n d within)) (All-nil (λ q. Precedes (position (get_or ps n d)) (position q))));
      };
      before_a =
          All-append (λ p. All (Precedes (position p)) (drop i' a)) ps (p ∷ [])
          (λ n d within. less_a (Precedes (position (get_or ps n d))) (here.before_a n d within))
          (All-cons (λ p. All (Precedes (position p)) (drop i' a)) p [] ahead_a (All-nil (λ p. All (Precedes (position p)) (drop i' a))));
      before_b =
          All-append (λ p. All (Precedes (position p)) (drop j' b)) ps (p ∷ [])
          (λ n d within. less_b (Precedes (position (get_or ps n d))) (here.before_b n d within))
          (All-cons (λ p. All (Precedes (position p)) (drop j' b)) p [] ahead_b (All-nil (λ p. All (Precedes (position p)) (drop j' b))));
      room = more;
      a_in = a_in;
      b_in = b_in;
    }

-- ---- what is left of a list

first_left : (es : List Entry) (i : ℕ) (d : Entry) (Q : Entry → Type 0) → i < length es → All Q (drop i es)
    → Q (get_or es i d)
first_left es i d Q within h =
    let at : get_or (drop i es) 0 d ≡ get_or es i d = get_or-drop i es 0 d ∙ ap (λ n. get_or es n d) (omega arith) in
    subst Q at (h 0 d (omega (arith, length-drop i es)))

rest_left : (es : List Entry) (i : ℕ) (Q : Entry → Type 0) → All Q (drop i es) → All Q (drop (i + 1) es)
rest_left es i Q h n d within =
    let at : get_or (drop i es) (n + 1) d ≡ get_or (drop (i + 1) es) n d = get_or-drop i es (n + 1) d ∙ ap (λ n. get_or es n d) (omega arith) ∙ sym (get_or-drop (i + 1) es n d) in
    subst Q at (h (n + 1) d (omega (arith, length-drop i es, length-drop (i + 1) es)))

later_left : (es : List Entry) (i : ℕ) (d : Entry) → InOrder es → i < length es
    → All (Precedes (get_or es i d)) (drop (i + 1) es)
later_left es i d order within n e inside =
    let room : i + 1 + n < length es = omega (arith, length-drop (i + 1) es) in
    rw (get_or-drop (i + 1) es n e, get_or_default es (i + 1 + n) e d room) (order i (i + 1 + n) d (omega arith) room)

through : (x y z : Entry) → Precedes x y → Precedes y z → Precedes x z
through x y z one two = grind arith

-- the left list's next entry alone
pub left_more : (a b : List Entry) (i j k : ℕ) (rows cols lefts rights sides : List ℕ) (d : Entry) (other : ℕ)
    → IsMerging a b i j k rows cols lefts rights sides → InOrder a → length a + length b ≤ length rows
    → length cols ≡ length rows → length lefts ≡ length rows → length rights ≡ length rows → length sides ≡ length rows
    → i < length a → All (Precedes (get_or a i d)) (drop j b)
    → IsMerging a b (i + 1) j (k + 1) (set rows k (get_or a i d).row) (set cols k (get_or a i d).col)
    (set lefts k (get_or a i d).word) (set rights k other) (set sides k 1)
left_more a b i j k rows cols lefts rights sides d other here order space c l r s some before =
    let room = here.room in
    let b_in = here.b_in in
    let x = get_or a i d in
    place_more a b i j (i + 1) j k rows cols lefts rights sides (record { row = x.row; col = x.col; left = x.word; right = other; side = 1 }) here (omega arith) c l r s
    (sym (take_more a i d some)) (append-nil (take j b)) (later_left a i d order some) before
    (rest_left a i) (λ Q h. h) (λ q h g. first_left a i d (Precedes (position q)) some h) (omega arith) (omega arith) b_in

-- the right list's next entry alone
pub right_more : (a b : List Entry) (i j k : ℕ) (rows cols lefts rights sides : List ℕ) (d : Entry) (other : ℕ)
    → IsMerging a b i j k rows cols lefts rights sides → InOrder b → length a + length b ≤ length rows
    → length cols ≡ length rows → length lefts ≡ length rows → length rights ≡ length rows → length sides ≡ length rows
    → j < length b → All (Precedes (get_or b j d)) (drop i a)
    → IsMerging a b i (j + 1) (k + 1) (set rows k (get_or b j d).row) (set cols k (get_or b j d).col)
    (set lefts k other) (set rights k (get_or b j d).word) (set sides k 2)
right_more a b i j k rows cols lefts rights sides d other here order space c l r s some before =
    let room = here.room in
    let a_in = here.a_in in
    let y = get_or b j d in
    place_more a b i j i (j + 1) k rows cols lefts rights sides (record { row = y.row; col = y.col; left = other; right = y.word; side = 2 }) here (omega arith) c l r s
    (append-nil (take i a)) (sym (take_more b j d some)) before (later_left b j d order some)
    (λ Q h. h) (rest_left b j) (λ q h g. first_left b j d (Precedes (position q)) some g) (omega arith) a_in (omega arith)

as_at : (x y e : Entry) → x.row ≡ y.row → x.col ≡ y.col → Precedes y e → Precedes x e
as_at x y e row col h = grind arith

-- both next entries, at one position
pub both_more : (a b : List Entry) (i j k : ℕ) (rows cols lefts rights sides : List ℕ) (d : Entry)
    → IsMerging a b i j k rows cols lefts rights sides → InOrder a → InOrder b → length a + length b ≤ length rows
    → length cols ≡ length rows → length lefts ≡ length rows → length rights ≡ length rows → length sides ≡ length rows
    → i < length a → j < length b → (get_or a i d).row ≡ (get_or b j d).row → (get_or a i d).col ≡ (get_or b j d).col
    → IsMerging a b (i + 1) (j + 1) (k + 1) (set rows k (get_or a i d).row) (set cols k (get_or a i d).col)
    (set lefts k (get_or a i d).word) (set rights k (get_or b j d).word) (set sides k 3)
both_more a b i j k rows cols lefts rights sides d here order order' space c l r s some some' row col =
    let room = here.room in
    let x = get_or a i d in
    let y = get_or b j d in
    let same : entry_at x.row x.col y.word ≡ y = rw (row, col) refl in
    let ahead : All (Precedes y) (drop (j + 1) b) = later_left b j d order' some' in
    let ahead' : All (Precedes x) (drop (j + 1) b) = All-weaker (Precedes y) (Precedes x) (λ e p. as_at x y e row col p) (drop (j + 1) b) ahead in
    place_more a b i j (i + 1) (j + 1) k rows cols lefts rights sides (record { row = x.row; col = x.col; left = x.word; right = y.word; side = 3 }) here (omega arith) c l r s
    (sym (take_more a i d some)) (rw same (sym (take_more b j d some'))) (later_left a i d order some) ahead'
    (rest_left a i) (rest_left b j) (λ q h g. first_left a i d (Precedes (position q)) some h) (omega arith) (omega arith) (omega arith)
