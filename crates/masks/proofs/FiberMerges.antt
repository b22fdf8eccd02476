-- Fibers merged one behind the other.
use Rattle.std.proofs.Common.{◌≡◌, ℕ, ◌+◌, ◌-◌, ◌<◌, ◌≤◌, List, [], ◌∷◌, ◌++◌, length, take, drop, refl, sym, ◌∙◌, ap, inl, inr, arith, append_assoc, length-append, length-take, length-drop, take-append-drop}
use Rattle.std.specs.Prelude.{replicate}
use Rattle.std.specs.List.{All, filter_map}
use Rattle.std.proofs.lemmas.List.{length-replicate, append-nil, length-map, map-append}
use Rattle.std.proofs.lemmas.Slice.{take-put_mid, drop-put_mid}
use borrow.Rule.Slice.PartMut.{put_mid}
use Rattle.std.proofs.Common.{take-take}
use Rattle.std.proofs.Math.Seq.{take-append-add}
use Rattle.std.proofs.lemmas.Bool.{cases_Bool, cases_eq, cases_lt}
use Rattle.std.proofs.Common.{false, eqb}
use Rattle.masks.proofs.JoinedWords.{not_both}
use Rattle.std.proofs.lemmas.List.Elements.{All-nil, All-cons, All-head, All-tail, All-weaker, All-append}
use Rattle.std.proofs.lemmas.List.Elements.{filter_map-append}
use Rattle.model.specs.declared.entry.Entry.{Entry}
use Rattle.model.specs.Entries.{Precedes, entry_at}
use Rattle.store.specs.declared.lists.FiberEnd.{FiberEnd}
use Rattle.store.specs.Fibers.{last_end, Rises}
use Rattle.store.specs.Fibers.{end_at}
use Rattle.store.proofs.Order.{all_append_right, all_pairs_append, all_pairs_nil, all_pairs_cons}
use Rattle.store.proofs.FlatLaws.{last_more, rises_more}
use Rattle.masks.specs.Merges.{Place, position, left_entry, right_entry, IsMerge}
use Rattle.store.specs.Fibers.{outers}
use Rattle.masks.specs.Merges.{AreMerged}
use Rattle.store.proofs.Places.{outers_append}

-- the merge so far: x and y are left of a and b
pub record IsPart (a b x y : List Entry) (count : ℕ) (ends : List FiberEnd) (cols lefts rights sides : List ℕ) (room : ℕ) : Type 0 where
  pub front_a : List Entry
  pub front_b : List Entry
  pub a_is : a ≡ front_a ++ x
  pub b_is : b ≡ front_b ++ y
  pub so_far : AreMerged front_a front_b count ends cols lefts rights sides
  pub enough : count + (length x + length y) ≤ room
  pub ahead : All (λ (r : FiberEnd). All (λ e. r.outer < e.row) x × All (λ e. r.outer < e.row) y) ends
  pub ahead_a : All (λ f. All (λ e. f.row < e.row) x × All (λ e. f.row < e.row) y) front_a
  pub ahead_b : All (λ f. All (λ e. f.row < e.row) x × All (λ e. f.row < e.row) y) front_b
  pub cols_long : length cols ≡ room
  pub lefts_long : length lefts ≡ room
  pub rights_long : length rights ≡ room
  pub sides_long : length sides ≡ room

pub part_none : (a b : List Entry) (cols lefts rights sides : List ℕ) (room : ℕ) → length a + length b ≤ room
    → length cols ≡ room → length lefts ≡ room → length rights ≡ room → length sides ≡ room
    → IsPart a b a b 0 [] cols lefts rights sides room
unfolding Rises last_end outers
part_none a b cols lefts rights sides room enough c l r s = record {
  front_a = [];
  front_b = [];
  a_is = refl;
  b_is = refl;
  so_far = record {
    rises = tt;
    whole = refl;
    apart = all_pairs_nil (λ (r s : FiberEnd). r.outer < s.outer);
    merge = record {
      places = [];
      rows_are = refl;
      cols_are = refl;
      lefts_are = refl;
      rights_are = refl;
      sides_are = refl;
      left = refl;
      right = refl;
      order = all_pairs_nil (λ p q. Precedes (position p) (position q));
    };
  };
  enough = omega arith;
  ahead = All-nil (λ (r : FiberEnd). All (λ e. r.outer < e.row) a × All (λ e. r.outer < e.row) b);
  ahead_a = All-nil (λ f. All (λ e. f.row < e.row) a × All (λ e. f.row < e.row) b);
  ahead_b = All-nil (λ f. All (λ e. f.row < e.row) a × All (λ e. f.row < e.row) b);
  cols_long = c;
  lefts_long = l;
  rights_long = r;
  sides_long = s;
}

-- two merges one behind the other
pub merge_append : (a b a' b' : List Entry) (os cs ls rs ss os' cs' ls' rs' ss' : List ℕ)
    (m : IsMerge a b os cs ls rs ss) (n : IsMerge a' b' os' cs' ls' rs' ss')
    → All (λ p. All (λ q. Precedes (position p) (position q)) n.places) m.places
    → IsMerge (a ++ a') (b ++ b') (os ++ os') (cs ++ cs') (ls ++ ls') (rs ++ rs') (ss ++ ss')
merge_append a b a' b' os cs ls rs ss os' cs' ls' rs' ss' m n across =
    let ps = m.places in
    let qs = n.places in
    record {
      places = ps ++ qs;
      rows_are = rw (m.rows_are, n.rows_are) (sym (map-append (λ (p : Place). p.row) ps qs));
      cols_are = rw (m.cols_are, n.cols_are) (sym (map-append (λ (p : Place). p.col) ps qs));
      lefts_are = rw (m.lefts_are, n.lefts_are) (sym (map-append (λ (p : Place). p.left) ps qs));
      rights_are = rw (m.rights_are, n.rights_are) (sym (map-append (λ (p : Place). p.right) ps qs));
      sides_are = rw (m.sides_are, n.sides_are) (sym (map-append (λ (p : Place). p.side) ps qs));
      left = filter_map-append left_entry ps qs ∙ rw (m.left, n.left) refl;
      right = filter_map-append right_entry ps qs ∙ rw (m.right, n.right) refl;
      order = all_pairs_append (λ p q. Precedes (position p) (position q)) ps qs m.order n.order across;
    }

-- the places of a merge hold what both sides' rows do
pub places_all : (P : ℕ → Type 0) (ps : List Place) → All (λ e. P e.row) (filter_map left_entry ps)
    → All (λ e. P e.row) (filter_map right_entry ps) → All (λ p. P p.row) ps
places_all P [] h g = All-nil (λ p. P p.row)
places_all P (p ∷ ps) h g =
    elim (cases_Bool (eqb p.side 2)) [
      | inl two ↦
          let one : eqb p.side 1 ≡ false = not_both p.side two in
          let left : All (λ e. P e.row) (filter_map left_entry ps) = rw two at h in
          let right : All (λ e. P e.row) (entry_at p.row p.col p.right ∷ filter_map right_entry ps) = rw one at g in
          All-cons (λ p. P p.row) p ps (All-head (λ e. P e.row) (entry_at p.row p.col p.right) (filter_map right_entry ps) right) (places_all P ps left (All-tail (λ e. P e.row) (entry_at p.row p.col p.right) (filter_map right_entry ps) right))
      | inr other ↦
          let left : All (λ e. P e.row) (entry_at p.row p.col p.left ∷ filter_map left_entry ps) = rw other at h in
          let right : All (λ e. P e.row) (filter_map right_entry ps) = elim (cases_Bool (eqb p.side 1)) [
            | inl one ↦ rw one at g
            | inr both ↦ All-tail (λ e. P e.row) (entry_at p.row p.col p.right) (filter_map right_entry ps) (rw both at g)
          ] in
          All-cons (λ p. P p.row) p ps (All-head (λ e. P e.row) (entry_at p.row p.col p.left) (filter_map left_entry ps) left) (places_all P ps (All-tail (λ e. P e.row) (entry_at p.row p.col p.left) (filter_map left_entry ps) left) right)
    ]

length_merge : (a b : List Entry) (os cs ls rs ss : List ℕ) → (m : IsMerge a b os cs ls rs ss)
    → length os ≡ length m.places
length_merge a b os cs ls rs ss m = ap length m.rows_are ∙ length-map m.places (λ (p : Place). p.row)

-- one fiber more
pub merged_more : (a b fs gs : List Entry) (outer count n : ℕ) (ends : List FiberEnd)
    (cols lefts rights sides cols' lefts' rights' sides' : List ℕ)
    → AreMerged a b count ends cols lefts rights sides → IsMerge fs gs (replicate n outer) cols' lefts' rights' sides'
    → All (λ e. e.row < outer) a → All (λ e. e.row < outer) b → All (λ e. e.row ≡ outer) fs
    → All (λ e. e.row ≡ outer) gs → All (λ (r : FiberEnd). r.outer < outer) ends → 0 < n
    → (new_cols new_lefts new_rights new_sides : List ℕ) → take (count + n) new_cols ≡ take count cols ++ cols'
    → take (count + n) new_lefts ≡ take count lefts ++ lefts'
    → take (count + n) new_rights ≡ take count rights ++ rights'
    → take (count + n) new_sides ≡ take count sides ++ sides'
    → AreMerged (a ++ fs) (b ++ gs) (count + n)
    (ends ++ end_at outer (count + n) ∷ []) new_cols new_lefts new_rights new_sides
unfolding outers
merged_more a b fs gs outer count n ends cols lefts rights sides cols' lefts' rights' sides' h m low_a low_b at_fs at_gs low_ends some nc nl nr ns is_c is_l is_r is_s =
    let whole = h.whole in
    let r = end_at outer (count + n) in
    let first = h.merge in
    let early : All (λ p. p.row < outer) first.places = places_all (λ o. o < outer) first.places (rw (← first.left) at low_a) (rw (← first.right) at low_b) in
    let late : All (λ p. p.row ≡ outer) m.places = places_all (λ o. o ≡ outer) m.places (rw (← m.left) at at_fs) (rw (← m.right) at at_gs) in
    let across : All (λ p. All (λ q. Precedes (position p) (position q)) m.places) first.places = All-weaker (λ p. p.row < outer) (λ p. All (λ q. Precedes (position p) (position q)) m.places) (λ p less. All-weaker (λ q. q.row ≡ outer) (λ q. Precedes (position p) (position q)) (λ q at. inl (omega (arith, at, less))) m.places late) first.places early in
    let more = merge_append a b fs gs (outers 0 ends) (take count cols) (take count lefts) (take count rights) (take count sides) (replicate n outer) cols' lefts' rights' sides' first m across in
    let left_n : count + n - count ≡ n = omega arith in
    let os : outers 0 (ends ++ r ∷ []) ≡ outers 0 ends ++ replicate n outer = outers_append 0 ends (r ∷ []) ∙ rw (whole, left_n) (ap (λ zs. outers 0 ends ++ zs) (append-nil (replicate n outer))) in
    record {
      rises = rises_more 0 ends r h.rises (omega arith);
      whole = last_more 0 ends r;
      apart = all_pairs_append (λ (r s : FiberEnd). r.outer < s.outer) ends (r ∷ []) h.apart (all_pairs_cons (λ (r s : FiberEnd). r.outer < s.outer) r [] (All-nil (λ (s : FiberEnd). outer < s.outer)) (all_pairs_nil (λ (r s : FiberEnd). r.outer < s.outer)))
          (All-weaker (λ (q : FiberEnd). q.outer < outer) (λ (q : FiberEnd). All (λ (s : FiberEnd). q.outer < s.outer) (r ∷ [])) (λ q less. All-cons (λ (s : FiberEnd). q.outer < s.outer) r [] less (All-nil (λ (s : FiberEnd). q.outer < s.outer))) ends low_ends);
      merge = rw (os, is_c, is_l, is_r, is_s) more;
    }

pub put_take : (a k n : ℕ) (xs ys : List ℕ) → a ≤ length xs → n ≤ length ys
    → take (a + n) (put_mid a k xs ys) ≡ take a xs ++ take n ys
put_take a k n xs ys room few =
    let long : length (take a xs) ≡ a = omega (arith, length-take a xs) in
    let all = take-put_mid a k xs ys (a + length ys) refl room in
    let cut : take (a + n) (take (a + length ys) (put_mid a k xs ys)) ≡ take (a + n) (put_mid a k xs ys) = take-take (a + n) (a + length ys) (put_mid a k xs ys) (omega arith) in
    let seam : take (length (take a xs) + n) (take a xs ++ ys) ≡ take a xs ++ take n ys = take-append-add (take a xs) ys n in
    sym cut ∙ ap (take (a + n)) all ∙ (rw long at seam)

-- outer is the row of an entry of x or of y: they are not all behind it
abbrev pub IsThere : ℕ → List Entry → List Entry → Type 0
IsThere outer x y = All (λ e. outer < e.row) x → All (λ e. outer < e.row) y → ⊥

below_outer : (v outer : ℕ) (x y : List Entry) → IsThere outer x y → All (λ e. v < e.row) x → All (λ e. v < e.row) y
    → v < outer
below_outer v outer x y there h g =
    elim (cases_lt v outer) [
      | inl less ↦ less
      | inr le ↦ absurd (there (All-weaker (λ e. v < e.row) (λ e. outer < e.row) (λ e p. omega arith) x h) (All-weaker (λ e. v < e.row) (λ e. outer < e.row) (λ e p. omega arith) y g))
    ]

pub some_more : (outer : ℕ) (fs gs x y x' y' : List Entry) → IsThere outer x y → x ≡ fs ++ x' → y ≡ gs ++ y'
    → All (λ e. outer < e.row) x' → All (λ e. outer < e.row) y' → 0 < length fs + length gs
some_more outer [] [] x y x' y' there is_x is_y h g = absurd (there (rw is_x h) (rw is_y g))
some_more outer (f ∷ fs) gs x y x' y' there is_x is_y h g = omega arith
some_more outer [] (e ∷ gs) x y x' y' there is_x is_y h g = omega arith

length_zero : (ps : List Place) → length ps ≡ 0 → ps ≡ []
length_zero [] none = refl
length_zero (p ∷ ps) none = absurd (omega arith)

merge_some : (fs gs : List Entry) (os cs ls rs ss : List ℕ) → IsMerge fs gs os cs ls rs ss → 0 < length fs + length gs
    → 0 < length os
merge_some fs gs os cs ls rs ss m some =
    let long = length_merge fs gs os cs ls rs ss m in
    elim (cases_eq (length m.places) 0) [
      | inl none ↦
          let empty : m.places ≡ [] = length_zero m.places none in
          let no_fs : fs ≡ [] = sym m.left ∙ ap (filter_map left_entry) empty in
          let no_gs : gs ≡ [] = sym m.right ∙ ap (filter_map right_entry) empty in
          absurd (let e = ap length no_fs in let f = ap length no_gs in omega arith)
      | inr more ↦ omega arith
    ]

abbrev pub Ahead : List Entry → List Entry → ℕ → Type 0
Ahead x y v = All (λ e. v < e.row) x × All (λ e. v < e.row) y

still_ahead : (fs gs x' y' : List Entry) (v : ℕ) → Ahead (fs ++ x') (gs ++ y') v → Ahead x' y' v
still_ahead fs gs x' y' v h = (all_append_right (λ e. v < e.row) fs x' h.0, all_append_right (λ e. v < e.row) gs y' h.1)

-- one fiber more of each side that has one there
pub part_more : (a b x y x' y' fs gs : List Entry) (outer count n room : ℕ) (ends : List FiberEnd)
    (cols lefts rights sides cols' lefts' rights' sides' nc nl nr ns : List ℕ)
    → IsPart a b x y count ends cols lefts rights sides room → IsThere outer x y → x ≡ fs ++ x' → y ≡ gs ++ y'
    → Ahead x' y' outer → All (λ e. e.row ≡ outer) fs → All (λ e. e.row ≡ outer) gs
    → IsMerge fs gs (replicate n outer) cols' lefts' rights' sides' → n ≤ length fs + length gs
    → take (count + n) nc ≡ take count cols ++ cols' → take (count + n) nl ≡ take count lefts ++ lefts'
    → take (count + n) nr ≡ take count rights ++ rights' → take (count + n) ns ≡ take count sides ++ sides'
    → length nc ≡ room → length nl ≡ room → length nr ≡ room → length ns ≡ room
    → IsPart a b x' y' (count + n) (ends ++ end_at outer (count + n) ∷ []) nc nl nr ns room
part_more a b x y x' y' fs gs outer count n room ends cols lefts rights sides cols' lefts' rights' sides' nc nl nr ns here there is_x is_y behind at_fs at_gs m few is_c is_l is_r is_s long_c long_l long_r long_s =
    let some = some_more outer fs gs x y x' y' there is_x is_y behind.0 behind.1 in
    let some_n : 0 < n = omega (arith, merge_some fs gs (replicate n outer) cols' lefts' rights' sides' m some, length-replicate n outer) in
    let enough = here.enough in
    let size_x : length x ≡ length fs + length x' = ap length is_x ∙ length-append fs x' in
    let size_y : length y ≡ length gs + length y' = ap length is_y ∙ length-append gs y' in
    let low : (v : ℕ) → Ahead x y v → v < outer = λ v p. below_outer v outer x y there p.0 p.1 in
    let keep : (v : ℕ) → Ahead x y v → Ahead x' y' v = λ v p. still_ahead fs gs x' y' v (rw is_x at p.0, rw is_y at p.1) in
    let new : (v : ℕ) → v ≡ outer → Ahead x' y' v = λ v at. rw at behind in
    record {
      front_a = here.front_a ++ fs;
      front_b = here.front_b ++ gs;
      a_is = here.a_is ∙ rw is_x (sym (append_assoc here.front_a fs x'));
      b_is = here.b_is ∙ rw is_y (sym (append_assoc here.front_b gs y'));
      so_far = merged_more here.front_a here.front_b fs gs outer count n ends cols lefts rights sides cols' lefts' rights' sides' here.so_far m
          (All-weaker (λ f. Ahead x y f.row) (λ f. f.row < outer) (λ f. low f.row) here.front_a here.ahead_a) (All-weaker (λ f. Ahead x y f.row) (λ f. f.row < outer) (λ f. low f.row) here.front_b here.ahead_b) at_fs at_gs
          (All-weaker (λ (r : FiberEnd). Ahead x y r.outer) (λ (r : FiberEnd). r.outer < outer) (λ r. low r.outer) ends here.ahead) some_n nc nl nr ns is_c is_l is_r is_s;
      enough = omega arith;
      ahead = All-append (λ (r : FiberEnd). Ahead x' y' r.outer) ends (end_at outer (count + n) ∷ []) (All-weaker (λ (r : FiberEnd). Ahead x y r.outer) (λ (r : FiberEnd). Ahead x' y' r.outer) (λ r. keep r.outer) ends here.ahead) (All-cons (λ (r : FiberEnd). Ahead x' y' r.outer) (end_at outer (count + n)) [] behind (All-nil (λ (r : FiberEnd). Ahead x' y' r.outer)));
      ahead_a = All-append (λ f. Ahead x' y' f.row) here.front_a fs (All-weaker (λ f. Ahead x y f.row) (λ f. Ahead x' y' f.row) (λ f. keep f.row) here.front_a here.ahead_a) (All-weaker (λ f. f.row ≡ outer) (λ f. Ahead x' y' f.row) (λ f. new f.row) fs at_fs);
      ahead_b = All-append (λ f. Ahead x' y' f.row) here.front_b gs (All-weaker (λ f. Ahead x y f.row) (λ f. Ahead x' y' f.row) (λ f. keep f.row) here.front_b here.ahead_b) (All-weaker (λ f. f.row ≡ outer) (λ f. Ahead x' y' f.row) (λ f. new f.row) gs at_gs);
      cols_long = long_c;
      lefts_long = long_l;
      rights_long = long_r;
      sides_long = long_s;
    }

pub length_put : (a k : ℕ) (xs ys : List ℕ) → a + k ≤ length xs → length ys ≡ k → length (put_mid a k xs ys) ≡ length xs
length_put a k xs ys room same =
    let low : a ≤ length xs = omega arith in
    let front = take-put_mid a k xs ys (a + k) (omega arith) low in
    let back = drop-put_mid a k xs ys (a + k) (omega arith) low same in
    let parts = take-append-drop (a + k) (put_mid a k xs ys) in
    let sizes = ap length parts in
    omega (arith, length-append (take (a + k) (put_mid a k xs ys)) (drop (a + k) (put_mid a k xs ys)), ap length front, ap length back, length-append (take a xs) ys, length-take a xs, length-drop (a + k) xs)
