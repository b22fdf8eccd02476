-- A join that is made part by part: of runs of one side, and of single entries.
use Rattle.std.proofs.Common.{◌≡◌, ◌≢◌, ℕ, zero, suc, ◌+◌, ◌-◌, ◌<◌, ◌≤◌, true, false, ◌&&◌, eqb, ltb, List, [], ◌∷◌, ◌++◌, length, get_or, drop, take, slice_range, Option, Some, None, refl, sym, ◌∙◌, ap, subst, inl, inr, arith}
use Rattle.std.specs.List.{All, AllPairs}
use Rattle.std.proofs.lemmas.Bool.{and_parts, cases_Bool, eqb-true}
use Rattle.std.proofs.lemmas.Bool.Decides.{nat_tests}
use Rattle.std.proofs.lemmas.List.{append-nil, drop_more, length-append, length-drop, length-take-le, take-append-drop, take_all, take_more}
use Rattle.std.proofs.lemmas.List.Folds.{drop_split}
use Rattle.store.proofs.Places.{length_part}
use Rattle.std.proofs.lemmas.List.Elements.{All-append, All-cons, All-head, All-nil, All-tail, All-weaker}
use Rattle.model.specs.declared.entry.Entry.{Entry}
use Rattle.model.specs.ElementWise.{of_either}
use Rattle.model.specs.Entries.{InOrder, Precedes, entry_at, word_at}
use Rattle.store.specs.declared.lists.FiberEnd.{FiberEnd}
use Rattle.store.specs.Fibers.{AreFlat, entries_along, entries_from, outers}
use Rattle.store.specs.Stored.{AreIn, along}
use Rattle.model.specs.Object.{Content}
use Rattle.masks.proofs.Joins.{join_along}
use Rattle.store.proofs.CloseLaws.{close_fiber, closed}
use Rattle.store.proofs.FlatLaws.{flat_none}
use Rattle.store.proofs.Order.{all_append_left, all_append_right, all_pairs_across, all_pairs_append, all_pairs_cons, all_pairs_head, all_pairs_left, all_pairs_nil, all_pairs_right, all_pairs_tail}
use Rattle.store.proofs.PartLaws.{LiesIn, are_in, lies_in}
use Rattle.store.proofs.Positions.{word_at-found, word_at-none}
use Rattle.masks.specs.declared.join.Joining.{Joining}
use Rattle.masks.specs.Joins.{AreBelow, IsJoin, IsJoinSoFar, alone_of, both_of, joined}
use Rattle.masks.proofs.Keeps.{along_append}

-- ---- words of entries one behind the other

abbrev pub either_word : Option ℕ → Option ℕ → Option ℕ
either_word None o = o
either_word (Some w) o = Some w

pub word_at_both : (xs ys : List Entry) (i j : ℕ) → word_at (xs ++ ys) i j ≡ either_word (word_at xs i j)
    (word_at ys i j)
unfolding word_at
word_at_both [] ys i j = refl
word_at_both (x ∷ xs) ys i j =
    elim (cases_Bool (eqb i x.row && eqb j x.col)) [
      | inl at ↦ rw at refl
      | inr away ↦ rw away (word_at_both xs ys i j)
    ]

not_there : (e f : Entry) (i j : ℕ) → Precedes e f → (eqb i e.row && eqb j e.col) ≡ true
    → (eqb i f.row && eqb j f.col) ≡ false
not_there e f i j before at = grind (arith, nat_tests)

-- where entries have a word, those behind all of them have none
pub none_behind : (xs ys : List Entry) (i j w : ℕ) → All (λ e. All (Precedes e) ys) xs → word_at xs i j ≡ Some w
    → word_at ys i j ≡ None
unfolding word_at
none_behind [] ys i j w before is = cc
none_behind (x ∷ xs) ys i j w before is =
    elim (cases_Bool (eqb i x.row && eqb j x.col)) [
      | inl at ↦ word_at-none i j ys (All-weaker (Precedes x) (λ f. (eqb i f.row && eqb j f.col) ≡ false) (λ f p. not_there x f i j p at) ys (All-head (λ e. All (Precedes e) ys) x xs before))
      | inr away ↦ none_behind xs ys i j w (All-tail (λ e. All (Precedes e) ys) x xs before) (rw away at is)
    ]

either_join : (alone : ℕ → ℕ) (f : ℕ → ℕ → ℕ) (a a' b b' : Option ℕ)
    → ((w : ℕ) → a ≡ Some w → (a' ≡ None) × (b' ≡ None)) → ((w : ℕ) → b ≡ Some w → (a' ≡ None) × (b' ≡ None))
    → either_word (of_either alone alone f a b)
    (of_either alone alone f a' b') ≡ of_either alone alone f (either_word a a') (either_word b b')
either_join alone f None a' None b' p q = refl
either_join alone f (Some w) a' None b' p q = let none = p w refl in rw none.1 refl
either_join alone f None a' (Some v) b' p q = let none = q v refl in rw none.0 refl
either_join alone f (Some w) a' (Some v) b' p q = refl

-- ---- joins one behind the other

join_more : (by : Joining) (a b c a' b' c' : List Entry) → IsJoin by a b c → IsJoin by a' b' c'
    → All (λ e. All (Precedes e) a') a → All (λ e. All (Precedes e) b') a → All (λ e. All (Precedes e) a') b
    → All (λ e. All (Precedes e) b') b → All (λ e. All (Precedes e) c') c
    → IsJoin by (a ++ a') (b ++ b') (c ++ c')
join_more by a b c a' b' c' first second aa ab ba bb cs = record {
  order = all_pairs_append Precedes c c' first.order second.order cs;
  words = λ i j.
      word_at_both c c' i j ∙ rw (first.words i j, second.words i j, word_at_both a a' i j, word_at_both b b' i j)
      (either_join (alone_of by) (both_of by) (word_at a i j) (word_at a' i j) (word_at b i j) (word_at b' i j)
      (λ w is. (none_behind a a' i j w aa is, none_behind a b' i j w ab is))
      (λ w is. (none_behind b a' i j w ba is, none_behind b b' i j w bb is)));
}

alone_word : (by : Joining) (o : Option ℕ) → ((word : ℕ) → alone_of by word ≡ word)
    → o ≡ of_either (alone_of by) (alone_of by) (both_of by) o None
alone_word by None alone = refl
alone_word by (Some w) alone = ap Some (sym (alone w))

other_word : (by : Joining) (o : Option ℕ) → ((word : ℕ) → alone_of by word ≡ word)
    → o ≡ of_either (alone_of by) (alone_of by) (both_of by) None o
other_word by None alone = refl
other_word by (Some w) alone = ap Some (sym (alone w))

none_at : (i j : ℕ) → word_at [] i j ≡ None
unfolding word_at
none_at i j = refl

-- a run of the left side
run_join : (by : Joining) (es : List Entry) → ((word : ℕ) → alone_of by word ≡ word) → InOrder es → IsJoin by es [] es
run_join by es alone order = record {
  order = order;
  words = λ i j. alone_word by (word_at es i j) alone ∙ rw (none_at i j) refl;
}

one_order : (e : Entry) → InOrder (e ∷ [])
one_order e = all_pairs_cons Precedes e [] (All-nil (Precedes e)) (all_pairs_nil Precedes)

-- an entry of the right side
right_join : (by : Joining) (e : Entry) → ((word : ℕ) → alone_of by word ≡ word) → IsJoin by [] (e ∷ []) (e ∷ [])
right_join by e alone = record {
  order = one_order e;
  words = λ i j. other_word by (word_at (e ∷ []) i j) alone ∙ rw (none_at i j) refl;
}

-- an entry of both
both_join : (by : Joining) (o x v w : ℕ) → IsJoin by (entry_at o x v ∷ []) (entry_at o x w ∷ [])
    (entry_at o x (both_of by v w) ∷ [])
unfolding word_at
both_join by o x v w = record {
  order = one_order (entry_at o x (both_of by v w));
  words = λ i j.
      elim (cases_Bool (eqb i o && eqb j x)) [
        | inl at ↦ rw at refl
        | inr away ↦ rw away refl
      ];
}

-- ---- along a fiber

nothing_behind : (es : List Entry) → All (λ e. All (Precedes e) []) es
nothing_behind es k d within = All-nil (Precedes (get_or es k d))

one_along : (o x v : ℕ) (ys ws : List ℕ) → length ws ≡ length ys → All (λ y. x < y) ys
    → All (Precedes (entry_at o x v)) (entries_along o ys ws)
one_along o x v [] ws long below = All-nil (Precedes (entry_at o x v))
one_along o x v (y ∷ ys) [] long below = absurd (omega arith)
one_along o x v (y ∷ ys) (w ∷ ws) long below =
    All-cons (Precedes (entry_at o x v)) (entry_at o y w) (entries_along o ys ws) (inr (refl, All-head (λ y. x < y) y ys below))
    (one_along o x v ys ws (omega arith) (All-tail (λ y. x < y) y ys below))

pub below_along : (o : ℕ) (xs vs ys ws : List ℕ) → length vs ≡ length xs → length ws ≡ length ys → AreBelow xs ys
    → All (λ e. All (Precedes e) (entries_along o ys ws)) (entries_along o xs vs)
below_along o [] vs ys ws long long' below = All-nil (λ e. All (Precedes e) (entries_along o ys ws))
below_along o (x ∷ xs) [] ys ws long long' below = absurd (omega arith)
below_along o (x ∷ xs) (v ∷ vs) ys ws long long' below =
    All-cons (λ e. All (Precedes e) (entries_along o ys ws)) (entry_at o x v) (entries_along o xs vs)
    (one_along o x v ys ws long' (All-head (λ x. All (λ y. x < y) ys) x xs below))
    (below_along o xs vs ys ws (omega arith) long' (All-tail (λ x. All (λ y. x < y) ys) x xs below))

pub fiber_order : (o : ℕ) (xs vs : List ℕ) → length vs ≡ length xs → AllPairs (λ x y. x < y) xs
    → InOrder (entries_along o xs vs)
fiber_order o [] vs long rises = all_pairs_nil Precedes
fiber_order o (x ∷ xs) [] long rises = absurd (omega arith)
fiber_order o (x ∷ xs) (v ∷ vs) long rises =
    all_pairs_cons Precedes (entry_at o x v) (entries_along o xs vs)
    (one_along o x v xs vs (omega arith) (all_pairs_head (λ x y. x < y) x xs rises))
    (fiber_order o xs vs (omega arith) (all_pairs_tail (λ x y. x < y) x xs rises))

-- ---- parts of a list

none_of : (n : ℕ) → take {A = ℕ} n [] ≡ []
none_of zero = refl
none_of (suc n) = refl

take_split : (xs : List ℕ) (i n : ℕ) → i ≤ n → take n xs ≡ take i xs ++ slice_range xs i n
take_split xs zero n low = let all : n - 0 ≡ n = omega arith in rw all refl
take_split xs (suc i) zero low = absurd (omega arith)
take_split [] (suc i) (suc n) low = sym (none_of (suc n - suc i))
take_split (x ∷ xs) (suc i) (suc n) low = let less : suc n - suc i ≡ n - i = omega arith in rw less (ap (λ ys. x ∷ ys) (take_split xs i n (omega arith)))

below_front : (xs ys zs : List ℕ) → AreBelow xs (ys ++ zs) → AreBelow xs ys
below_front xs ys zs below = All-weaker (λ x. All (λ y. x < y) (ys ++ zs)) (λ x. All (λ y. x < y) ys) (λ x p. all_append_left (λ y. x < y) ys zs p) xs below

below_back : (xs ys zs : List ℕ) → AreBelow xs (ys ++ zs) → AreBelow xs zs
below_back xs ys zs below = All-weaker (λ x. All (λ y. x < y) (ys ++ zs)) (λ x. All (λ y. x < y) zs) (λ x p. all_append_right (λ y. x < y) ys zs p) xs below

below_both : (xs ys zs : List ℕ) → AreBelow xs zs → AreBelow ys zs → AreBelow (xs ++ ys) zs
below_both xs ys zs p q = All-append (λ x. All (λ y. x < y) zs) xs ys p q

pub below_first : (xs ys : List ℕ) (k : ℕ) → k < length ys → AreBelow xs (drop k ys) → AreBelow xs (get_or ys k 0 ∷ [])
below_first xs ys k within below = below_front xs (get_or ys k 0 ∷ []) (drop (k + 1) ys) (subst (AreBelow xs) (drop_more ys k 0 within) below)

below_rest : (xs ys : List ℕ) (k : ℕ) → k < length ys → AreBelow xs (drop k ys) → AreBelow xs (drop (k + 1) ys)
below_rest xs ys k within below = below_back xs (get_or ys k 0 ∷ []) (drop (k + 1) ys) (subst (AreBelow xs) (drop_more ys k 0 within) below)

below_later : (xs ys : List ℕ) (i n : ℕ) → i ≤ n → AreBelow xs (drop i ys) → AreBelow xs (drop n ys)
below_later xs ys i n low below = below_back xs (slice_range ys i n) (drop n ys) (subst (AreBelow xs) (drop_split ys i n low) below)

below_part : (xs ys : List ℕ) (i n : ℕ) → i ≤ n → AreBelow xs (drop i ys) → AreBelow xs (slice_range ys i n)
below_part xs ys i n low below = below_front xs (slice_range ys i n) (drop n ys) (subst (AreBelow xs) (drop_split ys i n low) below)

-- numbers that rise: those before a place are below those from there on
pub rising_split : (xs : List ℕ) (i : ℕ) → AllPairs (λ x y. x < y) xs → AreBelow (take i xs) (drop i xs)
rising_split xs i rises = all_pairs_across (λ x y. x < y) (take i xs) (drop i xs) (subst (AllPairs (λ x y. x < y)) (sym (take-append-drop i xs)) rises)

rising_here : (xs : List ℕ) (i : ℕ) → i < length xs → AllPairs (λ x y. x < y) xs
    → AreBelow (get_or xs i 0 ∷ []) (drop (i + 1) xs)
rising_here xs i within rises = all_append_right (λ x. All (λ y. x < y) (drop (i + 1) xs)) (take i xs) (get_or xs i 0 ∷ []) (subst (λ zs. AreBelow zs (drop (i + 1) xs)) (take_more xs i 0 within) (rising_split xs (i + 1) rises))

part_rises : (xs : List ℕ) (i n : ℕ) → i ≤ n → AllPairs (λ x y. x < y) xs → AllPairs (λ x y. x < y) (slice_range xs i n)
part_rises xs i n low rises =
    let front = all_pairs_left (λ x y. x < y) (take n xs) (drop n xs) (subst (AllPairs (λ x y. x < y)) (sym (take-append-drop n xs)) rises) in
    all_pairs_right (λ x y. x < y) (take i xs) (slice_range xs i n) (subst (AllPairs (λ x y. x < y)) (take_split xs i n low) front)

part_below : (xs ys : List ℕ) (i n : ℕ) → i ≤ n → AreBelow (take n xs) ys → AreBelow (slice_range xs i n) ys
part_below xs ys i n low below = all_append_right (λ x. All (λ y. x < y) ys) (take i xs) (slice_range xs i n) (subst (λ zs. AreBelow zs ys) (take_split xs i n low) below)

-- numbers below one of a list that rises are below it and those behind it
pub before_rest : (xs ys : List ℕ) (k : ℕ) → k < length ys → AllPairs (λ x y. x < y) ys
    → All (λ x. x < get_or ys k 0) xs → AreBelow xs (drop k ys)
before_rest xs ys k within rises less =
    let later : All (λ y. get_or ys k 0 < y) (drop (k + 1) ys) = All-head (λ x. All (λ y. x < y) (drop (k + 1) ys)) (get_or ys k 0) [] (rising_here ys k within rises) in
    rw (drop_more ys k 0 within) (All-weaker (λ x. x < get_or ys k 0) (λ x. All (λ y. x < y) (get_or ys k 0 ∷ drop (k + 1) ys))
    (λ x p. All-cons (λ y. x < y) (get_or ys k 0) (drop (k + 1) ys) p (All-weaker (λ y. get_or ys k 0 < y) (λ y. x < y) (λ y q. omega (arith, p, q)) (drop (k + 1) ys) later)) xs less)

pub first_less : (xs ys : List ℕ) (k : ℕ) → k < length ys → AreBelow xs (drop k ys) → All (λ x. x < get_or ys k 0) xs
first_less xs ys k within below = All-weaker (λ x. All (λ y. x < y) (get_or ys k 0 ∷ [])) (λ x. x < get_or ys k 0) (λ x p. All-head (λ y. x < y) (get_or ys k 0) [] p) xs (below_first xs ys k within below)

-- a number that isn't at a place up to which all are less is before those from there on
pub next_left : (x : ℕ) (ys : List ℕ) (k : ℕ) → AllPairs (λ x y. x < y) ys → All (λ y. x ≤ y) (drop k ys)
    → (k < length ys → get_or ys k 0 ≢ x) → AreBelow (x ∷ []) (drop k ys)
next_left x ys k rises left away =
    All-cons (λ x. All (λ y. x < y) (drop k ys)) x []
    (elim (cases_Bool (ltb k (length ys))) [
      | inl inside ↦
          let within : k < length ys = grind (arith, nat_tests) in
          let more = drop_more ys k 0 within in
          let all : All (λ y. x ≤ y) (get_or ys k 0 ∷ drop (k + 1) ys) = subst (All (λ y. x ≤ y)) more left in
          let low = All-head (λ y. x ≤ y) (get_or ys k 0) (drop (k + 1) ys) all in
          let other = away within in
          let less : x < get_or ys k 0 = omega (arith, low, other) in
          let later : All (λ y. get_or ys k 0 < y) (drop (k + 1) ys) = All-head (λ x. All (λ y. x < y) (drop (k + 1) ys)) (get_or ys k 0) [] (rising_here ys k within rises) in
          rw more (All-cons (λ y. x < y) (get_or ys k 0) (drop (k + 1) ys) less (All-weaker (λ y. get_or ys k 0 < y) (λ y. x < y) (λ y q. omega (arith, less, q)) (drop (k + 1) ys) later))
      | inr past ↦
          let none : length ys ≤ k = grind (arith, nat_tests) in
          λ n d within. absurd (omega (arith, length-drop k ys))
    ])
    (All-nil (λ x. All (λ y. x < y) (drop k ys)))

-- ---- steps

-- the left side's entries up to a place, which are all before the right one's next
pub run_more : (by : Joining) (left lw right rw' : List ℕ) (i n k : ℕ) (cs ws : List ℕ)
    → ((word : ℕ) → alone_of by word ≡ word) → length lw ≡ length left → length rw' ≡ length right → k ≤ length right
    → AllPairs (λ x y. x < y) left → i ≤ n → n ≤ length left → AreBelow (take n left) (drop k right)
    → IsJoinSoFar by left lw right rw' i k cs ws → IsJoinSoFar by left lw right rw' n k (cs ++ slice_range left i n)
    (ws ++ slice_range lw i n)
run_more by left lw right rw' i n k cs ws alone long long' k_in rises low high below here =
    let run = slice_range left i n in
    let runs = slice_range lw i n in
    let run_long : length runs ≡ length run = length_part lw i n low (omega arith) ∙ sym (length_part left i n low high) in
    let lengths = here.lengths in
    let front_long : length (take i lw) ≡ length (take i left) = length-take-le i lw (omega arith) ∙ sym (length-take-le i left (omega arith)) in
    let right_long : length (take k rw') ≡ length (take k right) = length-take-le k rw' (omega arith) ∙ sym (length-take-le k right k_in) in
    record {
      lengths = omega (arith, length-append cs run, length-append ws runs);
      high = high;
      joined_are = λ o.
          let xs = entries_along o (take i left) (take i lw) in
          let ys = entries_along o (take k right) (take k rw') in
          let zs = entries_along o run runs in
          let more = join_more by xs ys (entries_along o cs ws) zs [] zs (here.joined_are o) (run_join by zs alone (fiber_order o run runs run_long (part_rises left i n low rises)))
          (below_along o (take i left) (take i lw) run runs front_long run_long (below_part (take i left) left i n low (rising_split left i rises)))
          (nothing_behind xs) (below_along o (take k right) (take k rw') run runs right_long run_long (below_part (take k right) left i n low here.right_left)) (nothing_behind ys)
          (below_along o cs ws run runs lengths run_long (below_part cs left i n low here.part_left)) in
          let left_is : xs ++ zs ≡ entries_along o (take n left) (take n lw) = sym (along_append o (take i left) (take i lw) run runs front_long) ∙ rw (sym (take_split left i n low), sym (take_split lw i n low)) refl in
          rw (← left_is, along_append o cs ws run runs lengths) (rw (append-nil ys) at more);
      left_right = below;
      right_left = below_later (take k right) left i n low here.right_left;
      part_left = below_both cs run (drop n left) (below_later cs left i n low here.part_left) (part_below left (drop n left) i n low (rising_split left n rises));
      part_right = below_both cs run (drop k right) here.part_right (part_below left (drop k right) i n low below);
    }

-- an entry at which both sides are
pub both_more : (by : Joining) (left lw right rw' : List ℕ) (i k : ℕ) (cs ws : List ℕ) → length lw ≡ length left
    → length rw' ≡ length right → AllPairs (λ x y. x < y) left → AllPairs (λ x y. x < y) right → i < length left
    → k < length right → get_or left i 0 ≡ get_or right k 0
    → IsJoinSoFar by left lw right rw' i k cs ws → IsJoinSoFar by left lw right rw' (i + 1) (k + 1)
    (cs ++ get_or right k 0 ∷ []) (ws ++ both_of by (get_or lw i 0) (get_or rw' k 0) ∷ [])
both_more by left lw right rw' i k cs ws long long' rises rises' some some' same here =
    let x = get_or right k 0 in
    let v = get_or lw i 0 in
    let w = get_or rw' k 0 in
    let lengths = here.lengths in
    let front_long : length (take i lw) ≡ length (take i left) = length-take-le i lw (omega arith) ∙ sym (length-take-le i left (omega arith)) in
    let right_long : length (take k rw') ≡ length (take k right) = length-take-le k rw' (omega arith) ∙ sym (length-take-le k right (omega arith)) in
    let next : take (i + 1) left ≡ take i left ++ x ∷ [] = take_more left i 0 some ∙ rw same refl in
    let next' : take (k + 1) right ≡ take k right ++ x ∷ [] = take_more right k 0 some' in
    let left_next : AreBelow (take i left) (x ∷ []) = below_first (take i left) right k some' here.left_right in
    let right_next : AreBelow (take k right) (x ∷ []) = below_first (take k right) right k some' (rising_split right k rises') in
    let part_next : AreBelow cs (x ∷ []) = below_first cs right k some' here.part_right in
    let here_left : AreBelow (x ∷ []) (drop (i + 1) left) = subst (λ x. AreBelow (x ∷ []) (drop (i + 1) left)) same (rising_here left i some rises) in
    let here_right : AreBelow (x ∷ []) (drop (k + 1) right) = rising_here right k some' rises' in
    record {
      lengths = omega (arith, length-append cs (x ∷ []), length-append ws (both_of by v w ∷ []));
      high = omega arith;
      joined_are = λ o.
          let xs = entries_along o (take i left) (take i lw) in
          let ys = entries_along o (take k right) (take k rw') in
          let e = entry_at o x v in
          let f = entry_at o x w in
          let g = entry_at o x (both_of by v w) in
          let more = join_more by xs ys (entries_along o cs ws) (e ∷ []) (f ∷ []) (g ∷ []) (here.joined_are o) (both_join by o x v w)
          (below_along o (take i left) (take i lw) (x ∷ []) (v ∷ []) front_long refl left_next) (below_along o (take i left) (take i lw) (x ∷ []) (w ∷ []) front_long refl left_next)
          (below_along o (take k right) (take k rw') (x ∷ []) (v ∷ []) right_long refl right_next) (below_along o (take k right) (take k rw') (x ∷ []) (w ∷ []) right_long refl right_next)
          (below_along o cs ws (x ∷ []) (both_of by v w ∷ []) lengths refl part_next) in
          rw (
            next,
            next',
            take_more lw i 0 (omega arith),
            take_more rw' k 0 (omega arith),
            along_append o (take i left) (take i lw) (x ∷ []) (v ∷ []) front_long,
            along_append o (take k right) (take k rw') (x ∷ []) (w ∷ []) right_long,
            along_append o cs ws (x ∷ []) (both_of by v w ∷ []) lengths,
          ) more;
      left_right = rw next (below_both (take i left) (x ∷ []) (drop (k + 1) right) (below_rest (take i left) right k some' here.left_right) here_right);
      right_left = rw next' (below_both (take k right) (x ∷ []) (drop (i + 1) left) (below_rest (take k right) left i some here.right_left) here_left);
      part_left = below_both cs (x ∷ []) (drop (i + 1) left) (below_rest cs left i some here.part_left) here_left;
      part_right = below_both cs (x ∷ []) (drop (k + 1) right) (below_rest cs right k some' here.part_right) here_right;
    }

-- an entry of the right side alone, which is before what is left of the other
pub right_more : (by : Joining) (left lw right rw' : List ℕ) (i k : ℕ) (cs ws : List ℕ)
    → ((word : ℕ) → alone_of by word ≡ word) → length lw ≡ length left → length rw' ≡ length right
    → AllPairs (λ x y. x < y) right → k < length right → AreBelow (get_or right k 0 ∷ []) (drop i left)
    → IsJoinSoFar by left lw right rw' i k cs ws → IsJoinSoFar by left lw right rw' i (k + 1)
    (cs ++ get_or right k 0 ∷ []) (ws ++ get_or rw' k 0 ∷ [])
right_more by left lw right rw' i k cs ws alone long long' rises' some' before here =
    let x = get_or right k 0 in
    let w = get_or rw' k 0 in
    let lengths = here.lengths in
    let high = here.high in
    let front_long : length (take i lw) ≡ length (take i left) = length-take-le i lw (omega arith) ∙ sym (length-take-le i left (omega arith)) in
    let right_long : length (take k rw') ≡ length (take k right) = length-take-le k rw' (omega arith) ∙ sym (length-take-le k right (omega arith)) in
    let next' : take (k + 1) right ≡ take k right ++ x ∷ [] = take_more right k 0 some' in
    let left_next : AreBelow (take i left) (x ∷ []) = below_first (take i left) right k some' here.left_right in
    let right_next : AreBelow (take k right) (x ∷ []) = below_first (take k right) right k some' (rising_split right k rises') in
    let part_next : AreBelow cs (x ∷ []) = below_first cs right k some' here.part_right in
    let here_right : AreBelow (x ∷ []) (drop (k + 1) right) = rising_here right k some' rises' in
    record {
      lengths = omega (arith, length-append cs (x ∷ []), length-append ws (w ∷ []));
      high = high;
      joined_are = λ o.
          let xs = entries_along o (take i left) (take i lw) in
          let ys = entries_along o (take k right) (take k rw') in
          let f = entry_at o x w in
          let more = join_more by xs ys (entries_along o cs ws) [] (f ∷ []) (f ∷ []) (here.joined_are o) (right_join by f alone)
          (nothing_behind xs) (below_along o (take i left) (take i lw) (x ∷ []) (w ∷ []) front_long refl left_next)
          (nothing_behind ys) (below_along o (take k right) (take k rw') (x ∷ []) (w ∷ []) right_long refl right_next)
          (below_along o cs ws (x ∷ []) (w ∷ []) lengths refl part_next) in
          rw (next', take_more rw' k 0 (omega arith), along_append o (take k right) (take k rw') (x ∷ []) (w ∷ []) right_long, along_append o cs ws (x ∷ []) (w ∷ []) lengths) (rw (append-nil xs) at more);
      left_right = below_rest (take i left) right k some' here.left_right;
      right_left = rw next' (below_both (take k right) (x ∷ []) (drop i left) here.right_left before);
      part_left = below_both cs (x ∷ []) (drop i left) here.part_left before;
      part_right = below_both cs (x ∷ []) (drop (k + 1) right) (below_rest cs right k some' here.part_right) here_right;
    }

-- nothing joined yet
pub join_none : (by : Joining) (left lw right rw' : List ℕ) → IsJoinSoFar by left lw right rw' 0 0 [] []
unfolding word_at
join_none by left lw right rw' = record {
  lengths = refl;
  high = omega arith;
  joined_are = λ o. record { order = all_pairs_nil Precedes; words = λ i j. refl };
  left_right = All-nil (λ x. All (λ y. x < y) right);
  right_left = All-nil (λ x. All (λ y. x < y) left);
  part_left = All-nil (λ x. All (λ y. x < y) left);
  part_right = All-nil (λ x. All (λ y. x < y) right);
}

-- all joined
join_all : (by : Joining) (o : ℕ) (left lw right rw' : List ℕ) (i k : ℕ) (cs ws : List ℕ) → length lw ≡ length left
    → length rw' ≡ length right → length left ≤ i → length right ≤ k → IsJoinSoFar by left lw right rw' i k cs ws
    → IsJoin by (entries_along o left lw) (entries_along o right rw') (entries_along o cs ws)
join_all by o left lw right rw' i k cs ws long long' high high' here =
    let all = take_all i left high in
    let all_words = take_all i lw (omega arith) in
    let all' = take_all k right high' in
    let all_words' = take_all k rw' (omega arith) in
    rw (all, all_words, all', all_words') at (here.joined_are o)

-- ---- the fiber that they are

all_behind : (o c w : ℕ) (cs ws : List ℕ) → length ws ≡ length cs
    → All (Precedes (entry_at o c w)) (entries_along o cs ws) → All (λ d. c < d) cs
all_behind o c w [] ws long behind = All-nil (λ d. c < d)
all_behind o c w (d ∷ cs) [] long behind = absurd (omega arith)
all_behind o c w (d ∷ cs) (v ∷ ws) long behind =
    let first : Precedes (entry_at o c w) (entry_at o d v) = All-head (Precedes (entry_at o c w)) (entry_at o d v) (entries_along o cs ws) behind in
    let less : c < d = elim first [ inl row ↦ absurd (omega arith) | inr col ↦ col.1 ] in
    All-cons (λ d. c < d) d cs less (all_behind o c w cs ws (omega arith) (All-tail (Precedes (entry_at o c w)) (entry_at o d v) (entries_along o cs ws) behind))

rises_along : (o : ℕ) (cs ws : List ℕ) → length ws ≡ length cs → InOrder (entries_along o cs ws)
    → AllPairs (λ x y. x < y) cs
rises_along o [] ws long order = all_pairs_nil (λ x y. x < y)
rises_along o (c ∷ cs) [] long order = absurd (omega arith)
rises_along o (c ∷ cs) (w ∷ ws) long order =
    all_pairs_cons (λ x y. x < y) c cs (all_behind o c w cs ws (omega arith) (all_pairs_head Precedes (entry_at o c w) (entries_along o cs ws) order))
    (rises_along o cs ws (omega arith) (all_pairs_tail Precedes (entry_at o c w) (entries_along o cs ws) order))

-- all of both sides joined, in a fiber that was closed
pub closed_join : (by : Joining) (o : ℕ) (left lw right rw' : List ℕ) (i k : ℕ) (ends : List FiberEnd) (cs ws : List ℕ)
    → length lw ≡ length left → length rw' ≡ length right → length left ≤ i → length right ≤ k
    → ends ≡ closed [] o (length cs) → IsJoinSoFar by left lw right rw' i k cs ws
    → AreFlat ends cs ws × IsJoin by (entries_along o left lw) (entries_along o right rw') (entries_from 0 ends cs ws)
unfolding outers
closed_join by o left lw right rw' i k ends cs ws long long' high high' are here =
    let all = join_all by o left lw right rw' i k cs ws long long' high high' here in
    let made = close_fiber [] [] [] o cs ws flat_none (All-nil (λ (r : FiberEnd). r.outer < o)) here.lengths (rises_along o cs ws here.lengths all.order) in
    rw (are, made.entries) (made.flat, all)

pub no_more : (xs ys : List ℕ) (k : ℕ) → length ys ≤ k → AreBelow xs (drop k ys)
no_more xs ys k past n d within m e inside = absurd (omega (arith, length-drop k ys))

-- ---- the rows that they are

-- what holds of each entry's position holds of one that has a word
word_holds : (P : ℕ → ℕ → Type 0) (es : List Entry) (i j w : ℕ) → All (λ e. P e.row e.col) es → word_at es i j ≡ Some w
    → P i j
unfolding word_at
word_holds P [] i j w all is = cc
word_holds P (e ∷ es) i j w all is =
    elim (cases_Bool (eqb i e.row && eqb j e.col)) [
      | inl at ↦
          let parts = and_parts (eqb i e.row) (eqb j e.col) at in
          rw (eqb-true i e.row parts.0, eqb-true j e.col parts.1) (All-head (λ e. P e.row e.col) e es all)
      | inr away ↦ word_holds P es i j w (All-tail (λ e. P e.row e.col) e es all) (rw away at is)
    ]

either_holds : (alone : ℕ → ℕ) (f : ℕ → ℕ → ℕ) (Q : Type 0) (a b : Option ℕ) (w : ℕ)
    → of_either alone alone f a b ≡ Some w → ((v : ℕ) → a ≡ Some v → Q) → ((v : ℕ) → b ≡ Some v → Q) → Q
either_holds alone f Q None None w is p q = cc
either_holds alone f Q (Some v) b w is p q = p v refl
either_holds alone f Q None (Some v) w is p q = q v refl

-- what holds of each position of both sides holds of each of their join
join_inside : (by : Joining) (P : ℕ → ℕ → Type 0) (a b part : List Entry) → IsJoin by a b part
    → All (λ e. P e.row e.col) a → All (λ e. P e.row e.col) b → All (λ e. P e.row e.col) part
join_inside by P a b part here all_a all_b k d within =
    let e = get_or part k d in
    either_holds (alone_of by) (both_of by) (P e.row e.col) (word_at a e.row e.col) (word_at b e.row e.col) e.word
    (sym (here.words e.row e.col) ∙ sym (word_at-found e.row e.col part k d here.order within (refl, refl)))
    (λ v is. word_holds P a e.row e.col v all_a is) (λ v is. word_holds P b e.row e.col v all_b is)

-- the rows of the join of both sides
pub rows_joined : (by : Joining) (c d : Content) (first past cols : ℕ) (a b part : List Entry) → IsJoin by a b part
    → AreIn first past cols (along cols a) → AreIn first past cols (along cols b)
    → ((i j : ℕ) → first ≤ i → i < past → word_at (along cols a) i j ≡ c i j)
    → ((i j : ℕ) → first ≤ i → i < past → word_at (along cols b) i j ≡ d i j)
    → AreIn first past cols (along cols part)
    × ((i j : ℕ) → first ≤ i → i < past → word_at (along cols part) i j ≡ joined by c d i j)
rows_joined by c d first past cols a b part here in_a in_b words_a words_b = (
  are_in first past cols part (join_inside by (LiesIn (eqb cols 1) first past cols) a b part here (lies_in first past cols a in_a) (lies_in first past cols b in_b)),
  λ i j low high. join_along (alone_of by) (both_of by) cols a b part here.words i j ∙ rw (words_a i j low high, words_b i j low high) refl,
)
