-- Fibers walked side by side for the positions that both sides have.
use Rattle.std.proofs.Common.{◌≡◌, ◌≢◌, ℕ, ◌+◌, ◌-◌, ◌<◌, ◌≤◌, List, [], ◌∷◌, ◌++◌, length, take, refl, sym, ◌∙◌, ap, subst, arith, append_assoc, length-append, length-take}
use Rattle.std.specs.Prelude.{replicate}
use Rattle.std.specs.List.{All, zip}
use Rattle.std.proofs.lemmas.List.{append-nil, length-map}
use Rattle.std.proofs.lemmas.List.Elements.{All-nil, All-cons, All-head, All-append, All-weaker}
use Rattle.std.proofs.lemmas.Slice.Zip.{length-zip}
use Rattle.lanes.specs.Lists.{zip_with}
use Rattle.model.specs.declared.entry.Entry.{Entry}
use Rattle.model.specs.Entries.{InOrder, word_at}
use Rattle.store.specs.declared.lists.FiberEnd.{FiberEnd}
use Rattle.store.specs.Fibers.{AreApart, AreFlat, Rises, end_at, entries_along, entries_from, last_end, outers, placed}
use Rattle.store.proofs.FlatLaws.{last_more, placed_at_one, placed_both, rises_more}
use Rattle.store.proofs.Order.{all_append_right, all_pairs_append, all_pairs_cons, all_pairs_nil}
use Rattle.store.proofs.PartLaws.{word_before, word_behind}
use Rattle.store.proofs.Places.{length_outers, outers_append}
use Rattle.elementwise.specs.Meets.{AreMet, met}
use Rattle.elementwise.proofs.Meets.{met_append, met_none, met_order, met_same}

-- x and y are left of a and b, and so many positions were found
pub record IsPaired (a b x y : List Entry) (count : ℕ) (ends : List FiberEnd) (inner lefts rights : List ℕ) (room : ℕ) : Type 0 where
  pub rises : Rises 0 ends
  pub whole : last_end 0 ends ≡ count
  pub apart : AreApart ends
  pub so_far : (f : ℕ → ℕ → ℕ) → placed (outers 0 ends) (take count inner)
      (zip_with f (take count lefts) (take count rights)) ++ met f x y ≡ met f a b
  pub ahead : All (λ (r : FiberEnd). All (λ e. r.outer < e.row) x) ends
  pub enough : count + length x ≤ room
  pub inner_long : length inner ≡ room
  pub lefts_long : length lefts ≡ room
  pub rights_long : length rights ≡ room

pub paired_none : (a b : List Entry) (inner lefts rights : List ℕ) (room : ℕ) → length a ≤ room → length inner ≡ room
    → length lefts ≡ room → length rights ≡ room → IsPaired a b a b 0 [] inner lefts rights room
unfolding Rises last_end outers
paired_none a b inner lefts rights room enough i l r = record {
  rises = tt;
  whole = refl;
  apart = all_pairs_nil (λ (r s : FiberEnd). r.outer < s.outer);
  so_far = λ f. refl;
  ahead = All-nil (λ (r : FiberEnd). All (λ e. r.outer < e.row) a);
  enough = omega arith;
  inner_long = i;
  lefts_long = l;
  rights_long = r;
}

-- one fiber of each side, and those behind
met_parts : (f : ℕ → ℕ → ℕ) (outer : ℕ) (fs gs x' y' : List Entry) → All (λ e. e.row ≡ outer) fs
    → All (λ e. e.row ≡ outer) gs → All (λ e. outer < e.row) x' → All (λ e. outer < e.row) y'
    → met f (fs ++ x') (gs ++ y') ≡ met f fs gs ++ met f x' y'
met_parts f outer fs gs x' y' at_fs at_gs late_x late_y =
    let here = met_same f fs (gs ++ y') gs (All-weaker (λ (e : Entry). e.row ≡ outer) (λ (e : Entry). word_at (gs ++ y') e.row e.col ≡ word_at gs e.row e.col)
    (λ e is. word_before e.row e.col gs y' (All-weaker (λ (z : Entry). outer < z.row) (λ (z : Entry). e.row ≢ z.row) (λ z late same. absurd (omega arith)) y' late_y)) fs at_fs) in
    let there = met_same f x' (gs ++ y') y' (All-weaker (λ (e : Entry). outer < e.row) (λ (e : Entry). word_at (gs ++ y') e.row e.col ≡ word_at y' e.row e.col)
    (λ e late. word_behind e.row e.col gs y' (All-weaker (λ (z : Entry). z.row ≡ outer) (λ (z : Entry). e.row ≢ z.row) (λ z is same. absurd (omega arith)) gs at_gs)) x' late_x) in
    met_append f fs x' (gs ++ y') ∙ ap (λ zs. zs ++ met f x' (gs ++ y')) here ∙ ap (λ zs. met f fs gs ++ zs) there

length_zipped : (f : ℕ → ℕ → ℕ) (ls rs : List ℕ) → length rs ≡ length ls → length (zip_with f ls rs) ≡ length ls
length_zipped f ls rs same = length-map (zip ls rs) (λ (p : ℕ × ℕ). f p.0 p.1) ∙ omega (arith, length-zip ls rs)

zipped_append : (f : ℕ → ℕ → ℕ) (ls rs ls' rs' : List ℕ) → length rs ≡ length ls
    → zip_with f (ls ++ ls') (rs ++ rs') ≡ zip_with f ls rs ++ zip_with f ls' rs'
zipped_append f [] [] ls' rs' same = refl
zipped_append f [] (r ∷ rs) ls' rs' same = absurd (omega arith)
zipped_append f (l ∷ ls) [] ls' rs' same = absurd (omega arith)
zipped_append f (l ∷ ls) (r ∷ rs) ls' rs' same = ap (λ zs. f l r ∷ zs) (zipped_append f ls rs ls' rs' (omega arith))

-- the positions of one outer index more, which has some or none
pub placed_more : (f : ℕ → ℕ → ℕ) (outer count n : ℕ) (os os' inner lefts rights cs ls rs : List ℕ) → length os ≡ count
    → length inner ≡ count → length lefts ≡ count → length rights ≡ count → length cs ≡ n → length ls ≡ n
    → length rs ≡ n → os' ≡ os ++ replicate n outer
    → placed os' (inner ++ cs)
    (zip_with f (lefts ++ ls) (rights ++ rs)) ≡ placed os inner (zip_with f lefts rights) ++ entries_along outer cs (zip_with f ls rs)
placed_more f outer count n os os' inner lefts rights cs ls rs o i l r c p q is =
    let words = zip_with f lefts rights in
    let more = zip_with f ls rs in
    let long = length_zipped f lefts rights (omega arith) in
    ap (λ z. placed z (inner ++ cs) (zip_with f (lefts ++ ls) (rights ++ rs))) is
    ∙ ap (λ z. placed (os ++ replicate n outer) (inner ++ cs) z) (zipped_append f lefts rights ls rs (omega arith))
    ∙ placed_both os inner words (replicate n outer) cs more (omega arith) (omega arith)
    ∙ ap (λ z. placed os inner words ++ placed (replicate z outer) cs more) (sym c)
    ∙ ap (λ z. placed os inner words ++ z) (placed_at_one outer cs more)

-- so far, with one outer index more
pub far_more : (f : ℕ → ℕ → ℕ) (outer count n room : ℕ) (a b x y x' y' fs gs : List Entry) (ends ends' : List FiberEnd)
    (inner lefts rights cs ls rs nc nl nr : List ℕ)
    → IsPaired a b x y count ends inner lefts rights room → x ≡ fs ++ x' → y ≡ gs ++ y' → All (λ e. e.row ≡ outer) fs
    → All (λ e. e.row ≡ outer) gs → All (λ e. outer < e.row) x' → All (λ e. outer < e.row) y'
    → entries_along outer cs (zip_with f ls rs) ≡ met f fs gs → length cs ≡ n → length ls ≡ n → length rs ≡ n
    → outers 0 ends' ≡ outers 0 ends ++ replicate n outer
    → take (count + n) nc ≡ take count inner ++ cs → take (count + n) nl ≡ take count lefts ++ ls
    → take (count + n) nr ≡ take count rights ++ rs
    → placed (outers 0 ends') (take (count + n) nc)
    (zip_with f (take (count + n) nl) (take (count + n) nr)) ++ met f x' y' ≡ met f a b
far_more f outer count n room a b x y x' y' fs gs ends ends' inner lefts rights cs ls rs nc nl nr here is_x is_y at_fs at_gs late_x late_y found c l r os is_c is_l is_r =
    let whole = here.whole in
    let enough = here.enough in
    let il = here.inner_long in
    let ll = here.lefts_long in
    let rl = here.rights_long in
    let long = length_outers 0 ends here.rises in
    let front = placed (outers 0 ends) (take count inner) (zip_with f (take count lefts) (take count rights)) in
    let more = placed_more f outer count n (outers 0 ends) (outers 0 ends') (take count inner) (take count lefts) (take count rights) cs ls rs (omega arith) (omega (arith, length-take count inner)) (omega (arith, length-take count lefts)) (omega (arith, length-take count rights)) c l r os in
    rw (is_c, is_l, is_r)
    (ap (λ z. z ++ met f x' y') (more ∙ ap (λ z. front ++ z) found)
    ∙ append_assoc front (met f fs gs) (met f x' y')
    ∙ ap (λ z. front ++ z) (sym (met_parts f outer fs gs x' y' at_fs at_gs late_x late_y))
    ∙ ap (λ z. front ++ z) (rw (is_x, is_y) refl)
    ∙ here.so_far f)

still_ahead : (x fs x' : List Entry) (ends : List FiberEnd) → x ≡ fs ++ x'
    → All (λ (r : FiberEnd). All (λ e. r.outer < e.row) x) ends
    → All (λ (r : FiberEnd). All (λ e. r.outer < e.row) x') ends
still_ahead x fs x' ends is h = All-weaker (λ (r : FiberEnd). All (λ e. r.outer < e.row) x) (λ (r : FiberEnd). All (λ e. r.outer < e.row) x') (λ r p. all_append_right (λ e. r.outer < e.row) fs x' (rw is at p)) ends h

-- what is ahead of a fiber that has entries is ahead of its outer index
below_outer : (v outer : ℕ) (fs x' : List Entry) → All (λ e. e.row ≡ outer) fs → All (λ e. v < e.row) (fs ++ x')
    → 0 < length fs → v < outer
below_outer v outer [] x' at_fs h some = absurd (omega arith)
below_outer v outer (e ∷ es) x' at_fs h some = let at = All-head (λ e. e.row ≡ outer) e es at_fs in let less = All-head (λ e. v < e.row) e (es ++ x') h in omega arith

nothing_met : (f : ℕ → ℕ → ℕ) (x y : List Entry) → (0 < length x → length y ≡ 0) → met f x y ≡ []
unfolding word_at
nothing_met f [] y over = refl
nothing_met f (e ∷ es) [] over = met_none f (e ∷ es) [] (λ k d within. refl)
nothing_met f (e ∷ es) (z ∷ zs) over = absurd (let none = over (omega arith) in omega arith)

-- an outer index at which nothing was found
pub paired_same : (outer count room : ℕ) (a b x y x' y' fs gs : List Entry) (ends : List FiberEnd)
    (inner lefts rights cs ls rs nc nl nr : List ℕ)
    → IsPaired a b x y count ends inner lefts rights room → x ≡ fs ++ x' → y ≡ gs ++ y' → All (λ e. e.row ≡ outer) fs
    → All (λ e. e.row ≡ outer) gs → All (λ e. outer < e.row) x' → All (λ e. outer < e.row) y'
    → ((f : ℕ → ℕ → ℕ) → entries_along outer cs (zip_with f ls rs) ≡ met f fs gs) → length cs ≡ 0 → length ls ≡ 0
    → length rs ≡ 0
    → take (count + 0) nc ≡ take count inner ++ cs → take (count + 0) nl ≡ take count lefts ++ ls
    → take (count + 0) nr ≡ take count rights ++ rs → length nc ≡ room → length nl ≡ room → length nr ≡ room
    → IsPaired a b x' y' (count + 0) ends nc nl nr room
paired_same outer count room a b x y x' y' fs gs ends inner lefts rights cs ls rs nc nl nr here is_x is_y at_fs at_gs late_x late_y found c l r is_c is_l is_r long_c long_l long_r =
    let whole = here.whole in
    let enough = here.enough in
    let size : length x ≡ length fs + length x' = ap length is_x ∙ length-append fs x' in
    record {
      rises = here.rises;
      whole = omega arith;
      apart = here.apart;
      so_far = λ f. far_more f outer count 0 room a b x y x' y' fs gs ends ends inner lefts rights cs ls rs nc nl nr here is_x is_y at_fs at_gs late_x late_y (found f) c l r (sym (append-nil (outers 0 ends))) is_c is_l is_r;
      ahead = still_ahead x fs x' ends is_x here.ahead;
      enough = omega arith;
      inner_long = long_c;
      lefts_long = long_l;
      rights_long = long_r;
    }

-- an outer index at which some were found
pub paired_more : (outer count n room : ℕ) (a b x y x' y' fs gs : List Entry) (ends : List FiberEnd)
    (inner lefts rights cs ls rs nc nl nr : List ℕ)
    → IsPaired a b x y count ends inner lefts rights room → x ≡ fs ++ x' → y ≡ gs ++ y' → All (λ e. e.row ≡ outer) fs
    → All (λ e. e.row ≡ outer) gs → All (λ e. outer < e.row) x' → All (λ e. outer < e.row) y'
    → ((f : ℕ → ℕ → ℕ) → entries_along outer cs (zip_with f ls rs) ≡ met f fs gs) → length cs ≡ n → length ls ≡ n
    → length rs ≡ n → 0 < n → n ≤ length fs
    → take (count + n) nc ≡ take count inner ++ cs → take (count + n) nl ≡ take count lefts ++ ls
    → take (count + n) nr ≡ take count rights ++ rs → length nc ≡ room → length nl ≡ room → length nr ≡ room
    → IsPaired a b x' y' (count + n) (ends ++ end_at outer (count + n) ∷ []) nc nl nr room
unfolding outers
paired_more outer count n room a b x y x' y' fs gs ends inner lefts rights cs ls rs nc nl nr here is_x is_y at_fs at_gs late_x late_y found c l r some few is_c is_l is_r long_c long_l long_r =
    let whole = here.whole in
    let enough = here.enough in
    let size : length x ≡ length fs + length x' = ap length is_x ∙ length-append fs x' in
    let last = end_at outer (count + n) in
    let left_n : count + n - count ≡ n = omega arith in
    let os : outers 0 (ends ++ last ∷ []) ≡ outers 0 ends ++ replicate n outer = outers_append 0 ends (last ∷ []) ∙ rw (whole, left_n) (ap (λ zs. outers 0 ends ++ zs) (append-nil (replicate n outer))) in
    let low : All (λ (r : FiberEnd). r.outer < outer) ends = All-weaker (λ (r : FiberEnd). All (λ e. r.outer < e.row) x) (λ (r : FiberEnd). r.outer < outer)
    (λ r p. below_outer r.outer outer fs x' at_fs (rw is_x at p) (omega arith)) ends here.ahead in
    record {
      rises = rises_more 0 ends last here.rises (omega arith);
      whole = last_more 0 ends last;
      apart = all_pairs_append (λ (r s : FiberEnd). r.outer < s.outer) ends (last ∷ []) here.apart (all_pairs_cons (λ (r s : FiberEnd). r.outer < s.outer) last [] (All-nil (λ (s : FiberEnd). outer < s.outer)) (all_pairs_nil (λ (r s : FiberEnd). r.outer < s.outer)))
          (All-weaker (λ (q : FiberEnd). q.outer < outer) (λ (q : FiberEnd). All (λ (s : FiberEnd). q.outer < s.outer) (last ∷ [])) (λ q less. All-cons (λ (s : FiberEnd). q.outer < s.outer) last [] less (All-nil (λ (s : FiberEnd). q.outer < s.outer))) ends low);
      so_far = λ f. far_more f outer count n room a b x y x' y' fs gs ends (ends ++ last ∷ []) inner lefts rights cs ls rs nc nl nr here is_x is_y at_fs at_gs late_x late_y (found f) c l r os is_c is_l is_r;
      ahead = All-append (λ (r : FiberEnd). All (λ e. r.outer < e.row) x') ends (last ∷ []) (still_ahead x fs x' ends is_x here.ahead) (All-cons (λ (r : FiberEnd). All (λ e. r.outer < e.row) x') last [] late_x (All-nil (λ (r : FiberEnd). All (λ e. r.outer < e.row) x')));
      enough = omega arith;
      inner_long = long_c;
      lefts_long = long_l;
      rights_long = long_r;
    }

-- where one side has nothing left, all were found
pub paired_all : (a b x y : List Entry) (count : ℕ) (ends : List FiberEnd) (inner lefts rights : List ℕ) (room : ℕ)
    → IsPaired a b x y count ends inner lefts rights room → (0 < length x → length y ≡ 0)
    → AreMet a b count ends inner lefts rights
paired_all a b x y count ends inner lefts rights room here over = record {
  rises = here.rises;
  whole = here.whole;
  apart = here.apart;
  each = λ f.
      let front = placed (outers 0 ends) (take count inner) (zip_with f (take count lefts) (take count rights)) in
      sym (append-nil front) ∙ ap (λ z. front ++ z) (sym (nothing_met f x y over)) ∙ here.so_far f;
}

-- the positions found lie flat
pub flat_met : (f : ℕ → ℕ → ℕ) (a b : List Entry) (count : ℕ) (ends : List FiberEnd)
    (inner lefts rights words : List ℕ) → AreMet a b count ends inner lefts rights → InOrder a → count ≤ length inner
    → count ≤ length lefts → count ≤ length rights
    → words ≡ zip_with f (take count lefts) (take count rights) → AreFlat ends (take count inner) words
flat_met f a b count ends inner lefts rights words m order i l r is =
    let whole = m.whole in
    let size : length words ≡ count = ap length is ∙ length_zipped f (take count lefts) (take count rights) (omega (arith, length-take count lefts, length-take count rights)) ∙ omega (arith, length-take count lefts) in
    record {
      same_length = omega (arith, length-take count inner);
      rises = m.rises;
      whole = omega (arith, length-take count inner);
      apart = m.apart;
      order = rw is (subst InOrder (sym (m.each f)) (met_order f a b order));
    }

pub entries_met : (f : ℕ → ℕ → ℕ) (a b : List Entry) (count : ℕ) (ends : List FiberEnd)
    (inner lefts rights words : List ℕ) → AreMet a b count ends inner lefts rights
    → words ≡ zip_with f (take count lefts) (take count rights)
    → entries_from 0 ends (take count inner) words ≡ met f a b
entries_met f a b count ends inner lefts rights words m is = rw is (m.each f)
