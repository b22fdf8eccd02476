-- The words of a join, place by place.
use Rattle.std.proofs.Common.{◌≡◌, ℕ, ◌+◌, ◌<◌, true, false, ◌&&◌, cond, eqb, List, [], ◌∷◌, length, get_or, set, map, Option, Some, None, refl, sym, ◌∙◌, ap, subst, inl, inr, arith}
use Rattle.std.specs.List.{All, filter_map, zip}
use Rattle.std.proofs.lemmas.Bool.{cases_Bool, cases_eq}
use Rattle.std.proofs.lemmas.Slice.Zip.{get_or-zip, length-zip}
use Rattle.algebra.specs.declared.domain.Domain.{Domain}
use Rattle.algebra.specs.declared.kinds.BinaryKind.{BinaryKind}
use Rattle.algebra.specs.Operators.{answer_domain, eval_of}
use Rattle.algebra.specs.Value.{cast_of}
use Rattle.lanes.specs.Lists.{united, united_word, zip_with}
use Rattle.std.proofs.lemmas.Bool.Decides.{nat_tests}
use Rattle.std.proofs.lemmas.List.{ext_get_or, get_or-map, get_or-set_other, get_or-set_same, length-map}
use Rattle.std.proofs.lemmas.List.Elements.{All-head, All-tail, All-map}
use Rattle.model.specs.declared.entry.Entry.{Entry}
use Rattle.model.specs.Entries.{InOrder, Precedes, entry_at, word_at}
use Rattle.model.specs.ElementWise.{of_either}
use Rattle.store.specs.Fibers.{placed}
use Rattle.store.proofs.Order.{all_pairs_nil, all_pairs_cons, all_pairs_head, all_pairs_tail}
use Rattle.masks.specs.Merges.{Place, position, left_entry, right_entry, Stand, IsMerge}
use Rattle.masks.specs.Joins.{AreJoined, joined_word}

abbrev pub value : (ℕ → ℕ) → (ℕ → ℕ → ℕ) → Place → ℕ
value alone f p = joined_word alone f p.side p.left p.right

abbrev pub entry_of : (ℕ → ℕ) → (ℕ → ℕ → ℕ) → Place → Entry
entry_of alone f p = entry_at p.row p.col (value alone f p)

pub placed_places : (alone : ℕ → ℕ) (f : ℕ → ℕ → ℕ) (ps : List Place)
    → placed (map (λ p. p.row) ps) (map (λ p. p.col) ps) (map (value alone f) ps) ≡ map (entry_of alone f) ps
placed_places alone f [] = refl
placed_places alone f (p ∷ ps) = ap (λ es. entry_of alone f p ∷ es) (placed_places alone f ps)

-- words that are right in each place
pub words_are : (alone : ℕ → ℕ) (f : ℕ → ℕ → ℕ) (ps : List Place) (sides lefts rights words : List ℕ)
    → sides ≡ map (λ p. p.side) ps → lefts ≡ map (λ p. p.left) ps → rights ≡ map (λ p. p.right) ps
    → length words ≡ length ps
    → ((k : ℕ) → k < length words → get_or words k 0 ≡ joined_word alone f (get_or sides k 0) (get_or lefts k 0) (get_or rights k 0)) → words ≡ map (value alone f) ps
words_are alone f ps sides lefts rights words s l r same each =
    let p0 : Place = record { row = 0; col = 0; left = 0; right = 0; side = 0 } in
    ext_get_or 0 words (map (value alone f) ps) (same ∙ sym (length-map ps (value alone f)))
    (λ i within.
    let inside : i < length ps = omega arith in
    each i within
    ∙ rw (s, l, r, get_or-map (λ (p : Place). p.side) ps i p0 0 inside, get_or-map (λ (p : Place). p.left) ps i p0 0 inside, get_or-map (λ (p : Place). p.right) ps i p0 0 inside) (sym (get_or-map (value alone f) ps i p0 0 inside)))

-- ---- one side of the places

abbrev pub side_entry : ℕ → (Place → ℕ) → Place → Option Entry
side_entry out word p = cond (eqb p.side out) None (Some (entry_at p.row p.col (word p)))

not_at : (i j : ℕ) (p q : Place) → Precedes (position p) (position q) → (eqb i p.row && eqb j p.col) ≡ true
    → (eqb i q.row && eqb j q.col) ≡ false
not_at i j p q before at = grind (arith, nat_tests)

pub none_later : (out : ℕ) (word : Place → ℕ) (i j : ℕ) (p : Place) (ps : List Place)
    → All (λ q. Precedes (position p) (position q)) ps → (eqb i p.row && eqb j p.col) ≡ true
    → word_at (filter_map (side_entry out word) ps) i j ≡ None
unfolding word_at
none_later out word i j p [] h at = refl
none_later out word i j p (q ∷ qs) h at =
    let before : Precedes (position p) (position q) = All-head (λ q. Precedes (position p) (position q)) q qs h in
    let rest = none_later out word i j p qs (All-tail (λ q. Precedes (position p) (position q)) q qs h) at in
    elim (cases_Bool (eqb q.side out)) [
      | inl is ↦ rw is rest
      | inr other ↦ rw (other, not_at i j p q before at) rest
    ]

pub away_from : (out : ℕ) (word : Place → ℕ) (i j : ℕ) (p : Place) (ps : List Place)
    → (eqb i p.row && eqb j p.col) ≡ false
    → word_at (filter_map (side_entry out word) (p ∷ ps)) i j ≡ word_at (filter_map (side_entry out word) ps) i j
unfolding word_at
away_from out word i j p ps away =
    elim (cases_Bool (eqb p.side out)) [
      | inl is ↦ rw is refl
      | inr other ↦ rw (other, away) refl
    ]

pub not_both : (n : ℕ) → eqb n 2 ≡ true → eqb n 1 ≡ false
not_both n h = grind (arith, nat_tests)

-- the words of the places are the join of the two sides'
pub joined_words : (alone : ℕ → ℕ) (f : ℕ → ℕ → ℕ) (ps : List Place) (i j : ℕ) → Stand ps
    → word_at (map (entry_of alone f) ps) i j ≡ of_either alone alone f (word_at (filter_map left_entry ps) i j)
    (word_at (filter_map right_entry ps) i j)
unfolding word_at
joined_words alone f [] i j order = refl
joined_words alone f (p ∷ ps) i j order =
    let later = all_pairs_head (λ p q. Precedes (position p) (position q)) p ps order in
    let rest = joined_words alone f ps i j (all_pairs_tail (λ p q. Precedes (position p) (position q)) p ps order) in
    elim (cases_Bool (eqb i p.row && eqb j p.col)) [
      | inl at ↦
          let no_left : word_at (filter_map left_entry ps) i j ≡ None = none_later 2 (λ p. p.left) i j p ps later at in
          let no_right : word_at (filter_map right_entry ps) i j ≡ None = none_later 1 (λ p. p.right) i j p ps later at in
          elim (cases_Bool (eqb p.side 2)) [
            | inl two ↦ rw (at, two, not_both p.side two) (rw (at, no_left) refl)
            | inr other ↦ elim (cases_Bool (eqb p.side 1)) [
              | inl one ↦ rw (at, other, one) (rw (at, no_right) refl)
              | inr both ↦ rw (at, other, both) (rw at refl)
            ]
          ]
      | inr away ↦ rw (away_from 2 (λ p. p.left) i j p ps away, away_from 1 (λ p. p.right) i j p ps away, away) rest
    ]

pub places_in_order : (alone : ℕ → ℕ) (f : ℕ → ℕ → ℕ) (ps : List Place) → Stand ps → InOrder (map (entry_of alone f) ps)
places_in_order alone f [] h = all_pairs_nil Precedes
places_in_order alone f (p ∷ ps) h =
    all_pairs_cons Precedes (entry_of alone f p) (map (entry_of alone f) ps)
    (All-map (Precedes (entry_of alone f p)) (entry_of alone f) ps (all_pairs_head (λ p q. Precedes (position p) (position q)) p ps h))
    (places_in_order alone f ps (all_pairs_tail (λ p q. Precedes (position p) (position q)) p ps h))

-- ---- the lists of a merge, with the words of the join

pub lengths : (a b : List Entry) (rows cols lefts rights sides : List ℕ) → IsMerge a b rows cols lefts rights sides
    → (length cols ≡ length rows) × ((length lefts ≡ length sides) × ((length rights ≡ length sides) × (length sides ≡ length rows)))
lengths a b rows cols lefts rights sides m =
    let n = length m.places in
    let r : length rows ≡ n = ap length m.rows_are ∙ length-map m.places (λ (p : Place). p.row) in
    let c : length cols ≡ n = ap length m.cols_are ∙ length-map m.places (λ (p : Place). p.col) in
    let l : length lefts ≡ n = ap length m.lefts_are ∙ length-map m.places (λ (p : Place). p.left) in
    let g : length rights ≡ n = ap length m.rights_are ∙ length-map m.places (λ (p : Place). p.right) in
    let s : length sides ≡ n = ap length m.sides_are ∙ length-map m.places (λ (p : Place). p.side) in
    (c ∙ sym r, (l ∙ sym s, (g ∙ sym s, s ∙ sym r)))

pub placed_is : (alone : ℕ → ℕ) (f : ℕ → ℕ → ℕ) (a b : List Entry) (rows cols lefts rights sides words : List ℕ)
    (m : IsMerge a b rows cols lefts rights sides) → AreJoined alone f sides lefts rights words
    → placed rows cols words ≡ map (entry_of alone f) m.places
placed_is alone f a b rows cols lefts rights sides words m u =
    let long = u.long ∙ ap length m.sides_are ∙ length-map m.places (λ (p : Place). p.side) in
    let is = words_are alone f m.places sides lefts rights words m.sides_are m.lefts_are m.rights_are long u.each in
    let rows_are = m.rows_are in
    let cols_are = m.cols_are in
    rw (rows_are, cols_are, is) (placed_places alone f m.places)

pub placed_order : (alone : ℕ → ℕ) (f : ℕ → ℕ → ℕ) (a b : List Entry) (rows cols lefts rights sides words : List ℕ)
    (m : IsMerge a b rows cols lefts rights sides) → AreJoined alone f sides lefts rights words
    → InOrder (placed rows cols words)
placed_order alone f a b rows cols lefts rights sides words m u = subst InOrder (sym (placed_is alone f a b rows cols lefts rights sides words m u)) (places_in_order alone f m.places m.order)

pub placed_words : (alone : ℕ → ℕ) (f : ℕ → ℕ → ℕ) (a b : List Entry) (rows cols lefts rights sides words : List ℕ)
    (m : IsMerge a b rows cols lefts rights sides) → AreJoined alone f sides lefts rights words → (i j : ℕ)
    → word_at (placed rows cols words) i j ≡ of_either alone alone f (word_at a i j) (word_at b i j)
placed_words alone f a b rows cols lefts rights sides words m u i j =
    ap (λ es. word_at es i j) (placed_is alone f a b rows cols lefts rights sides words m u)
    ∙ joined_words alone f m.places i j m.order
    ∙ ap (λ es. of_either alone alone f (word_at es i j) (word_at (filter_map right_entry m.places) i j)) m.left
    ∙ ap (λ es. of_either alone alone f (word_at a i j) (word_at es i j)) m.right

-- ---- words put in place

pub zipped : (f : ℕ → ℕ → ℕ) (xs ys : List ℕ) (k : ℕ) → k < length xs → length ys ≡ length xs
    → get_or (zip_with f xs ys) k 0 ≡ f (get_or xs k 0) (get_or ys k 0)
zipped f xs ys k within same =
    let long = length-zip xs ys in
    get_or-map (λ (p : ℕ × ℕ). f p.0 p.1) (zip xs ys) k ((0, 0)) 0 (omega arith) ∙ ap (λ (p : ℕ × ℕ). f p.0 p.1) (get_or-zip xs ys k ((0, 0)) within (omega arith))

-- the word of a place, of those of both sides
abbrev pub placed_word : List ℕ → List ℕ → List ℕ → List ℕ → ℕ → ℕ
placed_word sides lefts rights words k = cond (eqb (get_or sides k 0) 1) (get_or lefts k 0) (cond (eqb (get_or sides k 0) 2) (get_or rights k 0) (get_or words k 0))

pub united_at : (kind : BinaryKind) (d : Domain) (sides lefts rights : List ℕ) (k : ℕ) → k < length sides
    → length lefts ≡ length sides → length rights ≡ length sides
    → get_or (united kind d sides lefts rights) k 0 ≡ joined_word (cast_of d (answer_domain kind d)) (eval_of kind d)
    (get_or sides k 0) (get_or lefts k 0) (get_or rights k 0)
united_at kind d sides lefts rights k within l r =
    let long = length-zip lefts rights in
    let long' = length-zip sides (zip lefts rights) in
    let at = get_or-zip sides (zip lefts rights) k (0, (0, 0)) within (omega arith) ∙ ap (λ (p : ℕ × ℕ). (get_or sides k 0, p)) (get_or-zip lefts rights k (0, 0) (omega arith) (omega arith)) in
    get_or-map (λ (p : ℕ × (ℕ × ℕ)). united_word kind d p.0 p.1.0 p.1.1) (zip sides (zip lefts rights)) k (0, (0, 0)) 0 (omega arith)
    ∙ ap (λ (p : ℕ × (ℕ × ℕ)). united_word kind d p.0 p.1.0 p.1.1) at

pub words_done : (words : List ℕ) (k word : ℕ) (P : ℕ → ℕ) → k < length words
    → ((n : ℕ) → n < k → get_or words n 0 ≡ P n) → word ≡ P k → (n : ℕ) → n < k + 1
    → get_or (set words k word) n 0 ≡ P n
words_done words k word P room done is n below =
    elim (cases_eq n k) [
      | inl same ↦ rw same (get_or-set_same words k word 0 room ∙ is)
      | inr other ↦ get_or-set_other words k n word 0 other ∙ done n (omega arith)
    ]

-- the words of both, and over them those of one side alone
pub words_chosen : (f : ℕ → ℕ → ℕ) (sides lefts rights both words : List ℕ) → length sides ≡ length both
    → length words ≡ length both
    → ((k : ℕ) → k < length both → get_or both k 0 ≡ f (get_or lefts k 0) (get_or rights k 0))
    → ((k : ℕ) → k < length both → get_or words k 0 ≡ placed_word sides lefts rights both k)
    → AreJoined (λ word. word) f sides lefts rights words
words_chosen f sides lefts rights both words long same made chosen = record {
  long = omega arith;
  each = λ k within.
      let inside : k < length both = omega arith in
      chosen k inside ∙ ap (λ word. cond (eqb (get_or sides k 0) 1) (get_or lefts k 0) (cond (eqb (get_or sides k 0) 2) (get_or rights k 0) word)) (made k inside);
}

-- the words of a union
pub words_united : (kind : BinaryKind) (d : Domain) (sides lefts rights words : List ℕ) → length lefts ≡ length sides
    → length rights ≡ length sides → words ≡ united kind d sides lefts rights
    → AreJoined (cast_of d (answer_domain kind d)) (eval_of kind d) sides lefts rights words
words_united kind d sides lefts rights words l r is =
    let all = zip sides (zip lefts rights) in
    let long : length words ≡ length sides = ap length is ∙ length-map all (λ (p : ℕ × (ℕ × ℕ)). united_word kind d p.0 p.1.0 p.1.1) ∙ omega (arith, length-zip sides (zip lefts rights), length-zip lefts rights) in
    record {
      long = long;
      each = λ k within. ap (λ ws. get_or ws k 0) is ∙ united_at kind d sides lefts rights k (omega arith) l r;
    }
