-- Entries of two sides at the same positions.
use Rattle.std.proofs.Common.{◌≡◌, ℕ, ◌<◌, ◌≤◌, true, false, cond, ◌&&◌, eqb, List, [], ◌∷◌, length, map, refl, sym, ◌∙◌, ap, subst, inl, inr, arith}
use Rattle.std.specs.List.{All, AllPairs}
use Rattle.std.proofs.lemmas.Bool.{cases_Bool}
use Rattle.std.proofs.lemmas.List.Elements.{All-map}
use Rattle.lanes.specs.Lists.{zip_with}
use Rattle.model.specs.declared.entry.Entry.{Entry}
use Rattle.model.specs.ElementWise.{of_both, of_either}
use Rattle.model.specs.Entries.{InOrder, Precedes, entry_at, word_at}
use Rattle.store.specs.declared.lists.FiberEnd.{FiberEnd}
use Rattle.store.specs.declared.lists.FiberLists.{FiberLists}
use Rattle.model.specs.Object.{Content}
use Rattle.store.specs.Fibers.{AreFlat, entries_from, entries_in, outers, placed}
use Rattle.store.proofs.Contents.{transposed_twice, words_placed}
use Rattle.store.proofs.Places.{length_placed, long_outers}
use Rattle.std.specs.List.{zip}
use Rattle.std.proofs.lemmas.List.{length-map}
use Rattle.std.proofs.lemmas.Slice.Zip.{length-zip}
use Rattle.store.specs.Parts.{HasRows}
use Rattle.store.specs.Stored.{AreIn, along, transposed}
use Rattle.store.proofs.PartLaws.{LiesIn, are_in, lies_in}
use Rattle.store.proofs.Order.{all_from_map, all_pairs_from_map, all_pairs_map}
use Rattle.masks.specs.Joins.{HaveSamePlaces, beside, place_of}

-- positions don't depend on words
pub same_places : (os is ws vs : List ℕ) → length ws ≡ length vs → HaveSamePlaces (placed os is ws) (placed os is vs)
same_places [] is ws vs same = refl
same_places (o ∷ os) [] ws vs same = refl
same_places (o ∷ os) (i ∷ is) [] [] same = refl
same_places (o ∷ os) (i ∷ is) (w ∷ ws) [] same = absurd (omega arith)
same_places (o ∷ os) (i ∷ is) [] (v ∷ vs) same = absurd (omega arith)
same_places (o ∷ os) (i ∷ is) (w ∷ ws) (v ∷ vs) same = ap (λ es. entry_at o i 0 ∷ es) (same_places os is ws vs (omega arith))

abbrev row_of : List Entry → ℕ
row_of [] = 0
row_of (e ∷ es) = e.row

abbrev col_of : List Entry → ℕ
col_of [] = 0
col_of (e ∷ es) = e.col

abbrev rest_of : List Entry → List Entry
rest_of [] = []
rest_of (e ∷ es) = es

-- the words of both sides side by side, at the positions of one
pub placed_beside : (f : ℕ → ℕ → ℕ) (os is : List ℕ) (a b : List Entry) → placed os is (map (λ e. e.word) a) ≡ a
    → HaveSamePlaces a b → placed os is (zip_with f (map (λ e. e.word) a) (map (λ e. e.word) b)) ≡ beside f a b
placed_beside f [] is [] b whole same = refl
placed_beside f [] is (e ∷ es) b whole same = cc
placed_beside f (o ∷ os) [] [] b whole same = refl
placed_beside f (o ∷ os) [] (e ∷ es) b whole same = cc
placed_beside f (o ∷ os) (i ∷ is) [] b whole same = refl
placed_beside f (o ∷ os) (i ∷ is) (e ∷ es) [] whole same = cc
placed_beside f (o ∷ os) (i ∷ is) (e ∷ es) (g ∷ gs) whole same =
    let row : o ≡ e.row = ap row_of whole in
    let col : i ≡ e.col = ap col_of whole in
    let rest = placed_beside f os is es gs (ap rest_of whole) (ap rest_of same) in
    rw (row, col) (ap (λ rest. entry_at e.row e.col (f e.word g.word) ∷ rest) rest)

pub beside_places : (f : ℕ → ℕ → ℕ) (a b : List Entry) → HaveSamePlaces a b → HaveSamePlaces (beside f a b) a
beside_places f [] b same = refl
beside_places f (e ∷ es) [] same = cc
beside_places f (e ∷ es) (g ∷ gs) same = ap (λ rest. entry_at e.row e.col 0 ∷ rest) (beside_places f es gs (ap rest_of same))

pub places_all : (P : ℕ → ℕ → Type 0) (a b : List Entry) → HaveSamePlaces a b → All (λ e. P e.row e.col) b
    → All (λ e. P e.row e.col) a
places_all P a b same all = all_from_map (λ (e : Entry). P e.row e.col) place_of a (subst (All (λ e. P e.row e.col)) (sym same) (All-map (λ (e : Entry). P e.row e.col) place_of b all))

pub places_order : (a b : List Entry) → HaveSamePlaces a b → InOrder b → InOrder a
places_order a b same order = all_pairs_from_map Precedes place_of a (subst (AllPairs Precedes) (sym same) (all_pairs_map Precedes place_of b order))

-- both sides have a word at a position, or none has
pub beside_either : (alone : ℕ → ℕ) (f : ℕ → ℕ → ℕ) (a b : List Entry) (i j : ℕ) → HaveSamePlaces a b
    → word_at (beside f a b) i j ≡ of_either alone alone f (word_at a i j) (word_at b i j)
unfolding word_at
beside_either alone f [] [] i j same = refl
beside_either alone f [] (g ∷ gs) i j same = cc
beside_either alone f (e ∷ es) [] i j same = cc
beside_either alone f (e ∷ es) (g ∷ gs) i j same =
    let row : g.row ≡ e.row = sym (ap row_of same) in
    let col : g.col ≡ e.col = sym (ap col_of same) in
    let rest = beside_either alone f es gs i j (ap rest_of same) in
    elim (cases_Bool (eqb i e.row && eqb j e.col)) [
      | inl here ↦ rw (row, col, here) refl
      | inr away ↦ rw (row, col, away) rest
    ]

pub beside_both : (f : ℕ → ℕ → ℕ) (a b : List Entry) (i j : ℕ) → HaveSamePlaces a b
    → word_at (beside f a b) i j ≡ of_both f (word_at a i j) (word_at b i j)
unfolding word_at
beside_both f [] [] i j same = refl
beside_both f [] (g ∷ gs) i j same = cc
beside_both f (e ∷ es) [] i j same = cc
beside_both f (e ∷ es) (g ∷ gs) i j same =
    let row : g.row ≡ e.row = sym (ap row_of same) in
    let col : g.col ≡ e.col = sym (ap col_of same) in
    let rest = beside_both f es gs i j (ap rest_of same) in
    elim (cases_Bool (eqb i e.row && eqb j e.col)) [
      | inl here ↦ rw (row, col, here) refl
      | inr away ↦ rw (row, col, away) rest
    ]

-- fibers with other words at the same positions
pub flat_beside : (f : ℕ → ℕ → ℕ) (ends : List FiberEnd) (inner words made : List ℕ) (a b : List Entry)
    → AreFlat ends inner words → length made ≡ length words → entries_from 0 ends inner words ≡ a
    → entries_from 0 ends inner made ≡ beside f a b → HaveSamePlaces a b → AreFlat ends inner made
flat_beside f ends inner words made a b flat long was is same =
    let length_is = flat.same_length in
    record {
      same_length = long ∙ length_is;
      rises = flat.rises;
      whole = flat.whole;
      apart = flat.apart;
      order = subst InOrder (sym is) (places_order (beside f a b) a (beside_places f a b same) (subst InOrder was flat.order));
    }

-- the words of one side at the places of the other
placed_other : (os is ws : List ℕ) (a : List Entry) → HaveSamePlaces a (placed os is ws)
    → placed os is (map (λ e. e.word) a) ≡ a
placed_other [] is ws [] same = refl
placed_other [] is ws (e ∷ es) same = cc
placed_other (o ∷ os) [] ws [] same = refl
placed_other (o ∷ os) [] ws (e ∷ es) same = cc
placed_other (o ∷ os) (i ∷ is) [] [] same = refl
placed_other (o ∷ os) (i ∷ is) [] (e ∷ es) same = cc
placed_other (o ∷ os) (i ∷ is) (w ∷ ws) [] same = cc
placed_other (o ∷ os) (i ∷ is) (w ∷ ws) (e ∷ es) same =
    let row : o ≡ e.row = sym (ap row_of same) in
    let col : i ≡ e.col = sym (ap col_of same) in
    rw (row, col) (ap (λ rest. e ∷ rest) (placed_other os is ws es (ap rest_of same)))

-- fibers with what is made of the words of the other side and their own
pub flat_over : (f : ℕ → ℕ → ℕ) (a : List Entry) (ends : List FiberEnd) (inner words : List ℕ)
    → AreFlat ends inner words → HaveSamePlaces a (entries_from 0 ends inner words)
    → let made = zip_with f (map (λ e. e.word) a) words in
    AreFlat ends inner made × (entries_from 0 ends inner made ≡ beside f a (entries_from 0 ends inner words))
flat_over f a ends inner words flat same =
    let os = outers 0 ends in
    let b = entries_from 0 ends inner words in
    let lefts = map (λ (e : Entry). e.word) a in
    let made = zip_with f lefts words in
    let long = long_outers ends inner words flat in
    let count = ap length same in
    let count_b = length_placed os inner words long.0 long.1 in
    let own : map (λ (e : Entry). e.word) b ≡ words = words_placed os inner words long.0 long.1 in
    let is : entries_from 0 ends inner made ≡ beside f a b = rw own at (placed_beside f os inner a b (placed_other os inner words a same) same) in
    let same_length = flat.same_length in (
      record {
        same_length = omega (arith, length-map (zip lefts words) (λ (p : ℕ × ℕ). f p.0 p.1), length-zip lefts words, length-map a (λ (e : Entry). e.word), length-map a place_of, length-map b place_of);
        rises = flat.rises;
        whole = flat.whole;
        apart = flat.apart;
        order = subst InOrder (sym is) (places_order (beside f a b) b (beside_places f a b same ∙ same) flat.order);
      },
      is,
    )

pub count_over : (a : List Entry) (ends : List FiberEnd) (inner words : List ℕ) → AreFlat ends inner words
    → HaveSamePlaces a (entries_from 0 ends inner words) → length words ≡ length (map (λ e. e.word) a)
count_over a ends inner words flat same =
    let os = outers 0 ends in
    let b = entries_from 0 ends inner words in
    let long = long_outers ends inner words flat in
    let count = ap length same in
    let count_b = length_placed os inner words long.0 long.1 in
    let long_words = long.1 in
    omega (arith, length-map a (λ (e : Entry). e.word), length-map a place_of, length-map b place_of)

pub zip_right : (xs ys : List ℕ) → length xs ≡ length ys → zip_with (λ x y. y) xs ys ≡ ys
zip_right [] [] same = refl
zip_right [] (y ∷ ys) same = absurd (omega arith)
zip_right (x ∷ xs) [] same = absurd (omega arith)
zip_right (x ∷ xs) (y ∷ ys) same = ap (λ zs. y ∷ zs) (zip_right xs ys (omega arith))

-- the rows of both sides, of which the entries stand at the same positions
pub rows_beside : (made : Content) (f : ℕ → ℕ → ℕ) (first past cols : ℕ) (a b : List Entry) (lists : FiberLists)
    → HaveSamePlaces a b → AreFlat lists.ends.items lists.inner.items lists.words.items
    → entries_in lists ≡ beside f a b → AreIn first past cols (along cols a)
    → ((i j : ℕ) → first ≤ i → i < past → word_at (along cols (beside f a b)) i j ≡ made i j)
    → HasRows made first past cols lists
rows_beside made f first past cols a b lists same flat is inside words = record {
  flat = flat;
  inside = rw is (are_in first past cols (beside f a b) (places_all (λ row col. LiesIn (eqb cols 1) first past cols row col) (beside f a b) a (beside_places f a b same) (lies_in first past cols a inside)));
  words = λ i j low high. rw is (words i j low high);
}

-- the entries as they lie, exchanged twice
pub along_twice : (cols : ℕ) (es : List Entry) → along cols (along cols es) ≡ es
along_twice cols es = elim (eqb cols 1) as (λ b. cond b (transposed (cond b (transposed es) es)) (cond b (transposed es) es) ≡ es) [
  | true ↦ transposed_twice es
  | false ↦ refl
]
