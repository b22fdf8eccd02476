-- What two lists of entries have at the same positions.
use Rattle.std.proofs.Common.{◌≡◌, ℕ, ◌<◌, ◌≤◌, true, false, ◌&&◌, eqb, length, List, [], ◌∷◌, ◌++◌, Option, Some, None, refl, sym, ◌∙◌, ap, subst, inl, inr, arith}
use Rattle.std.specs.Option.{option_map}
use Rattle.std.specs.List.{All, AllPairs, cons_option}
use Rattle.std.proofs.lemmas.Bool.{cases_Bool, eq-eqb, ne_eqb}
use Rattle.std.proofs.lemmas.Bool.Decides.{nat_tests}
use Rattle.std.proofs.lemmas.List.Elements.{All-nil, All-cons, All-head, All-tail, All-weaker, filter_map-append}
use Rattle.model.specs.declared.entry.Entry.{Entry}
use Rattle.model.specs.ElementWise.{of_both}
use Rattle.model.specs.Entries.{InOrder, Precedes, entry_at, word_at}
use Rattle.lanes.specs.Lists.{zip_with}
use Rattle.store.specs.Fibers.{entries_along}
use Rattle.store.proofs.FlatLaws.{all_cols}
use Rattle.store.proofs.Positions.{word_at-here, word_at-skip}
use Rattle.store.proofs.RowWords.{no_column}
use Rattle.store.proofs.Order.{all_pairs_cons, all_pairs_head, all_pairs_nil, all_pairs_tail}
use Rattle.algebra.specs.Operators.{eval_of}
use Rattle.algebra.specs.declared.binary.BinaryOp.{BinaryOp}
use Rattle.model.specs.Object.{Content}
use Rattle.store.specs.Stored.{AreIn, along}
use Rattle.store.proofs.Contents.{as_column, by_rows, word_at-transposed}
use Rattle.store.proofs.PartLaws.{LiesIn, are_in, lies_in}
use Rattle.masks.specs.Joins.{HaveSamePlaces, beside}
use Rattle.masks.proofs.SamePlaces.{beside_both}
use Rattle.elementwise.specs.Meets.{met, met_content}

-- what is made of an entry, by the word of the other side
abbrev pub meets : (ℕ → ℕ → ℕ) → Entry → Option ℕ → List Entry → List Entry
meets f e None es = es
meets f e (Some word) es = entry_at e.row e.col (f e.word word) ∷ es

pub met_cons : (f : ℕ → ℕ → ℕ) (e : Entry) (es b : List Entry)
    → met f (e ∷ es) b ≡ meets f e (word_at b e.row e.col) (met f es b)
met_cons f e es b =
    elim (word_at b e.row e.col) as (λ o. cons_option (option_map (λ word. entry_at e.row e.col (f e.word word)) o) (met f es b) ≡ meets f e o (met f es b)) [
      | None ↦ refl
      | Some word ↦ refl
    ]

same_at : (i j row col : ℕ) → (eqb i row && eqb j col) ≡ true → (row ≡ i) × (col ≡ j)
same_at i j row col at = (grind (arith, nat_tests), grind (arith, nat_tests))

nothing_both : (f : ℕ → ℕ → ℕ) (x : Option ℕ) → of_both f x None ≡ None
nothing_both f None = refl
nothing_both f (Some x) = refl

word_misses : (f : ℕ → ℕ → ℕ) (e : Entry) (o : Option ℕ) (es : List Entry) (i j : ℕ)
    → (eqb i e.row && eqb j e.col) ≡ false → word_at (meets f e o es) i j ≡ word_at es i j
unfolding word_at
word_misses f e None es i j away = refl
word_misses f e (Some word) es i j away = rw away refl

-- at the entry's own position
at_entry : (f : ℕ → ℕ → ℕ) (e : Entry) (o : Option ℕ) (es : List Entry) (i j : ℕ) (x : Option ℕ)
    → (eqb i e.row && eqb j e.col) ≡ true → word_at es i j ≡ of_both f x o
    → word_at (meets f e o es) i j ≡ of_both f (Some e.word) o
unfolding word_at
at_entry f e None es i j x at rest = rest ∙ nothing_both f x
at_entry f e (Some word) es i j x at rest = rw at refl

pub met_words : (f : ℕ → ℕ → ℕ) (a b : List Entry) (i j : ℕ)
    → word_at (met f a b) i j ≡ of_both f (word_at a i j) (word_at b i j)
unfolding word_at
met_words f [] b i j = refl
met_words f (e ∷ es) b i j =
    let rest = met_words f es b i j in
    ap (λ fs. word_at fs i j) (met_cons f e es b) ∙
    elim (cases_Bool (eqb i e.row && eqb j e.col)) [
      | inl at ↦
          let same = same_at i j e.row e.col at in
          let word : word_at b e.row e.col ≡ word_at b i j = rw (same.0, same.1) refl in
          rw (at, word) (at_entry f e (word_at b i j) (met f es b) i j (word_at es i j) at rest)
      | inr away ↦ rw away (word_misses f e (word_at b e.row e.col) (met f es b) i j away ∙ rest)
    ]

-- ---- positions

pub met_all : (f : ℕ → ℕ → ℕ) (P : ℕ → ℕ → Type 0) (a b : List Entry) → All (λ e. P e.row e.col) a
    → All (λ e. P e.row e.col) (met f a b)
met_all f P [] b h = All-nil (λ e. P e.row e.col)
met_all f P (e ∷ es) b h =
    let rest = met_all f P es b (All-tail (λ e. P e.row e.col) e es h) in
    let first = All-head (λ e. P e.row e.col) e es h in
    subst (All (λ e. P e.row e.col)) (sym (met_cons f e es b))
    (elim (word_at b e.row e.col) as (λ o. All (λ e. P e.row e.col) (meets f e o (met f es b))) [
      | None ↦ rest
      | Some word ↦ All-cons (λ e. P e.row e.col) (entry_at e.row e.col (f e.word word)) (met f es b) first rest
    ])

pub met_order : (f : ℕ → ℕ → ℕ) (a b : List Entry) → InOrder a → InOrder (met f a b)
met_order f [] b h = all_pairs_nil Precedes
met_order f (e ∷ es) b h =
    let rest = met_order f es b (all_pairs_tail Precedes e es h) in
    let later = met_all f (λ row col. Precedes e (entry_at row col 0)) es b (all_pairs_head Precedes e es h) in
    subst InOrder (sym (met_cons f e es b))
    (elim (word_at b e.row e.col) as (λ o. InOrder (meets f e o (met f es b))) [
      | None ↦ rest
      | Some word ↦ all_pairs_cons Precedes (entry_at e.row e.col (f e.word word)) (met f es b) later rest
    ])

-- ---- parts

pub met_append : (f : ℕ → ℕ → ℕ) (xs ys b : List Entry) → met f (xs ++ ys) b ≡ met f xs b ++ met f ys b
met_append f xs ys b = filter_map-append (λ (e : Entry). option_map (λ word. entry_at e.row e.col (f e.word word)) (word_at b e.row e.col)) xs ys

pub met_same : (f : ℕ → ℕ → ℕ) (a b b' : List Entry)
    → All (λ (e : Entry). word_at b e.row e.col ≡ word_at b' e.row e.col) a → met f a b ≡ met f a b'
met_same f [] b b' h = refl
met_same f (e ∷ es) b b' h =
    met_cons f e es b
    ∙ ap (λ o. meets f e o (met f es b)) (All-head (λ (e : Entry). word_at b e.row e.col ≡ word_at b' e.row e.col) e es h)
    ∙ ap (λ rest. meets f e (word_at b' e.row e.col) rest) (met_same f es b b' (All-tail (λ (e : Entry). word_at b e.row e.col ≡ word_at b' e.row e.col) e es h))
    ∙ sym (met_cons f e es b')

pub met_none : (f : ℕ → ℕ → ℕ) (a b : List Entry) → All (λ (e : Entry). word_at b e.row e.col ≡ None) a → met f a b ≡ []
met_none f [] b h = refl
met_none f (e ∷ es) b h =
    met_cons f e es b
    ∙ ap (λ o. meets f e o (met f es b)) (All-head (λ (e : Entry). word_at b e.row e.col ≡ None) e es h)
    ∙ met_none f es b (All-tail (λ (e : Entry). word_at b e.row e.col ≡ None) e es h)

-- ---- by rows and columns

met_along : (f : ℕ → ℕ → ℕ) (cols : ℕ) (a b : List Entry) (i j : ℕ)
    → word_at (along cols (met f a b)) i j ≡ of_both f (word_at (along cols a) i j) (word_at (along cols b) i j)
met_along f cols a b i j =
    elim (cases_Bool (eqb cols 1)) [
      | inl one ↦ rw (as_column cols (met f a b) one, as_column cols a one, as_column cols b one) (word_at-transposed (met f a b) i j ∙ met_words f a b j i ∙ rw (word_at-transposed a i j, word_at-transposed b i j) refl)
      | inr many ↦ rw (by_rows cols (met f a b) many, by_rows cols a many, by_rows cols b many) (met_words f a b i j)
    ]

-- the same where both sides have their entries at the same positions
pub beside_along : (f : ℕ → ℕ → ℕ) (cols : ℕ) (a b : List Entry) (i j : ℕ) → HaveSamePlaces a b
    → word_at (along cols (beside f a b)) i j ≡ of_both f (word_at (along cols a) i j) (word_at (along cols b) i j)
beside_along f cols a b i j same =
    elim (cases_Bool (eqb cols 1)) [
      | inl one ↦ rw (as_column cols (beside f a b) one, as_column cols a one, as_column cols b one) (word_at-transposed (beside f a b) i j ∙ beside_both f a b j i same ∙ rw (word_at-transposed a i j, word_at-transposed b i j) refl)
      | inr many ↦ rw (by_rows cols (beside f a b) many, by_rows cols a many, by_rows cols b many) (beside_both f a b i j same)
    ]

-- the intersection of the rows of two sides, from that of their fibers
pub rows_met : (op : BinaryOp) (first past cols : ℕ) (a b part : List Entry) (c d : Content)
    → part ≡ met (eval_of op.kind op.domain) a b → AreIn first past cols (along cols a)
    → ((i j : ℕ) → first ≤ i → i < past → word_at (along cols a) i j ≡ c i j)
    → ((i j : ℕ) → first ≤ i → i < past → word_at (along cols b) i j ≡ d i j)
    → AreIn first past cols (along cols part)
    × ((i j : ℕ) → first ≤ i → i < past → word_at (along cols part) i j ≡ met_content op c d i j)
rows_met op first past cols a b part c d is in_a words_a words_b =
    let f = eval_of op.kind op.domain in
    rw is (
      are_in first past cols (met f a b) (met_all f (LiesIn (eqb cols 1) first past cols) a b (lies_in first past cols a in_a)),
      λ i j low high. met_along f cols a b i j ∙ rw (words_a i j low high, words_b i j low high) refl,
    )

-- ---- fibers with the same inner indices

pub same_met : (f : ℕ → ℕ → ℕ) (outer : ℕ) (cols lefts rights : List ℕ) → length lefts ≡ length cols
    → length rights ≡ length cols → AllPairs (λ p q. p < q) cols
    → entries_along outer cols (zip_with f lefts rights) ≡ met f (entries_along outer cols lefts)
    (entries_along outer cols rights)
same_met f outer [] [] [] sl sr rises = refl
same_met f outer [] (l ∷ lefts) rights sl sr rises = absurd (omega arith)
same_met f outer [] [] (r ∷ rights) sl sr rises = absurd (omega arith)
same_met f outer (col ∷ cols) [] rights sl sr rises = absurd (omega arith)
same_met f outer (col ∷ cols) (l ∷ lefts) [] sl sr rises = absurd (omega arith)
same_met f outer (col ∷ cols) (l ∷ lefts) (r ∷ rights) sl sr rises =
    let a = entries_along outer cols lefts in
    let b = entries_along outer cols rights in
    let e = entry_at outer col l in
    let x = entry_at outer col r in
    let here : word_at (x ∷ b) outer col ≡ Some r = word_at-here outer col x b (rw (eq-eqb outer outer refl, eq-eqb col col refl) refl) in
    let behind : All (λ (e : Entry). word_at (x ∷ b) e.row e.col ≡ word_at b e.row e.col) a =
    All-weaker (λ (e : Entry). (e.row ≡ outer) × (col < e.col)) (λ (e : Entry). word_at (x ∷ b) e.row e.col ≡ word_at b e.row e.col)
    (λ e at. let above = at.1 in word_at-skip e.row e.col x b (no_column (eqb e.row outer) (eqb e.col col) (ne_eqb e.col col (λ is. absurd (omega arith))))) a
    (all_cols (λ c. col < c) outer cols lefts (all_pairs_head (λ p q. p < q) col cols rises)) in
    let rest = same_met f outer cols lefts rights (omega arith) (omega arith) (all_pairs_tail (λ p q. p < q) col cols rises) in
    ap (λ es. entry_at outer col (f l r) ∷ es) (rest ∙ sym (met_same f a (x ∷ b) b behind))
    ∙ sym (met_cons f e a (x ∷ b) ∙ ap (λ o. meets f e o (met f a (x ∷ b))) here)
