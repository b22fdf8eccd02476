-- What entries make, in any order, as they lie, and where those of one position are joined.
use Rattle.std.proofs.Common.{◌≡◌, ℕ, ◌^◌, ◌<◌, ◌≤◌, ◌&&◌, true, false, eqb, List, [], ◌∷◌, get_or, Option, refl, sym, ◌∙◌, ap, inl, inr, arith}
use Rattle.std.specs.List.{All, AllPairs}
use Rattle.std.specs.List.Sorted.{IsStableByKey}
use Rattle.std.specs.Ordering.{nat_cmp}
use Rattle.std.proofs.lemmas.Bool.{cases_Bool}
use Rattle.std.proofs.lemmas.Bool.Decides.{nat_tests}
use Rattle.std.proofs.lemmas.List.Elements.{All-cons, All-head, All-map, All-tail, All-weaker}
use Rattle.algebra.specs.declared.operator_names.OpName.{OpName}
use Rattle.model.specs.Builds.{gathered, joined, joined_all, words_at}
use Rattle.model.specs.declared.entry.Entry.{Entry}
use Rattle.model.specs.Entries.{InOrder, IsNotBehind, Precedes, entry_at, word_at}
use Rattle.model.proofs.SortedLaws.{IsNarrow, key_of, words_at-sorted}
use Rattle.store.specs.Stored.{AreIn, along, transposed}
use Rattle.store.proofs.Contents.{transposed_twice, word_at-transposed}
use Rattle.store.proofs.Order.{all_from_map, all_pairs_cons, all_pairs_head, all_pairs_nil, all_pairs_tail}
use Rattle.runs.specs.Runs.{runs_from, runs_of}

-- ---- entries that are joined

words_at-skip : (i j : ℕ) (e : Entry) (es : List Entry) → (eqb i e.row && eqb j e.col) ≡ false
    → words_at (e ∷ es) i j ≡ words_at es i j
words_at-skip i j e es away = rw away refl

words_at-none : (i j : ℕ) (es : List Entry) → All (λ e. (eqb i e.row && eqb j e.col) ≡ false) es → words_at es i j ≡ []
words_at-none i j [] h = refl
words_at-none i j (e ∷ es) h =
    words_at-skip i j e es (All-head (λ e. (eqb i e.row && eqb j e.col) ≡ false) e es h) ∙ words_at-none i j es (All-tail (λ e. (eqb i e.row && eqb j e.col) ≡ false) e es h)

-- behind the first entry of another position its own does not come again
passed : (i j : ℕ) (e f g : Entry) → (eqb i e.row && eqb j e.col) ≡ true → (eqb e.row f.row && eqb e.col f.col) ≡ false
    → IsNotBehind e f → IsNotBehind f g → (eqb i g.row && eqb j g.col) ≡ false
passed i j e f g at other before behind = grind (arith, nat_tests)

none_behind : (i j : ℕ) (e f : Entry) (fs : List Entry) → AllPairs IsNotBehind (e ∷ f ∷ fs)
    → (eqb i e.row && eqb j e.col) ≡ true → (eqb e.row f.row && eqb e.col f.col) ≡ false → words_at (f ∷ fs) i j ≡ []
none_behind i j e f fs order at other =
    let before = All-head (IsNotBehind e) f fs (all_pairs_head IsNotBehind e (f ∷ fs) order) in
    let behind = all_pairs_head IsNotBehind f fs (all_pairs_tail IsNotBehind e (f ∷ fs) order) in
    let away : All (λ g. (eqb i g.row && eqb j g.col) ≡ false) fs = All-weaker (IsNotBehind f) (λ g. (eqb i g.row && eqb j g.col) ≡ false) (λ g p. passed i j e f g at other before p) fs behind in
    let self : IsNotBehind f f = inr (refl, omega arith) in
    words_at-none i j (f ∷ fs) (All-cons (λ g. (eqb i g.row && eqb j g.col) ≡ false) f fs (passed i j e f f at other before self) away)

-- the words of a position, where the first two entries are joined
words_joined : (joins : Option OpName) (i j : ℕ) (e f : Entry) (fs : List Entry)
    → (eqb e.row f.row && eqb e.col f.col) ≡ true
    → gathered joins (entry_at e.row e.col (joined joins e.word f.word) ∷ fs) i j ≡ gathered joins (e ∷ f ∷ fs) i j
words_joined joins i j e f fs same =
    let new = entry_at e.row e.col (joined joins e.word f.word) in
    elim (cases_Bool (eqb i e.row && eqb j e.col)) [
      | inl at ↦
          let f_at : (eqb i f.row && eqb j f.col) ≡ true = grind (arith, nat_tests) in
          rw (at, f_at) refl
      | inr away ↦
          let f_away : (eqb i f.row && eqb j f.col) ≡ false = grind (arith, nat_tests) in
          rw (away, f_away) refl
    ]

-- entries in order that are joined have what the words of each position make
runs_from-words : (joins : Option OpName) (e : Entry) (fs : List Entry) (i j : ℕ) → AllPairs IsNotBehind (e ∷ fs)
    → word_at (runs_from joins e fs) i j ≡ gathered joins (e ∷ fs) i j
unfolding runs_from word_at
runs_from-words joins e [] i j order =
    elim (cases_Bool (eqb i e.row && eqb j e.col)) [ inl at ↦ rw at refl | inr away ↦ rw away refl ]
runs_from-words joins e (f ∷ fs) i j order =
    let behind = all_pairs_tail IsNotBehind e (f ∷ fs) order in
    elim (cases_Bool (eqb e.row f.row && eqb e.col f.col)) [
      | inl same ↦
          let new = entry_at e.row e.col (joined joins e.word f.word) in
          let moved : AllPairs IsNotBehind (new ∷ fs) = all_pairs_cons IsNotBehind new fs (All-tail (IsNotBehind e) f fs (all_pairs_head IsNotBehind e (f ∷ fs) order)) (all_pairs_tail IsNotBehind f fs behind) in
          rw same (runs_from-words joins new fs i j moved ∙ words_joined joins i j e f fs same)
      | inr other ↦
          let rest = runs_from-words joins f fs i j behind in
          rw other (elim (cases_Bool (eqb i e.row && eqb j e.col)) [
            | inl at ↦ rw (at, none_behind i j e f fs order at other) refl
            | inr away ↦ rw away rest
          ])
    ]

pub runs_of-words : (joins : Option OpName) (es : List Entry) (i j : ℕ) → AllPairs IsNotBehind es
    → word_at (runs_of joins es) i j ≡ gathered joins es i j
unfolding word_at
runs_of-words joins [] i j order = refl
runs_of-words joins (e ∷ es) i j order = runs_from-words joins e es i j order

-- entries that stand one behind the other are joined with none
not_behind : (e f : Entry) → Precedes e f → IsNotBehind e f
not_behind e f (inl before) = inl before
not_behind e f (inr before) = inr (before.0, (let less = before.1 in omega arith))

in_order : (es : List Entry) → InOrder es → AllPairs IsNotBehind es
in_order [] h = all_pairs_nil IsNotBehind
in_order (e ∷ es) h = all_pairs_cons IsNotBehind e es (All-weaker (Precedes e) (IsNotBehind e) (not_behind e) es (all_pairs_head Precedes e es h)) (in_order es (all_pairs_tail Precedes e es h))

apart : (e f : Entry) → Precedes e f → (eqb e.row f.row && eqb e.col f.col) ≡ false
apart e f before = grind (arith, nat_tests)

runs_from-apart : (joins : Option OpName) (e : Entry) (fs : List Entry) → InOrder (e ∷ fs)
    → runs_from joins e fs ≡ e ∷ fs
unfolding runs_from
runs_from-apart joins e [] h = refl
runs_from-apart joins e (f ∷ fs) h =
    let before = All-head (Precedes e) f fs (all_pairs_head Precedes e (f ∷ fs) h) in
    rw (apart e f before) (ap (λ es. e ∷ es) (runs_from-apart joins f fs (all_pairs_tail Precedes e (f ∷ fs) h)))

-- so they make what they are
pub words_in_order : (joins : Option OpName) (es : List Entry) → InOrder es → (i j : ℕ)
    → word_at es i j ≡ gathered joins es i j
unfolding word_at
words_in_order joins [] h i j = refl
words_in_order joins (e ∷ es) h i j = ap (λ fs. word_at fs i j) (sym (runs_from-apart joins e es h)) ∙ runs_from-words joins e es i j (in_order (e ∷ es) h)

-- they stand where the entries do
runs_from-all : (P : ℕ → ℕ → Type 0) (joins : Option OpName) (e : Entry) (fs : List Entry)
    → All (λ e. P e.row e.col) (e ∷ fs) → All (λ e. P e.row e.col) (runs_from joins e fs)
unfolding runs_from
runs_from-all P joins e [] h = h
runs_from-all P joins e (f ∷ fs) h =
    let Q : Entry → Type 0 = λ e. P e.row e.col in
    let first = All-head Q e (f ∷ fs) h in
    let rest = All-tail Q e (f ∷ fs) h in
    elim (cases_Bool (eqb e.row f.row && eqb e.col f.col)) [
      | inl same ↦
          let new = entry_at e.row e.col (joined joins e.word f.word) in
          rw same (runs_from-all P joins new fs (All-cons Q new fs first (All-tail Q f fs rest)))
      | inr other ↦ rw other (All-cons Q e (runs_from joins f fs) first (runs_from-all P joins f fs rest))
    ]

pub runs_of-all : (P : ℕ → ℕ → Type 0) (joins : Option OpName) (es : List Entry) → All (λ e. P e.row e.col) es
    → All (λ e. P e.row e.col) (runs_of joins es)
runs_of-all P joins [] h = h
runs_of-all P joins (e ∷ es) h = runs_from-all P joins e es h

-- ---- entries as they lie

words_at-transposed : (es : List Entry) (i j : ℕ) → words_at (transposed es) i j ≡ words_at es j i
words_at-transposed [] i j = refl
words_at-transposed (e ∷ es) i j =
    let rest = words_at-transposed es i j in
    elim (cases_Bool (eqb j e.row && eqb i e.col)) [
      | inl at ↦
          let transposed_at : (eqb i e.col && eqb j e.row) ≡ true = grind (arith, nat_tests) in
          rw (at, transposed_at) (ap (λ ws. e.word ∷ ws) rest)
      | inr away ↦
          let turned_away : (eqb i e.col && eqb j e.row) ≡ false = grind (arith, nat_tests) in
          rw (away, turned_away) rest
    ]

gathered-transposed : (joins : Option OpName) (es : List Entry) (i j : ℕ)
    → gathered joins (transposed es) i j ≡ gathered joins es j i
gathered-transposed joins es i j = ap (joined_all joins) (words_at-transposed es i j)

pub along-words : (joins : Option OpName) (cols : ℕ) (es : List Entry) → AllPairs IsNotBehind es → (i j : ℕ)
    → word_at (along cols (runs_of joins es)) i j ≡ gathered joins (along cols es) i j
along-words joins cols es order i j =
    elim (cases_Bool (eqb cols 1)) [
      | inl one ↦ rw one (word_at-transposed (runs_of joins es) i j ∙ runs_of-words joins es j i order ∙ sym (gathered-transposed joins es i j))
      | inr many ↦ rw many (runs_of-words joins es i j order)
    ]

pub along-inside : (joins : Option OpName) (first past cols : ℕ) (es : List Entry)
    → AreIn first past cols (along cols es) → AreIn first past cols (along cols (runs_of joins es))
along-inside joins first past cols es h =
    let P : ℕ → ℕ → Type 0 = λ i j. ((first ≤ i) × (i < past)) × (j < cols) in
    let turn : Entry → Entry = λ e. entry_at e.col e.row e.word in
    elim (cases_Bool (eqb cols 1)) [
      | inl one ↦
          let inside : AreIn first past cols (transposed es) = rw one at h in
          rw one (All-map (λ e. P e.row e.col) turn (runs_of joins es) (runs_of-all (λ i j. P j i) joins es (all_from_map (λ e. P e.row e.col) turn es inside)))
      | inr many ↦
          let inside : AreIn first past cols es = rw many at h in
          rw many (runs_of-all P joins es inside)
    ]

pub along_twice : (cols : ℕ) (es : List Entry) → along cols (along cols es) ≡ es
along_twice cols es =
    elim (cases_Bool (eqb cols 1)) [ inl one ↦ rw one (transposed_twice es) | inr many ↦ rw many refl ]

transposed_behind : (e f : Entry) → IsNotBehind e f → e.col < 1 → f.col < 1
    → IsNotBehind (entry_at e.col e.row e.word) (entry_at f.col f.row f.word)
transposed_behind e f (inl before) one other = inr (omega arith, omega arith)
transposed_behind e f (inr before) one other = inr (omega arith, omega (arith, before.0))

transposed_order : (es : List Entry) → AllPairs IsNotBehind es → All (λ e. e.col < 1) es
    → AllPairs IsNotBehind (transposed es)
transposed_order [] order h = all_pairs_nil IsNotBehind
transposed_order (e ∷ es) order h =
    let turn : Entry → Entry = λ e. entry_at e.col e.row e.word in
    let rest = transposed_order es (all_pairs_tail IsNotBehind e es order) (All-tail (λ e. e.col < 1) e es h) in
    let behind : All (λ f. IsNotBehind (turn e) (turn f)) es = λ k d within. transposed_behind e (get_or es k d) (all_pairs_head IsNotBehind e es order k d within) (All-head (λ e. e.col < 1) e es h) (All-tail (λ e. e.col < 1) e es h k d within) in
    all_pairs_cons IsNotBehind (turn e) (transposed es) (All-map (IsNotBehind (turn e)) turn es behind) rest

-- entries in order are so as they lie
pub along_order : (first past cols : ℕ) (es : List Entry) → AllPairs IsNotBehind es → AreIn first past cols es
    → AllPairs IsNotBehind (along cols es)
along_order first past cols es order inside =
    elim (cases_Bool (eqb cols 1)) [
      | inl one ↦
          let column : All (λ e. e.col < 1) es = All-weaker (λ e. ((first ≤ e.row) × (e.row < past)) × (e.col < cols)) (λ e. e.col < 1) (λ e p. (let q = p.1 in grind (arith, nat_tests))) es inside in
          rw one (transposed_order es order column)
      | inr many ↦ rw many order
    ]

-- ---- entries that are sorted

pub are_narrow : (first past cols : ℕ) (es : List Entry) → cols < 2 ^ 64 → AreIn first past cols es → All IsNarrow es
are_narrow first past cols es fits inside =
    All-weaker (λ e. ((first ≤ e.row) × (e.row < past)) × (e.col < cols)) IsNarrow (λ e p. (let col = p.1 in omega arith)) es inside

-- what entries make does not change with the order of the list
pub gathered-sorted : (joins : Option OpName) (es sorted : List Entry) → All IsNarrow es → All IsNarrow sorted
    → IsStableByKey key_of nat_cmp es sorted → (i j : ℕ) → gathered joins sorted i j ≡ gathered joins es i j
gathered-sorted joins es sorted before after stable i j =
    ap (joined_all joins) (words_at-sorted es sorted before after stable i j)
