-- Entries in any order, of which each is one of a map and none of its entries is missing.
use Rattle.std.proofs.Common.{◌≡◌, ℕ, ◌-◌, Bool, true, false, eqb, ◌&&◌, List, [], ◌∷◌, Option, Some, None, refl, sym, ◌∙◌, ap, inl, inr, arith, get_or, length}
use Rattle.std.specs.Option.{option_map}
use Rattle.std.specs.List.{All, cons_option, filter_map, flat_map}
use Rattle.std.proofs.lemmas.Bool.{cases_Bool, eqb-true, false≢true}
use Rattle.std.proofs.lemmas.List.Elements.{All-append, All-cons, All-head, All-map, All-nil, All-tail}
use Rattle.model.specs.declared.entry.Entry.{Entry}
use Rattle.model.specs.Builds.{gathered, joined_all, words_at}
use Rattle.model.specs.Entries.{InOrder, below, count_from, entries_between, entry_at, row_entries, word_at}
use Rattle.model.specs.Object.{Content, transposed_content}
use Rattle.store.specs.Stored.{transposed}
use Rattle.store.proofs.Contents.{word_at-transposed}
use Rattle.store.proofs.Positions.{word_at-found}

-- each entry is one of a map
abbrev pub AreOf : Content → List Entry → Type 0
AreOf c es = All (λ e. c e.row e.col ≡ Some e.word) es

pub and_both : (a b : Bool) → (a && b) ≡ true → (a ≡ true) × (b ≡ true)
and_both true b h = (refl, h)
and_both false b h = absurd (false≢true h)

-- the words that are listed at a position are the one that the map has there
words_of : (c : Content) (i j : ℕ) (es : List Entry) → AreOf c es → All (λ w. c i j ≡ Some w) (words_at es i j)
words_of c i j [] are = All-nil (λ w. c i j ≡ Some w)
words_of c i j (e ∷ es) are = elim (cases_Bool (eqb i e.row && eqb j e.col)) [
  | inl at ↦ rw at (All-cons (λ w. c i j ≡ Some w) e.word (words_at es i j) (let p = and_both (eqb i e.row) (eqb j e.col) at in rw (eqb-true i e.row p.0, eqb-true j e.col p.1) (All-head (λ e. c e.row e.col ≡ Some e.word) e es are)) (words_of c i j es (All-tail (λ e. c e.row e.col ≡ Some e.word) e es are)))
  | inr away ↦ rw away (words_of c i j es (All-tail (λ e. c e.row e.col ≡ Some e.word) e es are))
]

last_word : (o : Option ℕ) (x : ℕ) (ws : List ℕ) → o ≡ Some x → All (λ w. o ≡ Some w) ws → joined_all None (x ∷ ws) ≡ o
last_word o x [] is are = sym is
last_word o x (w ∷ ws) is are = last_word o w ws (All-head (λ w. o ≡ Some w) w ws are) (All-tail (λ w. o ≡ Some w) w ws are)

-- a position at which nothing is listed
none_listed : (i j : ℕ) (es : List Entry) → words_at es i j ≡ [] → word_at es i j ≡ None
unfolding word_at
none_listed i j [] none = refl
none_listed i j (e ∷ es) none = elim (cases_Bool (eqb i e.row && eqb j e.col)) [
  | inl at ↦ absurd (let no_word = ap length (rw at at none) in omega (arith, no_word))
  | inr away ↦ rw away (none_listed i j es (rw away at none))
]

joined_words : (c : Content) (i j : ℕ) (es : List Entry) (ws : List ℕ) → words_at es i j ≡ ws → AreOf c es
    → (word_at es i j ≡ None → c i j ≡ None) → joined_all None ws ≡ c i j
joined_words c i j es [] is are whole = sym (whole (none_listed i j es is))
joined_words c i j es (w ∷ ws) is are whole =
    let each : All (λ w. c i j ≡ Some w) (w ∷ ws) = rw is at (words_of c i j es are) in
    last_word (c i j) w ws (All-head (λ w. c i j ≡ Some w) w ws each) (All-tail (λ w. c i j ≡ Some w) w ws each)

-- What is gathered of such entries is the map.
pub gathered_is : (c : Content) (i j : ℕ) (es : List Entry) → AreOf c es → (word_at es i j ≡ None → c i j ≡ None)
    → gathered None es i j ≡ c i j
gathered_is c i j es are whole = joined_words c i j es (words_at es i j) refl are whole

-- entries in order are those of the map that they make
pub order_of : (es : List Entry) → InOrder es → AreOf (word_at es) es
order_of es order = λ k d within. sym (word_at-found (get_or es k d).row (get_or es k d).col es k d order within (refl, refl))

columns_are : (c : Content) (i : ℕ) (ks : List ℕ) → AreOf c (filter_map (λ k. option_map (entry_at i k) (c i k)) ks)
columns_are c i [] = All-nil (λ e. c e.row e.col ≡ Some e.word)
columns_are c i (k ∷ ks) =
    let others = filter_map (λ k. option_map (entry_at i k) (c i k)) ks in
    let rest = columns_are c i ks in
    let found : (o : Option ℕ) → c i k ≡ o → AreOf c (cons_option (option_map (entry_at i k) o) others) =
    λ o. elim o as (λ o. c i k ≡ o → AreOf c (cons_option (option_map (entry_at i k) o) others)) [
      | None ↦ λ none. rest
      | Some word ↦ λ some. All-cons (λ e. c e.row e.col ≡ Some e.word) (entry_at i k word) others some rest
    ] in
    found (c i k) refl

rows_are : (cols : ℕ) (c : Content) (is : List ℕ) → AreOf c (flat_map (row_entries cols c) is)
rows_are cols c [] = All-nil (λ e. c e.row e.col ≡ Some e.word)
rows_are cols c (i ∷ is) = All-append (λ e. c e.row e.col ≡ Some e.word) (row_entries cols c i) (flat_map (row_entries cols c) is) (columns_are c i (below cols)) (rows_are cols c is)

-- the entries of some rows of a map
pub between_are : (first past cols : ℕ) (c : Content) → AreOf c (entries_between first past cols c)
unfolding entries_between
between_are first past cols c = rows_are cols c (count_from first (past - first))

-- what is gathered of the transposed entries of a map
pub gathered_transposed : (c : Content) (es : List Entry) → AreOf c es → ((i j : ℕ) → word_at es i j ≡ c i j)
    → (i j : ℕ) → gathered None (transposed es) i j ≡ transposed_content c i j
gathered_transposed c es are is i j =
    gathered_is (transposed_content c) i j (transposed es) (All-map (λ e. transposed_content c e.row e.col ≡ Some e.word) (λ e. entry_at e.col e.row e.word) es are)
    (λ none. sym (is j i) ∙ sym (word_at-transposed es i j) ∙ none)
