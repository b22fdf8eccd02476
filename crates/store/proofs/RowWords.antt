-- The words of rows of a map, by their entries.
use Rattle.std.proofs.Common.{◌≡◌, ◌≢◌, ℕ, ◌+◌, ◌<◌, ◌≤◌, Bool, true, false, cond, ◌&&◌, eqb, leb, ltb, List, [], ◌∷◌, length, zero, suc, get_or, Option, Some, None, sym, ◌∙◌, ap, inl, inr, refl, arith}
use Rattle.std.specs.Option.{option_map, option_to_list}
use Rattle.std.specs.List.{All, cons_option, filter, filter_map}
use Rattle.std.proofs.lemmas.Bool.{cases_Bool, eq-eqb, eqb-true, false≢true, ne_eqb}
use Rattle.std.proofs.lemmas.Bool.Decides.{nat_tests}
use Rattle.std.proofs.lemmas.List.Elements.{All-head, All-tail, All-weaker}
use Rattle.model.specs.declared.entry.Entry.{Entry}
use Rattle.model.specs.Entries.{InOrder, Precedes, count_from, entry_at, row_entries, word_at}
use Rattle.model.specs.Object.{Content}
use Rattle.store.proofs.Order.{all_pairs_cons, all_pairs_nil}
use Rattle.store.proofs.Positions.{word_at-here, word_at-skip}
use Rattle.store.proofs.RowEntries.{columns_inside, one_column}

pub no_column : (a b : Bool) → b ≡ false → (a && b) ≡ false
no_column true b h = h
no_column false b h = refl

eqb_no : (a b : ℕ) → eqb a b ≡ false → a ≢ b
eqb_no a b other same = absurd (false≢true (sym other ∙ eq-eqb a b same))

one_there : (i j : ℕ) (e : Entry) (rest : List Entry) (o : Option ℕ)
    → e ∷ rest ≡ option_to_list (option_map (entry_at i j) o) → o ≡ Some e.word
one_there i j e rest None is = absurd (let no = ap length is in omega (arith, no))
one_there i j e rest (Some w) is = sym (ap (λ (es : List Entry). Some (get_or es 0 (entry_at 0 0 0)).word) is)

-- of entries of one row, the word at a column is that of the entry there
word_in_column : (i j : ℕ) (es : List Entry) (o : Option ℕ) → All (λ e. e.row ≡ i) es
    → filter (λ e. eqb e.col j) es ≡ option_to_list (option_map (entry_at i j) o) → word_at es i j ≡ o
unfolding word_at
word_in_column i j [] None row is = refl
word_in_column i j [] (Some w) row is = absurd (let no = ap length is in omega (arith, no))
word_in_column i j (e ∷ es) o row is = elim (cases_Bool (eqb e.col j)) [
  | inl at ↦
      let here : (eqb i e.row && eqb j e.col) ≡ true = rw (eq-eqb i e.row (sym (All-head (λ e. e.row ≡ i) e es row)), eq-eqb j e.col (sym (eqb-true e.col j at))) refl in
      word_at-here i j e es here ∙ sym (one_there i j e (filter (λ e. eqb e.col j) es) o (rw at at is))
  | inr away ↦
      let other : (eqb i e.row && eqb j e.col) ≡ false = no_column (eqb i e.row) (eqb j e.col) (ne_eqb j e.col (λ same. absurd (eqb_no e.col j away (sym same)))) in
      word_at-skip i j e es other ∙ word_in_column i j es o (All-tail (λ e. e.row ≡ i) e es row) (rw away at is)
]

-- the words of some columns of a map's row are those of its entries there
pub columns_words : (c : Content) (i j n first : ℕ)
    → word_at (filter_map (λ k. option_map (entry_at i k) (c i k)) (count_from first n)) i j ≡ cond (leb first j && ltb j (first + n)) (c i j) None
columns_words c i j n first =
    let es = filter_map (λ k. option_map (entry_at i k) (c i k)) (count_from first n) in
    word_in_column i j es (cond (leb first j && ltb j (first + n)) (c i j) None)
    (All-weaker (λ (e : Entry). (e.row ≡ i) × ((first ≤ e.col) × (e.col < first + n))) (λ (e : Entry). e.row ≡ i) (λ e p. p.0) es (columns_inside c i n first))
    (one_column c i j n first)

-- the words of a map's row are those of its entries
pub word_at-row_entries : (cols : ℕ) (c : Content) (i j : ℕ)
    → word_at (row_entries cols c i) i j ≡ cond (ltb j cols) (c i j) None
word_at-row_entries cols c i j = let same : (leb 0 j && ltb j (0 + cols)) ≡ ltb j cols = grind (arith, nat_tests) in rw same at (columns_words c i j cols 0)

-- the entries of a row in some columns are in order
pub columns_rise : (c : Content) (i n first : ℕ)
    → InOrder (filter_map (λ k. option_map (entry_at i k) (c i k)) (count_from first n))
unfolding count_from
columns_rise c i zero first = all_pairs_nil Precedes
columns_rise c i (suc n) first =
    let rest = filter_map (λ k. option_map (entry_at i k) (c i k)) (count_from (first + 1) n) in
    let later = columns_rise c i n (first + 1) in
    elim (c i first) as (λ o. InOrder (cons_option (option_map (entry_at i first) o) rest)) [
      | None ↦ later
      | Some w ↦ all_pairs_cons Precedes (entry_at i first w) rest (All-weaker (λ (e : Entry). (e.row ≡ i) × ((first + 1 ≤ e.col) × (e.col < first + 1 + n))) (Precedes (entry_at i first w)) (λ e p. let low = p.1.0 in inr (sym p.0, omega arith)) rest (columns_inside c i n (first + 1))) later
    ]
