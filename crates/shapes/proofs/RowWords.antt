-- Words of one row, which are its columns' and words' side by side.
use Rattle.std.proofs.Common.{◌≡◌, ◌≢◌, ℕ, ◌<◌, true, false, cond, ◌&&◌, eqb, ltb, List, [], ◌∷◌, ◌++◌, length, get_or, take, drop, Some, None, refl, sym, ◌∙◌, ap, inl, inr, arith, take-append-drop}
use Rattle.std.specs.List.{All, AllPairs}
use Rattle.std.specs.List.Sorted.{IsPartitionPoint}
use Rattle.std.proofs.lemmas.Bool.{cases_Bool, eq-eqb, ne_eqb}
use Rattle.std.proofs.lemmas.Bool.Decides.{nat_tests}
use Rattle.std.proofs.lemmas.List.{get_or_default, length-take}
use Rattle.std.proofs.lemmas.List.Elements.{All-head, All-tail, All-weaker}
use Rattle.model.specs.declared.entry.Entry.{Entry}
use Rattle.model.specs.Entries.{entry_at, word_at}
use Rattle.store.specs.Entries.{IsAt}
use Rattle.store.proofs.FlatLaws.{row_in_order}
use Rattle.store.proofs.Places.{length_row, row_at}
use Rattle.store.proofs.Positions.{word_at-found}
use Rattle.model.specs.Object.{Content}
use Rattle.model.specs.Regions.{cut_to}
use Rattle.store.specs.Fibers.{entries_along}
use Rattle.store.proofs.Order.{all_drop, all_pairs_left, all_take}
use Rattle.shapes.specs.Rows.{IsRowOf}

-- the words of a row whose first column stands apart
pub row_word : (i j c w : ℕ) (cs ws : List ℕ) → word_at (entries_along i (c ∷ cs) (w ∷ ws)) i j ≡ cond (eqb j c)
    (Some w) (word_at (entries_along i cs ws) i j)
unfolding word_at
row_word i j c w cs ws = rw (eq-eqb i i refl) refl

pub no_word : (i j : ℕ) (ws : List ℕ) → word_at (entries_along i [] ws) i j ≡ None
unfolding word_at
no_word i j ws = refl

-- a row has no word at a column that it lacks
pub absent : (i j : ℕ) (cs ws : List ℕ) → All (λ col. j ≢ col) cs → word_at (entries_along i cs ws) i j ≡ None
unfolding word_at
absent i j [] ws other = refl
absent i j (c ∷ cs) [] other = refl
absent i j (c ∷ cs) (w ∷ ws) other = row_word i j c w cs ws ∙ rw (ne_eqb j c (All-head (λ col. j ≢ col) c cs other)) (absent i j cs ws (All-tail (λ col. j ≢ col) c cs other))

pub along_both : (i : ℕ) (cs ws cs' ws' : List ℕ) → length ws ≡ length cs
    → entries_along i (cs ++ cs') (ws ++ ws') ≡ entries_along i cs ws ++ entries_along i cs' ws'
along_both i [] [] cs' ws' same = refl
along_both i [] (w ∷ ws) cs' ws' same = absurd (omega arith)
along_both i (c ∷ cs) [] cs' ws' same = absurd (omega arith)
along_both i (c ∷ cs) (w ∷ ws) cs' ws' same = ap (λ (es : List Entry). record { row = i; col = c; word = w } ∷ es) (along_both i cs ws cs' ws' (omega arith))

-- the words of two parts, of which the second lacks a column
pub word_left : (i j : ℕ) (cs ws cs' ws' : List ℕ) → length ws ≡ length cs → All (λ col. j ≢ col) cs'
    → word_at (entries_along i (cs ++ cs') (ws ++ ws')) i j ≡ word_at (entries_along i cs ws) i j
word_left i j [] [] cs' ws' same other = absent i j cs' ws' other ∙ sym (no_word i j [])
word_left i j [] (w ∷ ws) cs' ws' same other = absurd (omega arith)
word_left i j (c ∷ cs) [] cs' ws' same other = absurd (omega arith)
word_left i j (c ∷ cs) (w ∷ ws) cs' ws' same other =
    row_word i j c w (cs ++ cs') (ws ++ ws') ∙ ap (λ o. cond (eqb j c) (Some w) o) (word_left i j cs ws cs' ws' (omega arith) other) ∙ sym (row_word i j c w cs ws)

-- ---- a row that is cut

cut_word : (i j cols n : ℕ) (cs ws : List ℕ) → length ws ≡ length cs
    → IsPartitionPoint (λ c. ltb c cols ≡ true) (λ c. ltb c cols ≡ false) cs n
    → word_at (entries_along i (take n cs) (take n ws)) i j ≡ cond (ltb j cols)
    (word_at (entries_along i cs ws) i j) None
cut_word i j cols n cs ws same point =
    let before = all_take (λ c. ltb c cols ≡ true) n cs point.0 in
    let behind = all_drop (λ c. ltb c cols ≡ false) n cs point.1 in
    let whole : entries_along i (take n cs ++ drop n cs) (take n ws ++ drop n ws) ≡ entries_along i cs ws = rw (take-append-drop n cs, take-append-drop n ws) refl in
    let long : length (take n ws) ≡ length (take n cs) = omega (arith, length-take n ws, length-take n cs) in
    elim (cases_Bool (ltb j cols)) [
      | inl inside ↦
          let other = All-weaker (λ c. ltb c cols ≡ false) (λ c. j ≢ c) (λ c out at. absurd (grind (arith, nat_tests))) (drop n cs) behind in
          rw inside (sym (word_left i j (take n cs) (take n ws) (drop n cs) (drop n ws) long other) ∙ ap (λ es. word_at es i j) whole)
      | inr outside ↦ rw outside (absent i j (take n cs) (take n ws) (All-weaker (λ c. ltb c cols ≡ true) (λ c. j ≢ c) (λ c less at. absurd (grind (arith, nat_tests))) (take n cs) before))
    ]

-- a row of a map that is cut to so many columns
pub cut_row : (c : Content) (index rows cols n : ℕ) (cs ws : List ℕ) → index < rows → length ws ≡ length cs
    → AllPairs (λ a b. a < b) cs → IsPartitionPoint (λ c. ltb c cols ≡ true) (λ c. ltb c cols ≡ false) cs n
    → ((j : ℕ) → word_at (entries_along index cs ws) index j ≡ c index j)
    → IsRowOf (cut_to rows cols c) index cols (take n cs) (take n ws)
cut_row c index rows cols n cs ws in_rows same rises point words = record {
  lengths = omega (arith, length-take n ws, length-take n cs);
  rising = all_pairs_left (λ a b. a < b) (take n cs) (drop n cs) (rw (take-append-drop n cs) rises);
  inside = All-weaker (λ c. ltb c cols ≡ true) (λ c. c < cols) (λ c less. grind (arith, nat_tests)) (take n cs) (all_take (λ c. ltb c cols ≡ true) n cs point.0);
  words = λ j.
      let in_it : ltb index rows ≡ true = grind (arith, nat_tests) in
      cut_word index j cols n cs ws same point ∙ rw (words j, in_it) refl;
}

pub cut_empty : (rows cols : ℕ) (c : Content) (i : ℕ) → ((j : ℕ) → c i j ≡ None) → (j : ℕ)
    → cut_to rows cols c i j ≡ None
cut_empty rows cols c i none j = elim (cases_Bool (ltb i rows && ltb j cols)) [
  | inl inside ↦ rw inside (none j)
  | inr outside ↦ rw outside refl
]

-- ---- words at places

-- the words of two parts, of which the first lacks a column
pub word_right : (i j : ℕ) (cs ws cs' ws' : List ℕ) → length ws ≡ length cs → All (λ col. j ≢ col) cs
    → word_at (entries_along i (cs ++ cs') (ws ++ ws')) i j ≡ word_at (entries_along i cs' ws') i j
word_right i j [] [] cs' ws' same other = refl
word_right i j [] (w ∷ ws) cs' ws' same other = absurd (omega arith)
word_right i j (c ∷ cs) [] cs' ws' same other = absurd (omega arith)
word_right i j (c ∷ cs) (w ∷ ws) cs' ws' same other =
    row_word i j c w (cs ++ cs') (ws ++ ws') ∙ rw (ne_eqb j c (All-head (λ col. j ≢ col) c cs other)) (word_right i j cs ws cs' ws' (omega arith) (All-tail (λ col. j ≢ col) c cs other))

-- the same columns and words in another row
pub same_words : (i k j : ℕ) (cs ws : List ℕ)
    → word_at (entries_along i cs ws) i j ≡ word_at (entries_along k cs ws) k j
unfolding word_at
same_words i k j [] ws = no_word i j ws ∙ sym (no_word k j ws)
same_words i k j (c ∷ cs) [] = refl
same_words i k j (c ∷ cs) (w ∷ ws) = row_word i j c w cs ws ∙ ap (λ o. cond (eqb j c) (Some w) o) (same_words i k j cs ws) ∙ sym (row_word k j c w cs ws)

-- the word at a place
pub found_word : (i at : ℕ) (cs ws : List ℕ) → length ws ≡ length cs → AllPairs (λ a b. a < b) cs → at < length cs
    → word_at (entries_along i cs ws) i (get_or cs at 0) ≡ Some (get_or ws at 0)
found_word i at cs ws same rises within =
    let es = entries_along i cs ws in
    let d = entry_at 0 0 0 in
    let here = row_at i cs ws at d same within in
    let is : IsAt i (get_or cs at 0) (get_or es at d) = rw here (refl, refl) in
    sym (word_at-found i (get_or cs at 0) es at d (row_in_order i cs ws rises) (omega (arith, length_row i cs ws same)) is) ∙ ap (λ (e : Entry). Some e.word) here

pub missing_word : (i j : ℕ) (cs ws : List ℕ) → ((k : ℕ) → k < length cs → get_or cs k 0 ≢ j)
    → word_at (entries_along i cs ws) i j ≡ None
missing_word i j cs ws other = absent i j cs ws (λ k d within same. other k within (sym (get_or_default cs k d 0 within) ∙ sym same))
