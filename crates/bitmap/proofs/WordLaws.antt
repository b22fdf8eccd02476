-- The maps that lists of entries stand for: lists one behind the other, and the entries of a map.
use Rattle.std.proofs.Common.{◌≡◌, ℕ, zero, suc, ◌+◌, true, false, cond, ◌&&◌, eqb, leb, ltb, List, [], ◌∷◌, ◌++◌, Some, None, refl, sym, ◌∙◌, ap, inl, inr, arith}
use Rattle.std.specs.Option.{option_map}
use Rattle.std.specs.List.{All, cons_option, flat_map}
use Rattle.std.proofs.lemmas.Bool.{cases_Bool, cases_eq}
use Rattle.std.proofs.lemmas.Bool.Decides.{nat_tests}
use Rattle.std.proofs.lemmas.List.Elements.{All-head, All-tail}
use Rattle.model.specs.declared.entry.Entry.{Entry}
use Rattle.model.specs.Entries.{count_from, entries_of, entry_at, row_entries, word_at}
use Rattle.model.specs.Object.{Content}
use Rattle.bitmap.specs.Bitmaps.{row_part}

pub word_at-skip : (i j : ℕ) (e : Entry) (es : List Entry) → (eqb i e.row && eqb j e.col) ≡ false
    → word_at (e ∷ es) i j ≡ word_at es i j
unfolding word_at
word_at-skip i j e es h = rw h

pub word_at-here : (i j : ℕ) (e : Entry) (es : List Entry) → (eqb i e.row && eqb j e.col) ≡ true
    → word_at (e ∷ es) i j ≡ Some e.word
unfolding word_at
word_at-here i j e es h = rw h

-- where no entry is at a position, there is no word
pub word_at-none : (i j : ℕ) (es : List Entry) → All (λ e. (eqb i e.row && eqb j e.col) ≡ false) es
    → word_at es i j ≡ None
unfolding word_at
word_at-none i j [] h = refl
word_at-none i j (e ∷ es) h =
    word_at-skip i j e es (All-head (λ e. (eqb i e.row && eqb j e.col) ≡ false) e es h)
    ∙ word_at-none i j es (All-tail (λ e. (eqb i e.row && eqb j e.col) ≡ false) e es h)

-- ---- lists one behind the other

pub append_right : (i j : ℕ) (xs ys : List Entry) → word_at ys i j ≡ None → word_at (xs ++ ys) i j ≡ word_at xs i j
unfolding word_at
append_right i j [] ys none = none
append_right i j (x ∷ xs) ys none = ap (cond (eqb i x.row && eqb j x.col) (Some x.word)) (append_right i j xs ys none)

pub append_left : (i j : ℕ) (xs ys : List Entry) → word_at xs i j ≡ None → word_at (xs ++ ys) i j ≡ word_at ys i j
unfolding word_at
append_left i j [] ys none = refl
append_left i j (x ∷ xs) ys none =
    elim (cases_Bool (eqb i x.row && eqb j x.col)) [
      | inl here ↦ let some : Some x.word ≡ None = rw here at none in absurd (cc)
      | inr away ↦ let rest : word_at xs i j ≡ None = rw away at none in rw away (append_left i j xs ys rest)
    ]

-- ---- the entries of a map

row_word : (c : Content) (r i j lo n : ℕ)
    → word_at (row_part c r lo n) i j ≡ cond (eqb i r && (leb lo j && ltb j (lo + n))) (c r j) None
unfolding count_from word_at
row_word c r i j lo zero = let out : (eqb i r && (leb lo j && ltb j (lo + 0))) ≡ false = grind (arith, nat_tests) in rw out refl
row_word c r i j lo (suc n) =
    let rest = row_word c r i j (lo + 1) n in
    let others = row_part c r (lo + 1) n in
    elim (cases_Bool (eqb i r && eqb j lo)) [
      | inl here ↦
          let in_it : (eqb i r && (leb lo j && ltb j (lo + suc n))) ≡ true = grind (arith, nat_tests) in
          let out : (eqb i r && (leb (lo + 1) j && ltb j (lo + 1 + n))) ≡ false = grind (arith, nat_tests) in
          let same : lo ≡ j = grind (arith, nat_tests) in
          let none : word_at others i j ≡ None = rw out at rest in
          let first : word_at (cons_option (option_map (entry_at r lo) (c r lo)) others) i j ≡ c r lo = elim (c r lo) as (λ o. word_at (cons_option (option_map (entry_at r lo) o) others) i j ≡ o) [
            | None ↦ none
            | Some w ↦ word_at-here i j (entry_at r lo w) others here
          ] in
          rw in_it (first ∙ ap (c r) same)
      | inr away ↦
          let same : (eqb i r && (leb (lo + 1) j && ltb j (lo + 1 + n))) ≡ (eqb i r && (leb lo j && ltb j (lo + suc n))) = grind (arith, nat_tests) in
          let skipped : word_at (cons_option (option_map (entry_at r lo) (c r lo)) others) i j ≡ word_at others i j = elim (c r lo) as (λ o. word_at (cons_option (option_map (entry_at r lo) o) others) i j ≡ word_at others i j) [
            | None ↦ refl
            | Some w ↦ word_at-skip i j (entry_at r lo w) others away
          ] in
          skipped ∙ rest ∙ ap (λ b. cond b (c r j) None) same
    ]

rows_word : (c : Content) (cols i j lo n : ℕ)
    → word_at (flat_map (row_entries cols c) (count_from lo n)) i j ≡ cond ((leb lo i && ltb i (lo + n)) && ltb j cols) (c i j) None
unfolding count_from word_at
rows_word c cols i j lo zero = let out : ((leb lo i && ltb i (lo + 0)) && ltb j cols) ≡ false = grind (arith, nat_tests) in rw out refl
rows_word c cols i j lo (suc n) =
    let rest = rows_word c cols i j (lo + 1) n in
    let row = row_word c lo i j 0 cols in
    let others = flat_map (row_entries cols c) (count_from (lo + 1) n) in
    elim (cases_eq i lo) [
      | inl here ↦
          let out : ((leb (lo + 1) i && ltb i (lo + 1 + n)) && ltb j cols) ≡ false = grind (arith, nat_tests) in
          let none : word_at others i j ≡ None = rw out at rest in
          let same : (eqb i lo && (leb 0 j && ltb j (0 + cols))) ≡ ((leb lo i && ltb i (lo + suc n)) && ltb j cols) = grind (arith, nat_tests) in
          append_right i j (row_entries cols c lo) others none ∙ row ∙ ap (λ b. cond b (c lo j) None) same ∙ ap (λ r. cond ((leb lo i && ltb i (lo + suc n)) && ltb j cols) (c r j) None) (sym here)
      | inr away ↦
          let out : (eqb i lo && (leb 0 j && ltb j (0 + cols))) ≡ false = grind (arith, nat_tests) in
          let none : word_at (row_entries cols c lo) i j ≡ None = rw out at row in
          let same : ((leb (lo + 1) i && ltb i (lo + 1 + n)) && ltb j cols) ≡ ((leb lo i && ltb i (lo + suc n)) && ltb j cols) = grind (arith, nat_tests) in
          append_left i j (row_entries cols c lo) others none ∙ rest ∙ ap (λ b. cond b (c i j) None) same
    ]

-- the entries of a map inside a shape stand for the map there, and for nothing elsewhere
pub entries_word : (rows cols : ℕ) (c : Content) (i j : ℕ)
    → word_at (entries_of rows cols c) i j ≡ cond (ltb i rows && ltb j cols) (c i j) None
unfolding entries_of
entries_word rows cols c i j =
    let same : ((leb 0 i && ltb i (0 + rows)) && ltb j cols) ≡ (ltb i rows && ltb j cols) = grind (arith, nat_tests) in
    rows_word c cols i j 0 rows ∙ ap (λ b. cond b (c i j) None) same
