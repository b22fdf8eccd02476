-- Entries that pass a test, and the map that they stand for.
use Rattle.std.proofs.Common.{◌≡◌, ℕ, ◌&&◌, cond, eqb, Bool, true, false, List, [], ◌∷◌, Some, None, refl, ◌∙◌, ap, inl, inr, arith}
use Rattle.std.specs.Option.{option_and_then}
use Rattle.std.specs.List.{filter}
use Rattle.std.proofs.lemmas.Bool.{cases_Bool}
use Rattle.std.proofs.lemmas.Bool.Decides.{nat_tests}
use Rattle.std.proofs.lemmas.List.Elements.{All-weaker}
use Rattle.model.specs.ElementWise.{kept_where}
use Rattle.model.specs.declared.entry.Entry.{Entry}
use Rattle.model.specs.Entries.{InOrder, Precedes, entry_at, word_at}
use Rattle.store.specs.Stored.{along, transposed}
use Rattle.store.proofs.Order.{all_pairs_head, all_pairs_tail}
use Rattle.store.proofs.Positions.{word_at-none}

-- no later entry stands at the same position
none_later : (i j : ℕ) (e : Entry) (es : List Entry) → InOrder (e ∷ es) → (eqb i e.row && eqb j e.col) ≡ true
    → word_at es i j ≡ None
none_later i j e es order here =
    let row : i ≡ e.row = grind (arith, nat_tests) in
    let col : j ≡ e.col = grind (arith, nat_tests) in
    word_at-none i j es (All-weaker (Precedes e) (λ f. (eqb i f.row && eqb j f.col) ≡ false)
    (λ f before. elim before [
      | inl less ↦ grind (arith, nat_tests)
      | inr beside ↦ let less = beside.1 in grind (arith, nat_tests)
    ]) es (all_pairs_head Precedes e es order))

-- the map of the entries that pass
pub word_at-filter : (test : ℕ → ℕ → ℕ → Bool) (es : List Entry) (i j : ℕ) → InOrder es
    → word_at (filter (λ e. test e.row e.col e.word) es) i j ≡ kept_where test (word_at es) i j
unfolding word_at
word_at-filter test [] i j order = refl
word_at-filter test (e ∷ es) i j order =
    let rest = word_at-filter test es i j (all_pairs_tail Precedes e es order) in
    let some = filter (λ e. test e.row e.col e.word) es in
    elim (cases_Bool (eqb i e.row && eqb j e.col)) [
      | inl here ↦
          let row : i ≡ e.row = grind (arith, nat_tests) in
          let col : j ≡ e.col = grind (arith, nat_tests) in
          let is : test i j e.word ≡ test e.row e.col e.word = ap (λ i. test i j e.word) row ∙ ap (λ j. test e.row j e.word) col in
          let none = none_later i j e es order here in
          elim (cases_Bool (test e.row e.col e.word)) [
            | inl passes ↦ let at : test i j e.word ≡ true = is ∙ passes in rw (passes, here, at) refl
            | inr fails ↦ let at : test i j e.word ≡ false = is ∙ fails in rw (fails, here, at) (rest ∙ ap (option_and_then (λ word. cond (test i j word) (Some word) None)) none)
          ]
      | inr away ↦ elim (cases_Bool (test e.row e.col e.word)) [
        | inl passes ↦ rw (passes, away) rest
        | inr fails ↦ rw (fails, away) rest
      ]
    ]

transposed-filter : (test : ℕ → ℕ → ℕ → Bool) (es : List Entry)
    → transposed (filter (λ e. test e.col e.row e.word) es) ≡ filter (λ e. test e.row e.col e.word) (transposed es)
transposed-filter test [] = refl
transposed-filter test (e ∷ es) =
    elim (test e.col e.row e.word) as (λ b. transposed (cond b (e ∷ filter (λ e. test e.col e.row e.word) es) (filter (λ e. test e.col e.row e.word) es))
    ≡ cond b (entry_at e.col e.row e.word ∷ filter (λ e. test e.row e.col e.word) (transposed es)) (filter (λ e. test e.row e.col e.word) (transposed es))) [
      | true ↦ ap (λ rest. entry_at e.col e.row e.word ∷ rest) (transposed-filter test es)
      | false ↦ transposed-filter test es
    ]

-- a test of rows and columns, of entries as they lie
pub along-filter : (cols : ℕ) (test : ℕ → ℕ → ℕ → Bool) (es : List Entry)
    → along cols (filter (λ e. cond (eqb cols 1) (test e.col e.row e.word) (test e.row e.col e.word)) es) ≡ filter (λ e. test e.row e.col e.word) (along cols es)
along-filter cols test es =
    elim (eqb cols 1) as (λ b. cond b (transposed (filter (λ (e : Entry). cond b (test e.col e.row e.word) (test e.row e.col e.word)) es)) (filter (λ (e : Entry). cond b (test e.col e.row e.word) (test e.row e.col e.word)) es) ≡ filter (λ (e : Entry). test e.row e.col e.word) (cond b (transposed es) es)) [
      | true ↦ transposed-filter test es
      | false ↦ refl
    ]
