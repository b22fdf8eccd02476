-- Rows without a word.
use Rattle.std.proofs.Common.{◌≡◌, ◌≢◌, ℕ, true, ◌&&◌, eqb, List, [], ◌∷◌, None, refl, inl, inr}
use Rattle.std.specs.List.{All}
use Rattle.std.proofs.lemmas.Bool.{cases_Bool, eq-eqb}
use Rattle.std.proofs.lemmas.List.Elements.{All-cons, All-nil}
use Rattle.model.specs.declared.entry.Entry.{Entry}
use Rattle.model.specs.Entries.{word_at}

-- where a row has no word no entry stands
pub none_in_row : (i : ℕ) (es : List Entry) → ((j : ℕ) → word_at es i j ≡ None) → All (λ e. i ≢ e.row) es
unfolding word_at
none_in_row i [] none = All-nil (λ (e : Entry). i ≢ e.row)
none_in_row i (e ∷ es) none =
    All-cons (λ (e : Entry). i ≢ e.row) e es
    (λ same. let here : (eqb i e.row && eqb e.col e.col) ≡ true = rw (eq-eqb i e.row same, eq-eqb e.col e.col refl) refl in let no = rw here at (none e.col) in cc)
    (none_in_row i es (λ j. elim (cases_Bool (eqb i e.row && eqb j e.col)) [
      | inl at ↦ absurd (let no = rw at at (none j) in cc)
      | inr away ↦ rw away at (none j)
    ]))
