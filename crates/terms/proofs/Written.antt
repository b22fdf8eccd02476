-- Terms that are written one behind another, each over what is kept out before it.
use Rattle.std.proofs.Common.{◌≡◌, ℕ, ◌+◌, ◌<◌, ◌≤◌, true, false, Bool, List, [], ◌∷◌, ◌++◌, length, set, take, sym, ◌∙◌, ap, inl, inr, arith, append_assoc, append-nil}
use Rattle.std.proofs.lemmas.Bool.{cases_Bool}
use Rattle.std.proofs.lemmas.List.{take-set, take_more_set}
use Rattle.std.proofs.lemmas.List.Elements.{filter-append}
use Rattle.terms.specs.declared.term.Term.{Term}
use Rattle.terms.specs.Terms.{kept_terms}

-- one term more
pub written_one : (keeps : ℕ → Bool) (number : Bool → ℕ) (terms front ts : List Term) (end step : ℕ) (t : Term)
    → end < length terms → take end terms ≡ front ++ kept_terms keeps ts → step ≡ number (keeps t.col)
    → number true ≡ 1 → number false ≡ 0
    → take (end + step) (set terms end t) ≡ front ++ kept_terms keeps (ts ++ t ∷ [])
written_one keeps number terms front ts end step t within here is one none =
    let more = filter-append (λ (t : Term). keeps t.col) ts (t ∷ []) in
    elim (cases_Bool (keeps t.col)) [
      | inl with_it ↦
          let by : step ≡ 1 = is ∙ ap number with_it ∙ one in
          rw (by, take_more_set terms end t within, here, more, with_it) (append_assoc front (kept_terms keeps ts) (t ∷ []))
      | inr without ↦
          let by : step ≡ 0 = is ∙ ap number without ∙ none in
          let same : end + 0 ≡ end = omega arith in
          rw (by, same, take-set terms end t, here, more, without) (ap (λ us. front ++ us) (sym (append-nil (kept_terms keeps ts))))
    ]
