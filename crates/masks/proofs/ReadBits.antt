-- Bits of the rows that a mask lets through.
use Rattle.std.proofs.Common.{◌≡◌, ◌∙◌, ◌+◌, ◌*◌, ◌/◌, ◌%◌, ◌<◌, ◌∷◌, ◌++◌, ℕ, [], Bool, List, ap, arith, eqb, get_or, inl, inr, length}
use Rattle.std.specs.Int.{bit_at}
use Rattle.std.proofs.lemmas.Bool.{cases_eq}
use Rattle.std.proofs.lemmas.List.{get_or_append_left, get_or_at, length-append}
use Rattle.lanes.specs.Bits.{has_bit}

-- the bits of the first so many words are those of the rows that are kept
pub record AreRead (keeps : ℕ → Bool) (bits : List ℕ) (words : ℕ) : Type 0 where
  pub long : length bits ≡ words
  pub are : (at : ℕ) → at < 64 * words → has_bit bits at ≡ keeps at

-- a word of them more
pub read_more : (keeps : ℕ → Bool) (bits : List ℕ) (words word : ℕ) → AreRead keeps bits words
    → ((k : ℕ) → k < 64 → eqb (bit_at word k) 1 ≡ keeps (64 * words + k)) → AreRead keeps (bits ++ word ∷ []) (words + 1)
read_more keeps bits words word here lets = record {
  long = let long = here.long in let more = length-append bits (word ∷ []) in omega arith;
  are = λ at less.
      let long = here.long in
      let k = at % 64 in
      elim (cases_eq (at / 64) words) [
        | inl same ↦
            let there : get_or (bits ++ word ∷ []) (at / 64) 0 ≡ word = ap (λ n. get_or (bits ++ word ∷ []) n 0) same ∙ get_or_at bits word [] 0 words long in
            let place : 64 * words + k ≡ at = omega arith in
            rw there (lets k (omega arith) ∙ ap keeps place)
        | inr other ↦
            let before : at / 64 < length bits = omega arith in
            rw (get_or_append_left bits (word ∷ []) 0 (at / 64) before) (here.are at (omega arith))
      ];
}
