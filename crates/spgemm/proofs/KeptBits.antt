-- Bits of columns, of which only those at some columns are kept.
use Rattle.std.proofs.Common.{◌≡◌, ℕ, ◌+◌, ◌*◌, ◌/◌, ◌%◌, ◌<◌, ◌≤◌, ◌&&◌, true, false, cond, eqb, Bool, List, Some, None, length, get_or, set, min, bit_and, refl, sym, ◌∙◌, ap, inl, inr, arith}
use Rattle.std.specs.Int.{bit_at}
use Rattle.std.proofs.lemmas.Bool.{cases_eq}
use Rattle.std.proofs.lemmas.Bool.Decides.{nat_tests}
use Rattle.std.proofs.lemmas.List.{get_or-set_other, get_or-set_same, length-set}
use Rattle.std.proofs.lemmas.Nat.Bits.{bit_at-lt, bit_at-zero, bit_at_and}
use Rattle.algebra.specs.declared.binary.BinaryOp.{BinaryOp}
use Rattle.lanes.specs.Bits.{has_bit}
use Rattle.spgemm.specs.Dense.{AreColumnSums}
use Rattle.terms.specs.Terms.{kept_terms}
use Rattle.terms.specs.declared.term.Term.{Term}
use Rattle.terms.proofs.Kept.{sum_kept}

-- of the bits of the first so many words some are kept, and the others are as they were
pub record AreKeptBits (keeps : ℕ → Bool) (old new : List ℕ) (at : ℕ) : Type 0 where
  pub long : length new ≡ length old
  pub done : (k : ℕ) → k < 64 * at → has_bit new k ≡ (has_bit old k && keeps k)
  pub rest : (word : ℕ) → at ≤ word → get_or new word 0 ≡ get_or old word 0

-- no bit is set of a word that is 0
no_bit : (bits : List ℕ) (k : ℕ) → get_or bits (k / 64) 0 ≡ 0 → has_bit bits k ≡ false
no_bit bits k none = rw (none, bit_at-zero (k % 64)) refl

min_one : (a b : ℕ) → a < 2 → b < 2 → eqb (min a b) 1 ≡ (eqb a 1 && eqb b 1)
min_one a b a_small b_small = grind (arith, nat_tests)

-- a word more
pub word_kept : (keeps : ℕ → Bool) (old new : List ℕ) (at lets : ℕ) → at < length new → AreKeptBits keeps old new at
    → ((k : ℕ) → k < 64 → eqb (bit_at lets k) 1 ≡ keeps (64 * at + k))
    → AreKeptBits keeps old (set new at (bit_and (get_or new at 0) lets)) (at + 1)
word_kept keeps old new at lets inside here let_through =
    let word = get_or new at 0 in
    let put = bit_and word lets in
    record {
      long = length-set new at put ∙ here.long;
      done = λ k less.
          let i = k % 64 in
          elim (cases_eq (k / 64) at) [
            | inl same ↦
                let small : i < 64 = omega arith in
                let place : 64 * at + i ≡ k = omega arith in
                let there : get_or (set new at put) (k / 64) 0 ≡ put = ap (λ n. get_or (set new at put) n 0) same ∙ get_or-set_same new at put 0 inside in
                let was : get_or old (k / 64) 0 ≡ word = ap (λ n. get_or old n 0) same ∙ sym (here.rest at (omega arith)) in
                let lets_it : eqb (bit_at lets i) 1 ≡ keeps k = let_through i small ∙ ap keeps place in
                rw (there, was, bit_at_and word lets i, ← lets_it) (min_one (bit_at word i) (bit_at lets i) (bit_at-lt word i) (bit_at-lt lets i))
            | inr other ↦ rw (get_or-set_other new at (k / 64) put 0 other) (here.done k (omega arith))
          ];
      rest = λ n le. get_or-set_other new at n put 0 (λ e. absurd (omega arith)) ∙ here.rest n (omega arith);
    }

-- a word more that has no bit
pub none_more : (keeps : ℕ → Bool) (old new : List ℕ) (at : ℕ) → get_or new at 0 ≡ 0 → AreKeptBits keeps old new at
    → AreKeptBits keeps old new (at + 1)
none_more keeps old new at none here = record {
  long = here.long;
  done = λ k less.
      elim (cases_eq (k / 64) at) [
        | inl same ↦
            let now : get_or new (k / 64) 0 ≡ 0 = ap (λ n. get_or new n 0) same ∙ none in
            let was : get_or old (k / 64) 0 ≡ 0 = sym (here.rest (k / 64) (omega arith)) ∙ now in
            rw (no_bit new k now, no_bit old k was) refl
        | inr other ↦ here.done k (omega arith)
      ];
  rest = λ n le. here.rest n (omega arith);
}

-- a word stands at a column that has it and is kept
both : (has keeps : Bool) (word : ℕ)
    → cond (has && keeps) (Some word) None ≡ cond keeps (cond has (Some word) None) None
both true true word = refl
both true false word = refl
both false true word = refl
both false false word = refl

-- the sums whose bits are kept are those of the terms that are kept
pub kept_sums : (op : BinaryOp) (keeps : ℕ → Bool) (terms : List Term) (bits bits' words : List ℕ)
    → ((at : ℕ) → has_bit bits' at ≡ (has_bit bits at && keeps at)) → AreColumnSums op terms bits words
    → AreColumnSums op (kept_terms keeps terms) bits' words
kept_sums op keeps terms bits bits' words kept here = record {
  sums_are = λ col within. rw (kept col, sum_kept op keeps col terms, ← here.sums_are col within) (both (has_bit bits col) (keeps col) (get_or words col 0));
}
