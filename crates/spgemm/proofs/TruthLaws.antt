-- Sums over LOR as bits, one term after another.
use Rattle.std.proofs.Common.{◌≡◌, ℕ, ◌<◌, ◌≤◌, ◌*◌, ◌+◌, ◌/◌, ◌%◌, ◌&&◌, ◌||◌, ◌++◌, ◌∷◌, [], Bool, true, false, cond, List, Some, None, length, eqb, get_or, bit_or, set, refl, sym, ◌∙◌, ap, inl, inr, arith}
use Rattle.std.proofs.lemmas.Bool.{cases_eq, eq-eqb, ne_eqb}
use Rattle.std.proofs.lemmas.List.{get_or-set_other, get_or-set_same}
use Rattle.std.proofs.lemmas.Nat.Bits.{bit_at-zero}
use Rattle.algebra.proofs.Words.{IsWordOf-eval}
use Rattle.algebra.specs.declared.binary.BinaryOp.{BinaryOp}
use Rattle.algebra.specs.declared.domain.Domain.{Domain}
use Rattle.algebra.specs.declared.domain.Domain.TheVariants.{Bool as BOOL, Int64, Uint64, User}
use Rattle.algebra.specs.declared.kinds.BinaryKind.TheVariants.{Lor}
use Rattle.algebra.specs.declared.kinds.MonoidKind.TheVariants as monoid
use Rattle.algebra.specs.declared.monoid.Monoid.{Monoid}
use Rattle.algebra.specs.declared.semiring.Semiring.{Semiring}
use Rattle.algebra.specs.Operators.{combines_by}
use Rattle.algebra.specs.Value.{IsWordOf, is_boolean}
use Rattle.bitmap.proofs.KernelLaws.{either_bit}
use Rattle.lanes.specs.Bits.{has_bit}
use Rattle.lanes.proofs.Lists.{zip_with-from_places}
use Rattle.spgemm.specs.Dense.{AreClear, AreColumnSums}
use Rattle.terms.specs.Terms.{apply, sum_at, term_at}
use Rattle.spgemm.specs.Truths.{AreTruths, truth}
use Rattle.terms.specs.declared.term.Term.{Term}
use Rattle.spgemm.proofs.SlotSums.{sum_away, sum_here}

-- LOR of two truth values
pub lor_truths : (op : BinaryOp) (a b : Bool) → op.kind ≡ Lor → op.domain ≡ BOOL
    → apply op (truth a) (truth b) ≡ truth (a || b)
lor_truths op true true kind domain = rw (kind, domain) refl
lor_truths op true false kind domain = rw (kind, domain) refl
lor_truths op false true kind domain = rw (kind, domain) refl
lor_truths op false false kind domain = rw (kind, domain) refl

-- a word of BOOL is a truth value
pub truth_of : (word : ℕ) → word < 2 → word ≡ truth (eqb word 1)
truth_of word small =
    elim (cases_eq word 1) [
      | inl one ↦ rw one refl
      | inr other ↦ let zero : word ≡ 0 = omega arith in rw zero refl
    ]

with_true : (a b : Bool) → ((a && true) || b) ≡ (a || b)
with_true true b = refl
with_true false b = refl

with_false : (a b : Bool) → ((a && false) || b) ≡ b
with_false true b = refl
with_false false b = refl

or_false : (a : Bool) → (a || false) ≡ a
or_false true = refl
or_false false = refl

or_true : (a : Bool) → (a || true) ≡ true
or_true true = refl
or_true false = refl

or_exchanged : (a b : Bool) → (a || b) ≡ (b || a)
or_exchanged true b = sym (or_true b)
or_exchanged false b = sym (or_false b)

-- at a column that a term is at stands whether its word or what was there is true
truth_here : (op : BinaryOp) (terms : List Term) (t : Term) (k : ℕ) (met was : Bool) → op.kind ≡ Lor → op.domain ≡ BOOL
    → t.word < 2 → t.col ≡ k → cond met (Some (truth was)) None ≡ sum_at op k terms → (met ≡ false → was ≡ false)
    → Some (truth (eqb t.word 1 || was)) ≡ sum_at op k (terms ++ t ∷ [])
truth_here op terms t k true was kind domain small at here only =
    let is = truth_of t.word small in
    sym (sum_here op k terms t at ∙ rw (← here) (ap (λ w. Some (apply op (truth was) w)) is ∙ ap Some (lor_truths op was (eqb t.word 1) kind domain ∙ ap truth (or_exchanged was (eqb t.word 1)))))
truth_here op terms t k false was kind domain small at here only =
    sym (sum_here op k terms t at ∙ rw (← here, only refl) (ap Some (truth_of t.word small ∙ ap truth (sym (or_false (eqb t.word 1))))))

-- a term more
pub truth_more : (op : BinaryOp) (terms : List Term) (col word : ℕ) (bits trues bits' trues' : List ℕ)
    → op.kind ≡ Lor → op.domain ≡ BOOL → word < 2 → length bits' ≡ length bits
    → ((k : ℕ) → has_bit bits' k ≡ (eqb k col || has_bit bits k))
    → ((k : ℕ) → has_bit trues' k ≡ ((eqb word 1 && eqb k col) || has_bit trues k))
    → AreTruths op terms bits trues → AreTruths op (terms ++ term_at col word ∷ []) bits' trues'
truth_more op terms col word bits trues bits' trues' kind domain small long met true_ here =
    let t = term_at col word in
    let is = eqb word 1 in
    record {
      sums_are = λ k within.
          elim (cases_eq k col) [
            | inl same ↦
                let met' : has_bit bits' k ≡ true = met k ∙ rw (eq-eqb k col same) refl in
                let true' : has_bit trues' k ≡ (is || has_bit trues k) = true_ k ∙ rw (eq-eqb k col same) (with_true is (has_bit trues k)) in
                rw (met', true') (truth_here op terms t k (has_bit bits k) (has_bit trues k) kind domain small (sym same) (here.sums_are k (omega arith)) (here.others_are k))
            | inr other ↦
                let met' : has_bit bits' k ≡ has_bit bits k = met k ∙ rw (ne_eqb k col other) refl in
                let true' : has_bit trues' k ≡ has_bit trues k = true_ k ∙ rw (ne_eqb k col other) (with_false is (has_bit trues k)) in
                rw (met', true', sum_away op k terms t (λ e. other (sym e))) (here.sums_are k (omega arith))
          ];
      others_are = λ k none.
          elim (cases_eq k col) [
            | inl same ↦ let met' : has_bit bits' k ≡ true = met k ∙ rw (eq-eqb k col same) refl in absurd (cc)
            | inr other ↦
                let met' : has_bit bits' k ≡ has_bit bits k = met k ∙ rw (ne_eqb k col other) refl in
                let true' : has_bit trues' k ≡ has_bit trues k = true_ k ∙ rw (ne_eqb k col other) (with_false is (has_bit trues k)) in
                true' ∙ here.others_are k (sym met' ∙ none)
          ];
    }

-- a true term more where all were true
pub true_more : (op : BinaryOp) (terms : List Term) (col word : ℕ) (bits bits' : List ℕ)
    → op.kind ≡ Lor → op.domain ≡ BOOL → word ≡ 1 → length bits' ≡ length bits
    → ((k : ℕ) → has_bit bits' k ≡ (eqb k col || has_bit bits k))
    → AreTruths op terms bits bits → AreTruths op (terms ++ term_at col word ∷ []) bits' bits'
true_more op terms col word bits bits' kind domain one long met here =
    truth_more op terms col word bits bits bits' bits' kind domain (omega (arith, one)) long met (λ k. met k ∙ rw one refl) here

-- nothing is true yet
pub no_truths : (op : BinaryOp) (bits trues : List ℕ) → AreClear bits → AreClear trues → AreTruths op [] bits trues
no_truths op bits trues clear all_false = record {
  sums_are = λ col within. let none : has_bit bits col ≡ false = rw (clear (col / 64), bit_at-zero (col % 64)) refl in rw none refl;
  others_are = λ col none. rw (all_false (col / 64), bit_at-zero (col % 64)) refl;
}

-- written as words they are the sums
pub truths_written : (op : BinaryOp) (terms : List Term) (bits trues words : List ℕ) → length words ≤ 64 * length bits
    → ((at : ℕ) → at < length words → get_or words at 0 ≡ truth (has_bit trues at)) → AreTruths op terms bits trues
    → AreColumnSums op terms bits words
truths_written op terms bits trues words long written here = record {
  sums_are = λ col within. rw (written col within) (here.sums_are col (omega arith));
}

-- the truth values of the first so many places
pub record AreWritten (trues words : List ℕ) (at : ℕ) : Type 0 where
  pub are : (k : ℕ) → k < at → get_or words k 0 ≡ truth (has_bit trues k)

-- one of them more
pub written_more : (trues words : List ℕ) (at : ℕ) → at < length words → AreWritten trues words at
    → AreWritten trues (set words at (truth (has_bit trues at))) (at + 1)
written_more trues words at within here = record {
  are = λ k less.
      elim (cases_eq k at) [
        | inl same ↦
            ap (λ k. get_or (set words at (truth (has_bit trues at))) k 0) same ∙ get_or-set_same words at (truth (has_bit trues at)) 0 within
            ∙ ap (λ k. truth (has_bit trues k)) (sym same)
        | inr other ↦ get_or-set_other words at k (truth (has_bit trues at)) 0 other ∙ here.are k (omega arith)
      ];
}

-- ---- bits of two lists

-- the bits of words that are those of either list
pub either_bits : (xs ys zs : List ℕ) → length ys ≡ length xs → length zs ≡ length xs
    → ((k : ℕ) → k < length xs → get_or zs k 0 ≡ bit_or (get_or xs k 0) (get_or ys k 0)) → (at : ℕ)
    → has_bit zs at ≡ (has_bit xs at || has_bit ys at)
either_bits xs ys zs same long each at =
    ap (λ bits. has_bit bits at) (zip_with-from_places bit_or xs ys zs (sym long) (omega arith) (λ k within. each k (omega arith)))
    ∙ either_bit xs ys at same

-- LOR is on BOOL alone
boolean : (d : Domain) → is_boolean d ≡ true → d ≡ BOOL
boolean BOOL is = refl
boolean Int64 is = cc
boolean Uint64 is = cc
boolean (User k) is = cc

pub on_bool : (add : Monoid) → add.kind ≡ monoid.Lor → (add.op.kind ≡ Lor) × (add.op.domain ≡ BOOL)
on_bool add kind =
    let is : add.op.kind ≡ Lor = add.combines ∙ ap combines_by kind in
    (is, boolean add.op.domain (rw is at add.op.offered))

-- a product is a truth value
pub product_truth : (semiring : Semiring) (a b : ℕ) → semiring.add.kind ≡ monoid.Lor → apply semiring.multiply a b < 2
product_truth semiring a b kind =
    let domain = on_bool semiring.add kind in
    let word : IsWordOf semiring.add.op.domain (apply semiring.multiply a b) = rw semiring.adds_answers (IsWordOf-eval semiring.multiply.kind semiring.multiply.domain a b) in
    rw domain.1 at word
