use Rattle.std.proofs.Common.{◌≡◌, ℕ, Bool, ◌*◌, ◌+◌, ◌-◌, ◌/◌, ◌%◌, ◌≤◌, ◌∙◌, ap, arith, get_or, length}
use Rattle.std.proofs.lemmas.List.{length-set}
use Rattle.algebra.specs.IndexOperators.{passes}
use Rattle.lanes.proofs.PartLaws.{marked, part_long, part_word}
use Rattle.lanes.proofs.indexed.mark_places.Goals as goal

pub loop-at-preserved : goal.loop-at-preserved
loop-at-preserved c =
    let s = c.loop-at in
    let op = c.args.op in
    let cols = c.args.cols in
    let words = c.args.words.now in
    let base = c.args.base in
    let from = s.at * 64 in
    let test : ℕ → ℕ → Bool = λ place word. passes op.kind op.domain word (place / cols) (place % cols) c.args.s in
    let f : ℕ → Bool = λ k. test (base + k) (get_or words k 0) in
    let long = s.invariant.long in
    let fits : from + 64 ≤ length words = omega arith in
    let there : (k : ℕ) → base + from + k ≡ base + (64 * s.at + k) = λ k. omega arith in
    let here : (k : ℕ) → from + k ≡ 64 * s.at + k = λ k. omega arith in
    record {
      long = length-set s.bits s.at c.passing_bits.result ∙ s.invariant.long;
      made = λ k below. marked s.bits s.at c.passing_bits.result f 64 (omega arith) (omega arith) s.invariant.made
          (λ k within. c.passing_bits.ensures k (rw (part_long words from (from + 64) fits) (omega arith))
          ∙ ap (test (base + from + k)) (part_word words from (from + 64 - from) k (omega arith))
          ∙ ap (λ place. test place (get_or words (from + k) 0)) (there k)
          ∙ ap (λ at. test (base + (64 * s.at + k)) (get_or words at 0)) (here k)) k (omega arith);
    }

pub returns-then-from-words-clause-bits : goal.returns-then-from-words-clause-bits
returns-then-from-words-clause-bits c =
    let s = c.loop-at in
    let op = c.args.op in
    let cols = c.args.cols in
    let words = c.args.words.now in
    let base = c.args.base in
    let at = length words / 64 in
    let from = at * 64 in
    let test : ℕ → ℕ → Bool = λ place word. passes op.kind op.domain word (place / cols) (place % cols) c.args.s in
    let f : ℕ → Bool = λ k. test (base + k) (get_or words k 0) in
    let long = s.invariant.long in
    let there : (k : ℕ) → base + from + k ≡ base + (64 * at + k) = λ k. omega arith in
    let here : (k : ℕ) → from + k ≡ 64 * at + k = λ k. omega arith in
    λ k below. marked s.bits at c.passing_bits-then-from-words.result f (length words % 64) (omega arith) (omega arith)
    (λ k less. s.invariant.made k (omega arith)) (λ k within. c.passing_bits-then-from-words.ensures k (rw (part_long words from (length words) (omega arith)) (omega arith))
    ∙ ap (test (base + from + k)) (part_word words from (length words - from) k (omega arith))
    ∙ ap (λ place. test place (get_or words (from + k) 0)) (there k)
    ∙ ap (λ i. test (base + (64 * at + k)) (get_or words i 0)) (here k)) k (omega arith)
