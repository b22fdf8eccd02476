-- Bit b of word k is that of place 64 * k + b behind the first.
use Rattle.std.proofs.Common.{◌≡◌, ℕ, Bool, ◌*◌, ◌+◌, ◌-◌, ◌/◌, ◌%◌, ◌≤◌, ◌<◌, ◌∙◌, ap, arith, eqb, get_or, length, sym}
use Rattle.std.specs.Int.{bit_at}
use Rattle.algebra.specs.IndexOperators.{passes}
use Rattle.lanes.proofs.PartLaws.{part_long, part_word}
use Rattle.bitmap.proofs.making.fill_passing.Goals as goal

pub returns-clause-bits : goal.returns-clause-bits
returns-clause-bits c = λ k b within few inside.
    let op = c.args.op in
    let cols = c.args.cols in
    let words = c.args.words.now in
    let bits = c.mark_passing.new.bits in
    let test : ℕ → ℕ → Bool = λ place word. passes op.kind op.domain word (place / cols) (place % cols) c.args.s in
    let from = c.min-from.result in
    let past = c.min-past.result in
    let at = 64 * k + b in
    let low : from ≡ 64 * c.args.start = omega arith in
    let high : past ≤ length words = omega arith in
    let fits : at < past - from = omega arith in
    let there : from + at ≡ 64 * (c.args.start + k) + b = omega arith in
    sym (ap (λ w. eqb (bit_at (get_or bits w 0) (at % 64)) 1) (omega arith) ∙ ap (λ p. eqb (bit_at (get_or bits k 0) p) 1) (omega arith))
    ∙ c.mark_passing.ensures.bits at (rw (part_long words from past high) fits)
    ∙ ap (test (from + at)) (part_word words from (past - from) at fits)
    ∙ ap (λ i. test i (get_or words i 0)) there
