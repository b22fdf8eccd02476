use Rattle.std.proofs.Common.{◌≡◌, ◌*◌, ◌/◌, ◌%◌, ◌<◌, ◌≤◌, ◌∙◌, ap, arith, get_or, inl, inr, ltb, refl}
use Rattle.std.proofs.lemmas.Bool.{cases_Bool}
use Rattle.std.proofs.lemmas.Bool.Decides.{nat_tests}
use Rattle.std.proofs.lemmas.Nat.Bits.{bit_at_ones}
use Rattle.lanes.proofs.bits.full_words.Goals as goal

pub loop-count-preserved : goal.loop-count-preserved
loop-count-preserved c =
    let s = c.loop-count in
    let bits = c.args.bits.now in
    record {
      bound = omega (arith, c.loop-count-test.true);
      full = λ at less.
          elim (cases_Bool (ltb at (64 * s.count))) [
            | inl before ↦ s.invariant.full at (grind (arith, nat_tests))
            | inr behind ↦
                let low : 64 * s.count ≤ at = grind (arith, nat_tests) in
                let word : at / 64 ≡ s.count = omega arith in
                let small : at % 64 < 64 = omega arith in
                let is : get_or bits (at / 64) 0 ≡ 18446744073709551615 = ap (λ w. get_or bits w 0) word ∙ c.if-bits-count.true in
                rw (is, bit_at_ones 64 (at % 64) small) refl
          ];
    }
