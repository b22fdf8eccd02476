use Rattle.std.proofs.Common.{◌/◌, ◌%◌, ◌*◌, ◌^◌, ◌≡◌, ap, arith, bit_or, get_or, inl, inr, set, ◌∙◌}
use Rattle.std.specs.Int.Bits.{or_zero_r}
use Rattle.std.proofs.lemmas.Bool.{cases_eq}
use Rattle.std.proofs.lemmas.List.{set-get_or}
use Rattle.lanes.specs.Bits.{has_bit}
use Rattle.lanes.proofs.BitLaws.{bit_set}
use Rattle.lanes.proofs.bits.set_bit_by.Goals as goal

pub returns : goal.returns
returns c = λ k.
    let bits = c.args.bits.now in
    let at = c.args.at / 64 in
    elim (cases_eq c.args.word 1) [
      | inl one ↦ rw one (bit_set bits c.args.at k c.requires.inside)
      | inr other ↦
          let zero : c.args.word ≡ 0 = omega (arith, c.requires.truth, other) in
          let none : 0 * 2 ^ (c.args.at % 64) % 18446744073709551616 ≡ 0 = omega arith in
          rw zero (ap (λ xs. has_bit xs k) (ap (λ n. set bits at (bit_or (get_or bits at 0) n)) none ∙ ap (set bits at) (or_zero_r (get_or bits at 0)) ∙ set-get_or bits at 0))
    ]
