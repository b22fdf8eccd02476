use Rattle.std.proofs.Common.{◌≡◌, ◌-◌, ◌∙◌, ap, arith}
use Rattle.std.specs.Int.{bit_at}
use Rattle.std.proofs.lemmas.Nat.Bits.{bit_at_ones}
use Rattle.lanes.proofs.present.unite_part.Goals as goal

pub returns-then-right-eq18446744073709551615-clause-here :
    goal.returns-then-right-eq18446744073709551615-clause-here
returns-then-right-eq18446744073709551615-clause-here c = λ k low high.
    let all = bit_at_ones 64 (k - c.args.base) (omega arith) in
    let left : bit_at c.args.left (k - c.args.base) ≡ 1 = ap (λ n. bit_at n (k - c.args.base)) c.if-left-eq18446744073709551615.true ∙ all in
    let right : bit_at c.args.right (k - c.args.base) ≡ 1 = ap (λ n. bit_at n (k - c.args.base)) c.if-right-eq18446744073709551615.true ∙ all in
    rw (left, right) (c.unite_both.ensures.here k low high)
