use Rattle.std.proofs.Common.{◌/◌, ◌<◌, arith, get_or}
use Rattle.lanes.proofs.BitLaws.{bits_alone, bits_joined}
use Rattle.lanes.proofs.bits.bits_from.Goals as goal
use Rattle.lanes.proofs.bits.bits_from.Goals.{then-shift-eq0-via-then-shift-eq0, then-shift-eq0-via-else-shift-eq0+then-word-bits}

pub returns-then-shift-eq0 : goal.returns-then-shift-eq0
returns-then-shift-eq0 c = λ k small.
    let bits = c.args.bits.now in
    let at = c.args.at in
    let fits : get_or bits (at / 64) 0 < 18446744073709551616 = omega (arith, c.type_inv.bits (at / 64)) in
    bits_alone bits at k small fits (λ past. elim c.then-shift-eq0.branch [
      | then-shift-eq0-via-then-shift-eq0 w ↦ absurd (omega (arith, w.if-shift-eq0.true))
      | then-shift-eq0-via-else-shift-eq0+then-word-bits w ↦ omega (arith, w.if-word-bits.true)
    ])

pub returns : goal.returns
returns c = λ k small. bits_joined c.args.bits.now c.args.at k small (omega (arith, c.type_inv.bits (c.args.at / 64))) (omega (arith, c.if-shift-eq0.false))
