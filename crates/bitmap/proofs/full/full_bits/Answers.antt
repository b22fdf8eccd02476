use Rattle.std.proofs.Common.{◌≡◌, ◌+◌, ◌/◌, replicate, rules}
use Rattle.bitmap.proofs.FullLaws.{full_bit, last_word}
use Rattle.bitmap.proofs.full.full_bits.Goals as goal

pub returns-clause-set : goal.returns-clause-set
returns-clause-set c = λ at.
    let n = c.args.places in
    let all : c.in_ok-bits.bits.items ≡ replicate (n / 64 + 1) 18446744073709551615 = search rules in
    rw (all, last_word n) (full_bit n at)
