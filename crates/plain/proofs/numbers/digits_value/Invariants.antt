use Rattle.std.proofs.Common.{◌≡◌, take}
use Rattle.model.specs.Grammar.{digits_value}
use Rattle.plain.specs.Files.{capped}
use Rattle.plain.proofs.numbers.digits_value.Given as goal

-- the value is that of the digits so far
abbrev pub invariant-loop-byte : goal.invariant-loop-byte
invariant-loop-byte l = l.value ≡ capped (digits_value (take l.byte-index l.word))
