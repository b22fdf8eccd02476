-- The value is that of the digits so far.
use Rattle.std.proofs.Common.{◌≡◌, ◌<◌, ◌^◌, take}
use Rattle.model.specs.Grammar.{digits_value}
use Rattle.mmio.proofs.digits.long_value.Given as goal

abbrev pub invariant-loop-byte : goal.invariant-loop-byte
invariant-loop-byte l = record { exact : l.value ≡ digits_value (take l.byte-index l.word); fits : l.value < 2 ^ 64 }
