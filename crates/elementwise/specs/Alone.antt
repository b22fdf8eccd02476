-- The word of a union where one side alone has one.
use Rattle.std.specs.Prelude.{ℕ}
use Rattle.algebra.specs.Operators.{answer_domain}
use Rattle.algebra.specs.Value.{cast_of}
use Rattle.algebra.specs.declared.binary.BinaryOp.{BinaryOp}

-- the word in the domain of the operator's answer
abbrev pub alone_by : BinaryOp → ℕ → ℕ
alone_by op word = cast_of op.domain (answer_domain op.kind op.domain) word
