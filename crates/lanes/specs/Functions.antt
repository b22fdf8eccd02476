-- Functions of a word alone.
use Rattle.std.specs.Prelude.{ℕ}
use Rattle.algebra.specs.Operators.{eval_of}
use Rattle.algebra.specs.UnaryOperators.{unary_eval_of}
use Rattle.lanes.specs.declared.function.WordFunction.{WordFunction}
use Rattle.lanes.specs.declared.function.WordFunction.TheVariants as function

-- what a function of a word alone gives
abbrev pub word_made : WordFunction → ℕ → ℕ
word_made (function.Unary op) word = unary_eval_of op.kind op.domain word
word_made (function.First op value) word = eval_of op.kind op.domain value word
word_made (function.Second op value) word = eval_of op.kind op.domain word value
