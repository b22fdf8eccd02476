-- Functions of one value and its position, by name: a unary operator, a binary one of which an operand is bound, or
-- an index operator with its scalar (the operators that GrB_apply takes).
use Rattle.std.specs.Prelude.{ℕ, Bool, true}
use Rattle.algebra.specs.declared.domain.Domain.{Domain}
use Rattle.algebra.specs.declared.functions.Function.{Function}
use Rattle.algebra.specs.declared.functions.Function.TheVariants as function
use Rattle.algebra.specs.declared.functions.FunctionName.{FunctionName}
use Rattle.algebra.specs.declared.functions.FunctionName.TheVariants.{Unary, First, Second, Index}
use Rattle.algebra.specs.IndexOperators.{index_answer_domain, index_eval_of, offers_index, scalar_domain, takes_index}
use Rattle.algebra.specs.Operators.{answer_domain, eval_of, offers}
use Rattle.algebra.specs.OperatorNames.{index_named, op_named, unary_named}
use Rattle.algebra.specs.UnaryOperators.{offers_unary, unary_eval_of}
use Rattle.algebra.specs.Value.{are_compatible, is_value_of, word_of}

-- the name of a function whose operator is there
abbrev pub function_named : Function → FunctionName
function_named (function.Unary op) = Unary (unary_named op)
function_named (function.First op value) = First (op_named op) value
function_named (function.Second op value) = Second (op_named op) value
function_named (function.Index op scalar) = Index (index_named op) scalar

-- whether its operator is there
abbrev pub offers_function : FunctionName → Bool
offers_function (Unary op) = offers_unary op.kind op.domain
offers_function (First op value) = offers op.kind op.domain
offers_function (Second op value) = offers op.kind op.domain
offers_function (Index op scalar) = offers_index op.kind op.domain

-- the domain of the values that it takes
abbrev pub function_domain : FunctionName → Domain
function_domain (Unary op) = op.domain
function_domain (First op value) = op.domain
function_domain (Second op value) = op.domain
function_domain (Index op scalar) = op.domain

-- the domain of its answers
abbrev pub function_answer : FunctionName → Domain
function_answer (Unary op) = op.domain
function_answer (First op value) = answer_domain op.kind op.domain
function_answer (Second op value) = answer_domain op.kind op.domain
function_answer (Index op scalar) = index_answer_domain op.kind

-- whether it takes values of a domain, cast to its own; an operator by position takes any
abbrev pub takes : FunctionName → Domain → Bool
takes (Unary op) from = are_compatible from op.domain
takes (First op value) from = are_compatible from op.domain
takes (Second op value) from = are_compatible from op.domain
takes (Index op scalar) from = takes_index op.kind op.domain from

-- whether its plain value is one of the domain that reads it
abbrev pub has_value : FunctionName → Bool
has_value (Unary op) = true
has_value (First op value) = is_value_of op.domain value
has_value (Second op value) = is_value_of op.domain value
has_value (Index op scalar) = is_value_of (scalar_domain op.kind op.domain) scalar

-- what it gives at row i and column j for a word of its domain
abbrev pub function_of : FunctionName → ℕ → ℕ → ℕ → ℕ
function_of (Unary op) i j word = unary_eval_of op.kind op.domain word
function_of (First op value) i j word = eval_of op.kind op.domain (word_of op.domain value) word
function_of (Second op value) i j word = eval_of op.kind op.domain word (word_of op.domain value)
function_of (Index op scalar) i j word =
    index_eval_of op.kind op.domain word i j (word_of (scalar_domain op.kind op.domain) scalar)
