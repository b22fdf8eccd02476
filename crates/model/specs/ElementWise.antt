-- Operations that go position by position: of two maps where either or both have a value (GrB_eWiseAdd,
-- GrB_eWiseMult), a function of each value (GrB_apply), and the entries that pass a test (GrB_select).
use Rattle.std.specs.Prelude.{ℕ, ℤ, if◌then◌else◌, Bool, Option, Some, None}
use Rattle.std.specs.Option.{option_and_then, option_map}
use Rattle.algebra.specs.Functions.{function_of}
use Rattle.algebra.specs.IndexOperators.{passes, scalar_domain}
use Rattle.algebra.specs.Operators.{answer_domain, eval_of}
use Rattle.algebra.specs.Value.{cast_of, word_of}
use Rattle.algebra.specs.declared.functions.FunctionName.{FunctionName}
use Rattle.algebra.specs.declared.operator_names.IndexName.{IndexName}
use Rattle.algebra.specs.declared.operator_names.OpName.{OpName}
use Rattle.model.specs.Object.{Content, Object}

-- what is made of two values of which one or both are there: of one alone by a function of its own
abbrev pub of_either : (ℕ → ℕ) → (ℕ → ℕ) → (ℕ → ℕ → ℕ) → Option ℕ → Option ℕ → Option ℕ
of_either left right both None None = None
of_either left right both (Some x) None = Some (left x)
of_either left right both None (Some y) = Some (right y)
of_either left right both (Some x) (Some y) = Some (both x y)

-- what is made of two values where both are there
abbrev pub of_both : (ℕ → ℕ → ℕ) → Option ℕ → Option ℕ → Option ℕ
of_both both x y = option_and_then (λ x. option_map (both x) y) x

-- an operator of two words of other domains
abbrev pub eval_cast : OpName → Object → Object → ℕ → ℕ → ℕ
eval_cast op a b x y =
    eval_of op.kind op.domain (cast_of a.domain op.domain x) (cast_of b.domain op.domain y)

-- where either has a value; that of one alone is cast from its own domain to that of the operator's answer
abbrev pub union : OpName → Object → Object → Content
union op a b = λ i j.
    let answer = answer_domain op.kind op.domain in
    of_either (cast_of a.domain answer) (cast_of b.domain answer) (eval_cast op a b) (a.content i j) (b.content i j)

-- where both have a value
abbrev pub intersection : OpName → Object → Object → Content
intersection op a b = λ i j. of_both (eval_cast op a b) (a.content i j) (b.content i j)

-- a function of each value and its position
abbrev pub applied : FunctionName → Content → Content
applied function c = λ i j. option_map (function_of function i j) (c i j)

-- the values that pass a test, which may look at their positions
abbrev pub kept_where : (ℕ → ℕ → ℕ → Bool) → Content → Content
kept_where test c = λ i j. option_and_then (λ word. if test i j word then Some word else None) (c i j)

-- whether the answer of an index operator for a value of a domain, cast to the operator's, is true
abbrev pub passes_cast : IndexName → ℕ → Object → ℕ → ℕ → ℕ → Bool
passes_cast op s a i j word = passes op.kind op.domain (cast_of a.domain op.domain word) i j s

-- the entries for which an index operator's answer is true, as they are
abbrev pub selected : IndexName → ℤ → Object → Content
selected op scalar a = kept_where (passes_cast op (word_of (scalar_domain op.kind op.domain) scalar) a) a.content
