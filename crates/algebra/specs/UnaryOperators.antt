-- Unary operators as formulas on whole numbers, brought into their domain (`GrB_UnaryOp` of GraphBLAS
-- C API 2.0; arithmetic modulo 2 ^ 64 by this profile).
use Rattle.std.specs.Prelude.{ℕ, ℤ, pos, neg_ℤ, unsigned_abs, ◌-◌, ◌^◌, Bool}
use Rattle.algebra.specs.declared.domain.Domain.{Domain}
use Rattle.algebra.specs.declared.kinds.UnaryKind.{UnaryKind}
use Rattle.algebra.specs.declared.kinds.UnaryKind.TheVariants as unary
use Rattle.algebra.specs.Operators.{truth, int_equal}
use Rattle.algebra.specs.Value.{residue, value_of, word_of, is_boolean, is_built_in, is_integer}

-- what each operator gives for a value, before it is brought into the domain
abbrev pub unary_formula : UnaryKind → ℤ → ℤ
unary_formula unary.Identity a = a
unary_formula unary.Ainv a = neg_ℤ a
unary_formula unary.Abs a = pos (unsigned_abs a)
unary_formula unary.Lnot a = truth (int_equal a (pos 0))
unary_formula unary.Bnot a = pos (2 ^ 64 - 1 - residue a)

-- what an operator on a domain gives for a word of it, in the same domain
abbrev pub unary_eval_of : UnaryKind → Domain → ℕ → ℕ
unary_eval_of kind d a = word_of d (unary_formula kind (value_of d a))

-- the domains on which an operator is there
abbrev pub offers_unary : UnaryKind → Domain → Bool
offers_unary unary.Identity d = is_built_in d
offers_unary unary.Ainv d = is_integer d
offers_unary unary.Abs d = is_integer d
offers_unary unary.Lnot d = is_boolean d
offers_unary unary.Bnot d = is_integer d
