-- Index operators as formulas on whole numbers, brought into the answer's domain: of a value a, its
-- row i and column j, and a scalar s (`GrB_IndexUnaryOp` of GraphBLAS C API 2.0).
use Rattle.std.specs.Prelude.{ℕ, ℤ, pos, ◌+ℤ◌, ◌-ℤ◌, ◌==◌, if◌then◌else◌, not, int_lt, int_le, Bool, true, false}
use Rattle.algebra.specs.declared.domain.Domain.{Domain}
use Rattle.algebra.specs.declared.domain.Domain.TheVariants as domains
use Rattle.algebra.specs.declared.kinds.IndexKind.{IndexKind}
use Rattle.algebra.specs.declared.kinds.IndexKind.TheVariants as index
use Rattle.algebra.specs.Operators.{truth, int_equal}
use Rattle.algebra.specs.Value.{are_compatible, cast_of, value_of, word_of, is_built_in, is_integer}

-- what each operator gives, before it is brought into the answer's domain
abbrev pub index_formula : IndexKind → ℤ → ℤ → ℤ → ℤ → ℤ
index_formula index.RowIndex a i j s = i +ℤ s
index_formula index.ColIndex a i j s = j +ℤ s
index_formula index.DiagIndex a i j s = j -ℤ i +ℤ s
index_formula index.Tril a i j s = truth (int_le j (i +ℤ s))
index_formula index.Triu a i j s = truth (int_le (i +ℤ s) j)
index_formula index.Diag a i j s = truth (int_equal j (i +ℤ s))
index_formula index.OffDiag a i j s = truth (not (int_equal j (i +ℤ s)))
index_formula index.ColLe a i j s = truth (int_le j s)
index_formula index.ColGt a i j s = truth (int_lt s j)
index_formula index.RowLe a i j s = truth (int_le i s)
index_formula index.RowGt a i j s = truth (int_lt s i)
index_formula index.ValueEq a i j s = truth (int_equal a s)
index_formula index.ValueNe a i j s = truth (not (int_equal a s))
index_formula index.ValueLt a i j s = truth (int_lt a s)
index_formula index.ValueLe a i j s = truth (int_le a s)
index_formula index.ValueGt a i j s = truth (int_lt s a)
index_formula index.ValueGe a i j s = truth (int_le s a)

-- the domain of an operator's answer
abbrev pub index_answer_domain : IndexKind → Domain
index_answer_domain index.RowIndex = domains.Int64
index_answer_domain index.ColIndex = domains.Int64
index_answer_domain index.DiagIndex = domains.Int64
index_answer_domain _ = domains.Bool

-- the domain of the scalar: that of the values for a VALUE operator, INT64 for one by position
abbrev pub scalar_domain : IndexKind → Domain → Domain
scalar_domain index.ValueEq d = d
scalar_domain index.ValueNe d = d
scalar_domain index.ValueLt d = d
scalar_domain index.ValueLe d = d
scalar_domain index.ValueGt d = d
scalar_domain index.ValueGe d = d
scalar_domain _ d = domains.Int64

-- what an operator on a domain gives for a word a of it at row i and column j, and a word s of the
-- scalar's domain
abbrev pub index_eval_of : IndexKind → Domain → ℕ → ℕ → ℕ → ℕ → ℕ
index_eval_of kind d a i j s =
    word_of (index_answer_domain kind) (index_formula kind (value_of d a) (pos i) (pos j)
    (value_of (scalar_domain kind d) s))

-- whether an operator looks at positions alone, and not at the value
abbrev pub is_by_position : IndexKind → Bool
is_by_position index.ValueEq = false
is_by_position index.ValueNe = false
is_by_position index.ValueLt = false
is_by_position index.ValueLe = false
is_by_position index.ValueGt = false
is_by_position index.ValueGe = false
is_by_position _ = true

-- whether an operator on a domain takes values of another: one by position takes any
abbrev pub takes_index : IndexKind → Domain → Domain → Bool
takes_index kind d from = if is_by_position kind then true else are_compatible from d

-- whether an operator's answer, cast to BOOL, is true (GrB_select keeps such an entry)
abbrev pub passes : IndexKind → Domain → ℕ → ℕ → ℕ → ℕ → Bool
passes kind d a i j s = cast_of (index_answer_domain kind) domains.Bool (index_eval_of kind d a i j s) == 1

-- the domains on which an operator is there: one by position doesn't look at the value
abbrev pub offers_index : IndexKind → Domain → Bool
offers_index index.ValueEq d = is_built_in d
offers_index index.ValueNe d = is_built_in d
offers_index index.ValueLt d = is_integer d
offers_index index.ValueLe d = is_integer d
offers_index index.ValueGt d = is_integer d
offers_index index.ValueGe d = is_integer d
offers_index _ d = true
