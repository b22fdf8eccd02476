-- The names of operators, monoids and semirings: by kinds and a domain.
use Rattle.algebra.specs.declared.binary.BinaryOp.{BinaryOp}
use Rattle.algebra.specs.declared.index.IndexOp.{IndexOp}
use Rattle.algebra.specs.declared.monoid.Monoid.{Monoid}
use Rattle.algebra.specs.declared.operator_names.IndexName.{IndexName}
use Rattle.algebra.specs.declared.operator_names.MonoidName.{MonoidName}
use Rattle.algebra.specs.declared.operator_names.OpName.{OpName}
use Rattle.algebra.specs.declared.operator_names.SemiringName.{SemiringName}
use Rattle.algebra.specs.declared.operator_names.UnaryName.{UnaryName}
use Rattle.algebra.specs.declared.semiring.Semiring.{Semiring}
use Rattle.algebra.specs.declared.unary.UnaryOp.{UnaryOp}

abbrev pub op_named : BinaryOp → OpName
op_named op = record { kind = op.kind; domain = op.domain }

abbrev pub unary_named : UnaryOp → UnaryName
unary_named op = record { kind = op.kind; domain = op.domain }

abbrev pub index_named : IndexOp → IndexName
index_named op = record { kind = op.kind; domain = op.domain }

abbrev pub monoid_named : Monoid → MonoidName
monoid_named monoid = record { kind = monoid.kind; domain = monoid.op.domain }

-- a semiring's domain is that of its operator's inputs
abbrev pub semiring_named : Semiring → SemiringName
semiring_named semiring = record {
  add = semiring.add.kind;
  multiply = semiring.multiply.kind;
  domain = semiring.multiply.domain;
}
