-- How the inputs of a recipe that transposes none are had of those of an operation whose flags transpose some.
use Rattle.std.specs.Prelude.{◌≡◌, ◌&&◌, false, true, if◌then◌else◌, Option, Some, None}
use Rattle.std.specs.Option.{IfSome, option_and_then, option_map}
use Rattle.algebra.specs.declared.kinds.BinaryKind.{BinaryKind}
use Rattle.algebra.specs.declared.kinds.BinaryKind.TheVariants as binary
use Rattle.algebra.specs.declared.operator_names.SemiringName.{SemiringName}
use Rattle.calls.specs.declared.role.Role.{Role}
use Rattle.calls.specs.declared.role.Role.TheVariants.{First, Second}
use Rattle.calls.specs.declared.turns.Turns.{Turns}
use Rattle.calls.specs.declared.turns.Turns.TheVariants.{Transposed, Exchanged}
use Rattle.model.specs.declared.call.Desc.{Desc}
use Rattle.model.specs.declared.call.Form.{Form}
use Rattle.model.specs.declared.call.Form.TheVariants.{MatrixMatrix, MatrixVector, VectorMatrix}
use Rattle.model.specs.declared.call.Operation.{Operation}
use Rattle.model.specs.declared.call.Operation.TheVariants.{Fill, OfOne, OfTwo}
use Rattle.model.specs.declared.call.TwoInputs.TheVariants.{Multiply}
use Rattle.model.specs.declared.shape.Signature.{Signature}
use Rattle.model.specs.Object.{is_matrix}
use Rattle.model.specs.Table.{transposed_if, transposes_one}

-- what takes the roles after the turns, of what takes them before
abbrev pub turned : {T : Type 0} → (T → T) → Turns → (Role → T) → Role → T
turned transpose (Transposed first second) of First = transposed_if transpose first (of First)
turned transpose (Transposed first second) of Second = transposed_if transpose second (of Second)
turned transpose Exchanged of First = of Second
turned transpose Exchanged of Second = of First
turned transpose turns of role = of role

-- the inputs that flags transpose, of those that are matrices
abbrev pub turns_of : Desc → Operation Signature → Turns
turns_of desc (Fill value region) = Transposed false false
turns_of desc (OfOne computes a) = Transposed (transposes_one computes desc && is_matrix a.shape) false
turns_of desc (OfTwo computes a b) =
    Transposed (desc.transpose_first && is_matrix a.shape) (desc.transpose_second && is_matrix b.shape)

-- what is transposed are matrices
abbrev pub AreMatrices : Turns → (Role → Option Signature) → Type 0
AreMatrices (Transposed first second) known =
    (first ≡ true → IfSome (known First) (λ a. is_matrix a.shape ≡ true))
    × (second ≡ true → IfSome (known Second) (λ b. is_matrix b.shape ≡ true))
AreMatrices Exchanged known = Unit {0}

-- ---- products of a matrix that is transposed and a vector, as products of the vector and the matrix itself

-- the operator that gives for two operands what another gives for them in exchanged order
abbrev pub flipped_kind : BinaryKind → Option BinaryKind
flipped_kind binary.First = Some binary.Second
flipped_kind binary.Second = Some binary.First
flipped_kind binary.Gt = Some binary.Lt
flipped_kind binary.Lt = Some binary.Gt
flipped_kind binary.Ge = Some binary.Le
flipped_kind binary.Le = Some binary.Ge
flipped_kind binary.Minus = None
flipped_kind kind = Some kind

abbrev pub multiplying_by : SemiringName → BinaryKind → SemiringName
multiplying_by semiring kind = record semiring { multiply = kind }

-- the semiring whose operator takes its operands in exchanged order
abbrev pub flipped_semiring : SemiringName → Option SemiringName
flipped_semiring semiring = option_map (multiplying_by semiring) (flipped_kind semiring.multiply)

-- the form of the product of the factors in exchanged order, where the matrix is transposed that multiplies a vector
abbrev pub flipped_form : Form → Desc → Option Form
flipped_form MatrixMatrix desc = None
flipped_form MatrixVector desc = if desc.transpose_first then Some VectorMatrix else None
flipped_form VectorMatrix desc = if desc.transpose_second then Some MatrixVector else None

-- the product of the factors in exchanged order
abbrev pub exchanged : {K : Type 0} → Desc → Operation K → Option (Operation K)
exchanged desc (OfTwo (Multiply form semiring) a b) = option_and_then
    (λ other. option_map (λ flipped. OfTwo (Multiply other flipped) b a) (flipped_semiring semiring))
    (flipped_form form desc)
exchanged desc _ = None
