-- The faults of operations whose objects are found, or are not.
use Rattle.std.proofs.Common.{◌≡◌, ℕ, refl, Option, Some, None}
use Rattle.model.specs.declared.call.Call.TheVariants.{Operate}
use Rattle.model.specs.declared.call.Operation.{Operation}
use Rattle.model.specs.declared.call.Operation.TheVariants.{OfTwo}
use Rattle.model.specs.declared.call.Out.{Out}
use Rattle.model.specs.declared.call.TwoInputs.{TwoInputs}
use Rattle.model.specs.declared.shape.Signature.{Signature}
use Rattle.model.specs.declared.status.Status.TheVariants as status
use Rattle.model.specs.Fault.{early_fault, operation_fault}
use Rattle.model.specs.Renamed.{found_operation, found_out}

pub fault-no_output : (count : ℕ) (out : Out (Option Signature)) (operation : Operation (Option Signature))
    → None ≡ found_out out → early_fault count (Operate out operation) ≡ Some status.UninitializedObject
unfolding early_fault
fault-no_output count out operation is = rw (← is) refl

pub fault-no_input : (count : ℕ) (known_out : Out Signature) (out : Out (Option Signature))
    (operation : Operation (Option Signature)) → Some known_out ≡ found_out out → None ≡ found_operation operation
    → early_fault count (Operate out operation) ≡ Some status.UninitializedObject
unfolding early_fault
fault-no_input count known_out out operation is none = rw (← is, ← none) refl

-- all objects are there
pub fault-known : (count : ℕ) (known_out : Out Signature) (known : Operation Signature) (out : Out (Option Signature))
    (operation : Operation (Option Signature)) → Some known_out ≡ found_out out
    → Some known ≡ found_operation operation
    → early_fault count (Operate out operation) ≡ operation_fault known_out known
unfolding early_fault operation_fault
fault-known count known_out known out operation is same = rw (← is, ← same) refl

pub ruleset founds = (fault-known, fault-no_output, fault-no_input)

-- ---- operations of two inputs

pub fault-no_first : (count : ℕ) (known_out : Out Signature) (out : Out (Option Signature)) (computes : TwoInputs)
    (a b : Option Signature) → Some known_out ≡ found_out out → None ≡ a
    → early_fault count (Operate out (OfTwo computes a b)) ≡ Some status.UninitializedObject
unfolding early_fault
fault-no_first count known_out out computes a b is none = rw (← is, ← none) refl

pub fault-no_second : (count : ℕ) (known_out : Out Signature) (known_a : Signature) (out : Out (Option Signature))
    (computes : TwoInputs) (a b : Option Signature) → Some known_out ≡ found_out out → Some known_a ≡ a → None ≡ b
    → early_fault count (Operate out (OfTwo computes a b)) ≡ Some status.UninitializedObject
unfolding early_fault
fault-no_second count known_out known_a out computes a b is first none = rw (← is, ← first, ← none) refl

pub fault-of_two : (count : ℕ) (known_out : Out Signature) (known_a known_b : Signature) (out : Out (Option Signature))
    (computes : TwoInputs) (a b : Option Signature) → Some known_out ≡ found_out out → Some known_a ≡ a
    → Some known_b ≡ b
    → early_fault count (Operate out (OfTwo computes a b)) ≡ operation_fault known_out (OfTwo computes known_a known_b)
unfolding early_fault operation_fault
fault-of_two count known_out known_a known_b out computes a b is first second = rw (← is, ← first, ← second) refl

pub ruleset founds_of_two = (fault-no_output, fault-no_first, fault-no_second, fault-of_two)
