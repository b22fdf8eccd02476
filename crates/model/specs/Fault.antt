-- Which error a call answers (the return values of each method of the GraphBLAS C API; the order among
-- several is this project's).
use Rattle.std.specs.Prelude.{ℕ, ◌==◌, ◌&&◌, ◌||◌, not, Bool, true, false, is_none, is_some, nat_le, List, [], ◌∷◌}
use Rattle.std.specs.Prelude.{length, Option, Some, None, if◌then◌else◌}
use Rattle.std.specs.List.{find}
use Rattle.std.specs.Option.{option_and_then, option_map, option_map_or}
use Rattle.algebra.specs.declared.domain.Domain.{Domain}
use Rattle.algebra.specs.declared.operator_names.OpName.{OpName}
use Rattle.algebra.specs.Operators.{answer_domain, combines_by, offers}
use Rattle.algebra.specs.Value.{are_compatible, is_built_in, is_value_of, same_domain}
use Rattle.model.specs.declared.call.Act.{Act}
use Rattle.model.specs.declared.call.Act.TheVariants.{Resize, Build, Set, Remove, Get, Reduce}
use Rattle.model.specs.declared.call.Call.{Call}
use Rattle.model.specs.declared.call.Call.TheVariants.{Create, Dup, On, Operate}
use Rattle.model.specs.declared.call.Desc.{Desc}
use Rattle.model.specs.declared.call.Operation.{Operation}
use Rattle.model.specs.declared.call.Out.{Out}
use Rattle.model.specs.declared.call.Plan.{Plan}
use Rattle.model.specs.declared.limits.TheConstants.{GREATEST_DIMENSION, MOST_FILLED, MOST_OBJECTS}
use Rattle.model.specs.declared.shape.Shape.{Shape}
use Rattle.model.specs.declared.shape.Signature.{Signature}
use Rattle.model.specs.declared.status.Status.{Status}
use Rattle.model.specs.declared.status.Status.TheVariants as status
use Rattle.model.specs.Builds.{are_inside, are_of_kind, are_single, are_values_of}
use Rattle.model.specs.Entries.{entries_of}
use Rattle.model.specs.Object.{Object, col_of, cols_of, is_inside, is_of_kind, row_of, rows_of, same_kind}
use Rattle.model.specs.Object.{same_shape, signature_of, transposed_signature}
use Rattle.model.specs.Renamed.{found, renamed}
use Rattle.model.specs.Table.{filled_by, is_offered, plan_of, transposed}

-- the order of the checks; that a line is no call is found before them
abbrev pub order : List Status
order =
    status.NameTaken ∷ status.UninitializedObject ∷ status.WrongKind ∷ status.NoFile ∷ status.BadFile
    ∷ status.NotImplemented ∷ status.DomainMismatch ∷ status.DimensionMismatch ∷ status.InvalidIndex
    ∷ status.IndexOutOfBounds ∷ status.InvalidValue ∷ []

-- the first of the order whose test fails
abbrev pub first_of : (Status → Bool) → Option Status
first_of fails = find fails order

-- whether a number is a dimension
abbrev pub is_dimension : ℕ → Bool
is_dimension n = nat_le 1 n && nat_le n GREATEST_DIMENSION

abbrev pub are_dimensions : Shape → Bool
are_dimensions shape = is_dimension (rows_of shape) && is_dimension (cols_of shape)

-- ---- operations

-- an object serves as a mask by its values where they can be cast to BOOL, and by its structure always
abbrev pub serves_as_mask : Desc → Signature → Bool
serves_as_mask desc mask = desc.structure || is_built_in mask.domain

-- an accumulator is an operator of the output's domain to that domain
abbrev pub accumulates : Domain → OpName → Bool
accumulates domain op =
    offers op.kind op.domain && same_domain op.domain domain && same_domain (answer_domain op.kind op.domain) domain

-- whether a mask, where there is one, passes a test
abbrev pub mask_passes : (Signature → Bool) → Out Signature → Bool
mask_passes test out = option_map_or test out.mask true

-- which tests an operation fails whose plan this is
abbrev pub plan_fails : Out Signature → Plan → Status → Bool
plan_fails out plan status.WrongKind =
    not (plan.kinds && same_kind plan.shape out.c.shape && mask_passes (λ m. same_kind m.shape out.c.shape) out)
plan_fails out plan status.DomainMismatch =
    not (mask_passes (serves_as_mask out.desc) out && plan.compatible && are_compatible plan.domain out.c.domain)
plan_fails out plan status.DimensionMismatch =
    not (mask_passes (λ m. same_shape m.shape out.c.shape) out && same_shape plan.shape out.c.shape && plan.fits)
plan_fails out plan status.IndexOutOfBounds = not plan.inside
plan_fails out plan status.InvalidValue = not plan.values
plan_fails out plan _ = false

-- whether all operators are there, and no more positions are filled than may be
abbrev pub is_implemented : Out Signature → Operation Signature → Bool
is_implemented out operation =
    is_offered operation && nat_le (filled_by out.c.shape operation) MOST_FILLED
    && option_map_or (accumulates out.c.domain) out.accum true

-- what an operation says of its output and its inputs, which are transposed first
abbrev pub plan_in : Signature → Desc → Operation Signature → Plan
plan_in c desc operation = plan_of c (transposed transposed_signature desc operation)

-- which tests an operation fails
abbrev pub operation_fails : Out Signature → Operation Signature → Status → Bool
operation_fails out operation status.NotImplemented = not (is_implemented out operation)
operation_fails out operation s = plan_fails out (plan_in out.c out.desc operation) s

-- the fault of an operation whose objects are there
unfoldable pub operation_fault : Out Signature → Operation Signature → Option Status
operation_fault out operation = first_of (operation_fails out operation)

-- ---- acts

-- which tests an act fails on its object
abbrev pub act_fails : Signature → Act → Status → Bool
act_fails o (Resize shape) status.WrongKind = not (same_kind shape o.shape)
act_fails o (Resize shape) status.InvalidValue = not (are_dimensions shape)
act_fails o (Build dup tuples) status.WrongKind = not (are_of_kind o.shape tuples)
act_fails o (Build dup tuples) status.NotImplemented = not (option_map_or (accumulates o.domain) dup true)
act_fails o (Build dup tuples) status.IndexOutOfBounds = not (are_inside o.shape tuples)
act_fails o (Build dup tuples) status.InvalidValue =
    not (are_values_of o.domain tuples && (is_some dup || are_single tuples))
act_fails o (Set place value) status.WrongKind = not (is_of_kind place o.shape)
act_fails o (Set place value) status.InvalidIndex = not (is_inside place o.shape)
act_fails o (Set place value) status.InvalidValue = not (is_value_of o.domain value)
act_fails o (Remove place) status.WrongKind = not (is_of_kind place o.shape)
act_fails o (Remove place) status.InvalidIndex = not (is_inside place o.shape)
act_fails o (Get place) status.WrongKind = not (is_of_kind place o.shape)
act_fails o (Get place) status.InvalidIndex = not (is_inside place o.shape)
act_fails o (Reduce monoid) status.NotImplemented = not (offers (combines_by monoid.kind) monoid.domain)
act_fails o (Reduce monoid) status.DomainMismatch = not (are_compatible o.domain monoid.domain)
act_fails o _ _ = false

abbrev pub has_entries : Object → Bool
has_entries o = not (length (entries_of (rows_of o.shape) (cols_of o.shape) o.content) == 0)

-- the fault of an act that depends on values
abbrev pub late_fault : Object → Act → Option Status
late_fault o (Get place) = if is_none (o.content (row_of place) (col_of place)) then Some status.NoValue else None
late_fault o (Build dup tuples) = if has_entries o then Some status.OutputNotEmpty else None
late_fault o _ = None

-- ---- calls

-- which tests a call fails on its objects, where there are so many objects
abbrev pub test_fails : {N : Type 0} → ℕ → Call Signature N → Status → Bool
test_fails count (Create name domain shape) status.NotImplemented = nat_le MOST_OBJECTS count
test_fails count (Create name domain shape) status.InvalidValue = not (are_dimensions shape)
test_fails count (Dup name o) status.NotImplemented = nat_le MOST_OBJECTS count
test_fails count (On o act) s = act_fails o act s
test_fails count (Operate out operation) s = operation_fails out operation s
test_fails count _ _ = false

-- whether a call makes an object under a name that is taken; a new name stands for whether it is
abbrev pub takes_name : {K : Type 0} → Call K Bool → Bool
takes_name (Create taken domain shape) = taken
takes_name (Dup taken object) = taken
takes_name _ = false

-- which tests a call fails; those on objects are made where all are there
abbrev pub call_fails : ℕ → Call (Option Signature) Bool → Status → Bool
call_fails count call status.NameTaken = takes_name call
call_fails count call status.UninitializedObject = is_none (found call)
call_fails count call s = option_map_or (λ call. test_fails count call s) (found call) false

-- the fault that depends on names, domains, shapes and the number of objects alone
unfoldable pub early_fault : ℕ → Call (Option Signature) Bool → Option Status
early_fault count call = first_of (call_fails count call)

-- the fault of a call that depends on the values of its object, where that is there
abbrev pub fault_by_values : {N : Type 0} → Call (Option Object) N → Option Status
fault_by_values (On o act) = option_and_then (λ o. late_fault o act) o
fault_by_values _ = None

-- the fault of a call, if it has one
abbrev pub fault_of : ℕ → Call (Option Object) Bool → Option Status
fault_of count call =
    option_map_or Some (early_fault count (renamed (option_map signature_of) (λ taken. taken) call))
    (fault_by_values call)
