-- What is known of a task, since its operation was accepted, and what it leaves.
use Rattle.std.specs.Prelude.{nat_le}
use Rattle.std.proofs.Common.{◌≡◌, ◌∙◌, ℕ, ◌&&◌, true, [], ◌∷◌, Some, None, sym, ap, subst}
use Rattle.std.specs.List.{All}
use Rattle.std.specs.Option.{option_map, option_map_or}
use Rattle.std.proofs.lemmas.List.Elements.{All-cons, All-nil}
use Rattle.std.proofs.lemmas.Bool.{and_parts}
use Rattle.algebra.specs.declared.operator_names.OpName.{OpName}
use Rattle.algebra.specs.Operators.{answer_domain, offers}
use Rattle.algebra.specs.Value.{same_domain}
use Rattle.kernel.specs.declared.input.Input.{Input}
use Rattle.kernel.specs.declared.task.Task.{Task}
use Rattle.kernel.specs.Accepts.{Accepts}
use Rattle.kernel.specs.Inputs.{known_of, object_of}
use Rattle.kernel.specs.Spread.{computed_in}
use Rattle.calls.specs.Straight.{IsStraight}
use Rattle.kernel.specs.Tasks.{operation_of}
use Rattle.calls.proofs.StraightLaws.{transposed-none}
use Rattle.kernel.proofs.NameLaws.{offered-renamed}
use Rattle.model.specs.declared.call.Operation.{Operation}
use Rattle.model.specs.declared.call.Operation.TheVariants.{Fill, OfOne, OfTwo}
use Rattle.model.specs.declared.call.Out.{Out}
use Rattle.model.specs.declared.call.Plan.{Plan}
use Rattle.model.specs.declared.shape.Signature.{Signature}
use Rattle.model.specs.declared.limits.TheConstants.{MOST_FILLED}
use Rattle.model.specs.Fault.{accumulates, operation_fault, plan_in}
use Rattle.model.specs.Lent.{operation_lent}
use Rattle.model.specs.Object.{AreWordsOf, IsObject, Object, cols_of, in_domain, rows_of, signature_of, transposed_object, transposed_signature}
use Rattle.model.specs.Operations.{computed, is_written_by, operation}
use Rattle.model.specs.Renamed.{inputs_of, renamed_operation, renamed_out}
use Rattle.model.specs.Table.{filled_by, is_offered, plan_of}
use Rattle.model.specs.WriteBack.{landed, masked, result_of}
use Rattle.model.proofs.ObjectLaws.{same_shape-rows}
use Rattle.model.proofs.OperationLaws.{operation-words}
use Rattle.model.proofs.RenamedLaws.{operation_twice}
use Rattle.model.proofs.WriteBackLaws.{accepted-accumulator, accepted-compatible, accepted-implemented, accepted-inside, accepted-kinds, accepted-mask, accepted-shapes, accepted-values}

-- ---- what an accepted operation says of its mask and its accumulator

-- the mask, where there is one, has the output's shape
pub mask-fits : (out : Out Signature) (op : Operation Signature) → operation_fault out op ≡ None
    → (mask : Signature) → out.mask ≡ Some mask
    → (rows_of mask.shape ≡ rows_of out.c.shape) × (cols_of mask.shape ≡ cols_of out.c.shape)
mask-fits out op accepted mask is = same_shape-rows mask.shape out.c.shape (rw is at (accepted-mask out op accepted))

-- the accumulator, where there is one, accumulates words of the output
accumulator-passes : (out : Out Signature) (op : Operation Signature) → operation_fault out op ≡ None
    → (name : OpName) → out.accum ≡ Some name → accumulates out.c.domain name ≡ true
accumulator-passes out op accepted name is = rw is at (accepted-accumulator out op accepted)

-- ..and is offered
pub accumulator-offered : (out : Out Signature) (op : Operation Signature) → operation_fault out op ≡ None
    → (name : OpName) → out.accum ≡ Some name → offers name.kind name.domain ≡ true
accumulator-offered out op accepted name is =
    let domain = out.c.domain in
    (and_parts (offers name.kind name.domain) (same_domain name.domain domain)
    (and_parts (offers name.kind name.domain && same_domain name.domain domain) (same_domain (answer_domain name.kind name.domain) domain)
    (accumulator-passes out op accepted name is)).0).0

-- ---- operations that transpose no input

-- what is known of one that has no fault
straight-accepts : (out : Out Signature) (op : Operation Signature) → IsStraight out.desc
    → operation_fault out op ≡ None → Accepts (plan_of out.c op) out.c
straight-accepts out op straight accepted =
    let plan : plan_in out.c out.desc op ≡ plan_of out.c op = ap (plan_of out.c) (transposed-none transposed_signature out.desc op straight) in
    let shapes = accepted-shapes out op accepted in
    let accepts : Accepts (plan_in out.c out.desc op) out.c = record {
      kinds = accepted-kinds out op accepted;
      fits = shapes.1;
      compatible = accepted-compatible out op accepted;
      inside = accepted-inside out op accepted;
      values = accepted-values out op accepted;
      shape = shapes.0;
    } in
    subst (λ (p : Plan). Accepts p out.c) plan accepts

-- what it leaves is what it computes, written back
pub straight-means : (out : Out Object) (op : Operation Object) → IsStraight out.desc → (i j : ℕ)
    → result_of out op i j ≡ masked out (landed out (is_written_by out.c.shape op) (computed_in out op)) i j
unfolding result_of
straight-means out op straight i j =
    ap (λ (p : Operation Object). masked out (landed out (is_written_by out.c.shape op) (in_domain out.c.domain (computed (signature_of out.c) p))) i j)
    (transposed-none transposed_object out.desc op straight)

-- ---- tasks

-- the inputs are objects
inputs_are : (op : Operation Input) → All IsObject (inputs_of (renamed_operation object_of op))
inputs_are (Fill value region) = All-nil IsObject
inputs_are (OfOne computes a) = All-cons IsObject (object_of a) [] a.is_object (All-nil IsObject)
inputs_are (OfTwo computes a b) =
    All-cons IsObject (object_of a) (object_of b ∷ []) a.is_object (All-cons IsObject (object_of b) [] b.is_object (All-nil IsObject))

module _ (task : Task) where
  -- what is known of its objects
  abbrev known_out : Out Signature
  known_out = renamed_out known_of task.out

  abbrev known : Operation Signature
  known = renamed_operation known_of (operation_lent task.operation)

  -- what it says of its inputs and its output
  pub task-accepts : Accepts (plan_of task.out.c.signature known) task.out.c.signature
  task-accepts = straight-accepts known_out known task.straight task.accepted

  -- its operators are offered
  pub task-offered : is_offered (operation_lent task.operation) ≡ true
  task-offered =
      let all = and_parts (is_offered known && nat_le (filled_by known_out.c.shape known) MOST_FILLED) (option_map_or (accumulates known_out.c.domain) known_out.accum true) (accepted-implemented known_out known task.accepted) in
      sym (offered-renamed known_of (operation_lent task.operation)) ∙ (and_parts (is_offered known) (nat_le (filled_by known_out.c.shape known) MOST_FILLED) all.0).0

  -- the mask, where there is one, has the output's shape
  pub task-mask : (mask : Input) → task.out.mask ≡ Some mask
      → (rows_of mask.signature.shape ≡ rows_of task.out.c.signature.shape)
      × (cols_of mask.signature.shape ≡ cols_of task.out.c.signature.shape)
  task-mask mask is = mask-fits known_out known task.accepted mask.signature (ap (option_map known_of) is)

  -- the accumulator, where there is one, accumulates words of the output
  pub task-accumulates : (op : OpName) → task.out.accum ≡ Some op → accumulates task.out.c.signature.domain op ≡ true
  task-accumulates op is = accumulator-passes known_out known task.accepted op is

  -- ..and is offered
  pub task-accumulator : (op : OpName) → task.out.accum ≡ Some op → offers op.kind op.domain ≡ true
  task-accumulator op is = accumulator-offered known_out known task.accepted op is

  -- what is known of its objects is what was known of its inputs
  pub task-known : renamed_operation signature_of (operation_of task) ≡ known
  task-known = operation_twice object_of signature_of (operation_lent task.operation)

  -- what it computes are words of the domain that the table gives
  pub task-words : AreWordsOf
      (plan_of task.out.c.signature (renamed_operation signature_of (operation_of task))).domain
      (operation task.out.c.signature (operation_of task))
  task-words =
      operation-words task.out.c.signature (operation_of task) (offered-renamed object_of (operation_lent task.operation) ∙ task-offered) (inputs_are (operation_lent task.operation))
