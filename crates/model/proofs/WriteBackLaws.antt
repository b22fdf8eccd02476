-- What operations leave in their outputs.
use Rattle.std.proofs.Common.{◌≡◌, ◌∙◌, ◌+◌, ℕ, ap, drop, sym, take, ◌&&◌, Bool, true, false, cond, not, List, [], ◌∷◌, ◌++◌, Option, Some, None, refl}
use Rattle.std.specs.Prelude.{nat_le}
use Rattle.std.specs.List.{find}
use Rattle.std.specs.Option.{option_map_or}
use Rattle.std.proofs.lemmas.Bool.{and_parts}
use Rattle.model.specs.declared.call.Operation.{Operation}
use Rattle.model.specs.declared.call.Out.{Out}
use Rattle.model.specs.declared.shape.Signature.{Signature}
use Rattle.model.specs.declared.limits.TheConstants.{MOST_FILLED}
use Rattle.model.specs.declared.status.Status.{Status}
use Rattle.model.specs.declared.status.Status.TheVariants as status
use Rattle.algebra.specs.Value.{are_compatible}
use Rattle.model.specs.Fault.{accumulates, is_implemented, mask_passes, operation_fails, operation_fault, order, first_of, plan_in, serves_as_mask}
use Rattle.model.specs.Object.{same_kind, same_shape}
use Rattle.model.specs.Table.{filled_by, is_offered}

-- ---- what passed the checks

split : (b : Bool) (x : Status) (rest : Option Status) → cond b (Some x) rest ≡ None → (b ≡ false) × (rest ≡ None)
split true x rest h = absurd (cc)
split false x rest h = (refl, h)

none_fails : (fails : Status → Bool) (s : Status) (before after : List Status)
    → find fails (before ++ s ∷ after) ≡ None → fails s ≡ false
none_fails fails s [] after h = (split (fails s) s (find fails after) h).0
none_fails fails s (x ∷ before) after h = none_fails fails s before after (split (fails x) x (find fails (before ++ s ∷ after)) h).1

-- no test of those in the order fails; `n` is how many come before it
pub passed : (fails : Status → Bool) (n : ℕ) (s : Status) → order ≡ take n order ++ s ∷ drop (n + 1) order
    → first_of fails ≡ None → fails s ≡ false
passed fails n s in_order h = none_fails fails s (take n order) (drop (n + 1) order) (sym (ap (λ statuses. find fails statuses) in_order) ∙ h)

pub not_false : (b : Bool) → not b ≡ false → b ≡ true
not_false true h = refl
not_false false h = absurd (cc)

pub accepted-implemented : (out : Out Signature) (op : Operation Signature) → operation_fault out op ≡ None
    → is_implemented out op ≡ true
unfolding operation_fault
accepted-implemented out op h =
    not_false (is_implemented out op) (passed (operation_fails out op) 5 status.NotImplemented refl h)

pub accepted-shapes : (out : Out Signature) (op : Operation Signature) → operation_fault out op ≡ None
    → (same_shape (plan_in out.c out.desc op).shape out.c.shape ≡ true) × ((plan_in out.c out.desc op).fits ≡ true)
unfolding operation_fault
accepted-shapes out op h =
    let plan = plan_in out.c out.desc op in
    let masked = mask_passes (λ m. same_shape m.shape out.c.shape) out in
    let all = not_false (masked && same_shape plan.shape out.c.shape && plan.fits) (passed (operation_fails out op) 7 status.DimensionMismatch refl h) in
    let parts = and_parts (masked && same_shape plan.shape out.c.shape) plan.fits all in
    ((and_parts masked (same_shape plan.shape out.c.shape) parts.0).1, parts.1)

-- the mask has the output's shape
pub accepted-mask : (out : Out Signature) (op : Operation Signature) → operation_fault out op ≡ None
    → mask_passes (λ m. same_shape m.shape out.c.shape) out ≡ true
unfolding operation_fault
accepted-mask out op h =
    let plan = plan_in out.c out.desc op in
    let masked = mask_passes (λ m. same_shape m.shape out.c.shape) out in
    let all = not_false (masked && same_shape plan.shape out.c.shape && plan.fits) (passed (operation_fails out op) 7 status.DimensionMismatch refl h) in
    (and_parts masked (same_shape plan.shape out.c.shape) (and_parts (masked && same_shape plan.shape out.c.shape) plan.fits all).0).0

-- the accumulator, where there is one, is an operator of the output's domain
pub accepted-accumulator : (out : Out Signature) (op : Operation Signature) → operation_fault out op ≡ None
    → option_map_or (accumulates out.c.domain) out.accum true ≡ true
accepted-accumulator out op h =
    (and_parts (is_offered op && nat_le (filled_by out.c.shape op) MOST_FILLED) (option_map_or (accumulates out.c.domain) out.accum true) (accepted-implemented out op h)).1

pub accepted-kinds : (out : Out Signature) (op : Operation Signature) → operation_fault out op ≡ None
    → (plan_in out.c out.desc op).kinds ≡ true
unfolding operation_fault
accepted-kinds out op h =
    let plan = plan_in out.c out.desc op in
    let masked = mask_passes (λ m. same_kind m.shape out.c.shape) out in
    let all = not_false (plan.kinds && same_kind plan.shape out.c.shape && masked) (passed (operation_fails out op) 2 status.WrongKind refl h) in
    (and_parts plan.kinds (same_kind plan.shape out.c.shape) (and_parts (plan.kinds && same_kind plan.shape out.c.shape) masked all).0).0

-- the domains of the inputs can be cast to those that are asked for
pub accepted-compatible : (out : Out Signature) (op : Operation Signature) → operation_fault out op ≡ None
    → (plan_in out.c out.desc op).compatible ≡ true
unfolding operation_fault
accepted-compatible out op h =
    let plan = plan_in out.c out.desc op in
    let masked = mask_passes (serves_as_mask out.desc) out in
    let to = are_compatible plan.domain out.c.domain in
    let all = not_false (masked && plan.compatible && to) (passed (operation_fails out op) 6 status.DomainMismatch refl h) in
    (and_parts masked plan.compatible (and_parts (masked && plan.compatible) to all).0).1

-- each index lies inside the shape that it is of
pub accepted-inside : (out : Out Signature) (op : Operation Signature) → operation_fault out op ≡ None
    → (plan_in out.c out.desc op).inside ≡ true
unfolding operation_fault
accepted-inside out op h =
    not_false (plan_in out.c out.desc op).inside (passed (operation_fails out op) 9 status.IndexOutOfBounds refl h)

-- plain values are of their domains, and no index is repeated that may stand once
pub accepted-values : (out : Out Signature) (op : Operation Signature) → operation_fault out op ≡ None
    → (plan_in out.c out.desc op).values ≡ true
unfolding operation_fault
accepted-values out op h =
    not_false (plan_in out.c out.desc op).values (passed (operation_fails out op) 10 status.InvalidValue refl h)
