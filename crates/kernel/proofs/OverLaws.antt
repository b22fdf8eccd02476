-- Operations whose output's old content is beside the stores of the other roles.
use Rattle.std.proofs.Common.{◌≡◌, ◌∙◌, ℕ, Bool, Bor, true, false, if◌then◌else◌, Option, Some, None, Result, refl, subst, sym}
use Rattle.std.specs.Prelude.{IfOk, IfSome}
use Rattle.bitmap.specs.Bitmaps.{Held}
use Rattle.calls.specs.declared.role.Role.{Role}
use Rattle.calls.specs.declared.role.Role.TheVariants.{Old, Mask, First, Second}
use Rattle.calls.specs.declared.role.Roles.{Roles}
use Rattle.calls.specs.Recipes.{known_by_role}
use Rattle.calls.specs.Stores.{IsStoreOf}
use Rattle.kernel.specs.declared.task.Task.{Task}
use Rattle.kernel.specs.Bitmaps.{HasAll}
use Rattle.kernel.specs.Blocks.{AgreesUnder, HasShape}
use Rattle.kernel.specs.Overs.{IsUnwritten, beside}
use Rattle.kernel.specs.Spread.{spread}
use Rattle.kernel.specs.Takes.{AreInputs, Takes, map_in, maps_in}
use Rattle.kernel.specs.Tasks.{operation_of, out_of}
use Rattle.kernel.proofs.Accepted.{mask-fits}
use Rattle.masks.specs.declared.view.Mask.{Mask as AnyMask}
use Rattle.masks.specs.declared.view.Mask.TheVariants.{By, Everywhere, Nowhere}
use Rattle.masks.specs.Masks.{IfStored, lets_through}
use Rattle.model.specs.declared.call.Operation.{Operation}
use Rattle.model.specs.declared.call.Out.{Out}
use Rattle.model.specs.declared.shape.Signature.{Signature}
use Rattle.model.specs.Fault.{operation_fault}
use Rattle.model.specs.Object.{Object, cols_of, rows_of}
use Rattle.model.specs.WriteBack.{mask_set, reads_old, result_of}
use Rattle.store.specs.Stored.{Block, Stored}

-- an old store that is there is read, and fits
old_taken : (read : Bool) (c : Signature) (old : Stored) → Takes (if read then Some c else None) (Some old)
    → IsStoreOf c old
old_taken true c old takes = takes
old_taken false c old takes = absurd (takes)

pub old-taken : (out : Out Signature) (operation : Operation Signature) (old : Stored)
    → Takes (known_by_role out operation Old) (Some old) → IsStoreOf out.c old
old-taken out operation old takes = old_taken (reads_old out operation) out.c old takes

-- the store of a mask has the output's shape
pub mask-taken : (out : Out Signature) (operation : Operation Signature) → operation_fault out operation ≡ None
    → (mask : Option Signature) → out.mask ≡ mask → (stored : Stored) → Takes mask (Some stored)
    → (stored.rows ≡ rows_of out.c.shape) × (stored.cols ≡ cols_of out.c.shape)
mask-taken out operation accepted (Some mask) is stored takes =
    let fits = mask-fits out operation accepted mask is in
    (takes.rows ∙ fits.0, takes.cols ∙ fits.1)
mask-taken out operation accepted None is stored takes = absurd (takes)

-- ..and so as many columns as the old store
pub mask-cols : (mask : AnyMask) (rows cols other : ℕ) → HasShape rows cols mask → cols ≡ other
    → IfStored mask (λ store. store.cols ≡ other)
mask-cols Everywhere rows cols other has same = tt
mask-cols Nowhere rows cols other has same = tt
mask-cols (By mask) rows cols other has same = has.1 ∙ same

-- the maps that take the roles are those of the stores with the old one among them
pub maps-beside : (old : Bor Stored) (stores : Roles (Bor Stored)) (role : Role)
    → maps_in (record stores { old = Some old }) role ≡ map_in (beside old.now stores role)
maps-beside old stores Old = refl
maps-beside old stores Mask = refl
maps-beside old stores First = refl
maps-beside old stores Second = refl

-- ..and where these fit, so do those
pub takes-beside : (known : Role → Option Signature) (old : Bor Stored) (stores : Roles (Bor Stored))
    → ((role : Role) → Takes (known role) (beside old.now stores role)) → AreInputs known (record stores { old = Some old })
takes-beside known old stores takes Old = takes Old
takes-beside known old stores takes Mask = takes Mask
takes-beside known old stores takes First = takes First
takes-beside known old stores takes Second = takes Second

-- what a task computes is what is written back
pub unwritten-task : (task : Task) (mask : AnyMask) (out : Out Object) (op : Operation Object) (rows : ℕ) (block : Block)
    → out_of task ≡ out → operation_of task ≡ op
    → ((i j : ℕ) → mask_set (out_of task) i j ≡ lets_through mask i j)
    → AgreesUnder mask 0 rows (cols_of task.out.c.signature.shape) (spread (out_of task) (operation_of task)) block
    → IsUnwritten out op 0 rows block
unwritten-task task mask out op rows block same_out same_op set agrees =
    let here : IsUnwritten (out_of task) (operation_of task) 0 rows block = record {
      first_is = agrees.first_is;
      past_is = agrees.past_is;
      cols_are = agrees.cols_are;
      words = λ i j low high inside. agrees.words i j low high (sym (set i j) ∙ inside);
    } in
    subst (λ (o : Out Object). IsUnwritten o op 0 rows block) same_out
    (subst (λ (p : Operation Object). IsUnwritten (out_of task) p 0 rows block) same_op here)

-- a bitmap of all that a task leaves is one of all that is left
pub bitmap-over : {E : Type 0} (result : Result (Option Held) E) (task : Task) (out : Out Object) (op : Operation Object)
    → out_of task ≡ out → operation_of task ≡ op
    → IfOk result (λ found. IfSome found (HasAll (rows_of (out_of task).c.shape) (cols_of (out_of task).c.shape)
    (result_of (out_of task) (operation_of task))))
    → IfOk result (λ found. IfSome found (HasAll (rows_of out.c.shape) (cols_of out.c.shape) (result_of out op)))
bitmap-over result task out op same_out same_op has =
    subst (λ (p : Operation Object). IfOk result (λ found. IfSome found (HasAll (rows_of out.c.shape) (cols_of out.c.shape) (result_of out p)))) same_op
    (subst (λ (o : Out Object). IfOk result (λ found. IfSome found (HasAll (rows_of o.c.shape) (cols_of o.c.shape) (result_of o (operation_of task))))) same_out has)
