-- Operations whose output's old content is beside the stores of the other roles.
use Rattle.std.specs.Prelude.{ℕ, ◌≡◌, ◌<◌, ◌≤◌, Option, Some, true}
use Rattle.std.specs.Borrow.{Bor}
use Rattle.calls.specs.declared.role.Role.{Role}
use Rattle.calls.specs.declared.role.Role.TheVariants.{Old, Mask, First, Second}
use Rattle.calls.specs.declared.role.Roles.{Roles}
use Rattle.kernel.specs.Spread.{spread}
use Rattle.kernel.specs.Takes.{lent_in}
use Rattle.model.specs.declared.call.Operation.{Operation}
use Rattle.model.specs.declared.call.Out.{Out}
use Rattle.model.specs.Object.{Object, cols_of}
use Rattle.model.specs.WriteBack.{mask_set}
use Rattle.store.specs.Stored.{Block, Stored, block_content}

-- the stores that take roles, the old one among them
abbrev pub beside : Stored → Roles (Bor Stored) → Role → Option Stored
beside old stores Old = Some old
beside old stores Mask = lent_in stores Mask
beside old stores First = lent_in stores First
beside old stores Second = lent_in stores Second

-- a block has the rows from first up to before past of what is written back at the positions of the mask set
pub record IsUnwritten (out : Out Object) (operation : Operation Object) (first past : ℕ) (block : Block) : Type 0 where
  pub first_is : block.first ≡ first
  pub past_is : block.past ≡ past
  pub cols_are : block.cols ≡ cols_of out.c.shape
  pub words : (i j : ℕ) → first ≤ i → i < past → mask_set out i j ≡ true
      → block_content block i j ≡ spread out operation i j
