-- The stores that take roles.
use Rattle.std.specs.Prelude.{Option}
use Rattle.std.specs.Arc.{arc_value}
use Rattle.std.specs.Option.{option_map}
use Rattle.calls.specs.declared.role.Role.{Role}
use Rattle.calls.specs.declared.role.Role.TheVariants.{Old, Mask, First, Second}
use Rattle.store.specs.Stored.{Stored}
use Rattle.board.specs.declared.piece.Stores.{Stores}

abbrev pub stored_for : Stores → Role → Option Stored
stored_for stores Old = option_map (λ s. arc_value s) stores.old
stored_for stores Mask = option_map (λ s. arc_value s) stores.mask
stored_for stores First = option_map (λ s. arc_value s) stores.first
stored_for stores Second = option_map (λ s. arc_value s) stores.second
