-- Each role in turn.
use Rattle.calls.specs.declared.role.Role.TheVariants.{Old, Mask, First, Second}
use Rattle.history.proofs.history.are_sound.Goals as goal

pub returns : goal.returns
returns g c Old = c.is_sound_if.ensures
returns g c Mask = c.is_sound_if-2.ensures
returns g c First = c.is_sound_if-3.ensures
returns g c Second = c.is_sound_if-4.ensures
