-- Boards as they are seen.
use Rattle.std.specs.Prelude.{List, Option, map}
use Rattle.std.specs.Option.{option_map}
use Rattle.board.specs.Cuts.{Cutting, cutting_of}
use Rattle.board.specs.SlotViews.{slots_view}
use Rattle.stages.specs.Views.{View}
use Rattle.board.specs.declared.board.Board.{Board}

abbrev pub view_of : {N : Type 0} → Board N → View N
view_of board = slots_view board.slots

-- how far the tasks have come that are cut, by number
abbrev pub cuts_of : {N : Type 0} → Board N → List (Option Cutting)
cuts_of board = map (option_map cutting_of) board.cuts.items

-- all that is seen of a board
pub record Shown (N : Type 0) : Type 0 where
  pub slots : View N
  pub cuts : List (Option Cutting)

abbrev pub shown : {N : Type 0} → Board N → Shown N
shown board = record { slots = view_of board; cuts = cuts_of board }
