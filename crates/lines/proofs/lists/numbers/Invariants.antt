-- What was read and what is left are all items; what is left gets shorter.
use Rattle.std.proofs.Common.{◌≡◌, ◌+◌, [], length}
use Rattle.std.specs.Option.{option_map_or}
use Rattle.model.specs.Grammar.{all_read, items_of, number_of}
use Rattle.lines.proofs.ReadLaws.{behind}
use Rattle.lines.proofs.lists.numbers.Given as goal

abbrev pub invariant-loop-left : goal.invariant-loop-left
invariant-loop-left l = all_read number_of (items_of l.word) ≡ behind l.numbers.items (all_read number_of (option_map_or (λ rest. items_of rest.now) l.left []))

abbrev pub decreases-loop-left : goal.decreases-loop-left
decreases-loop-left l = option_map_or (λ rest. length rest.now + 1) l.left 0
