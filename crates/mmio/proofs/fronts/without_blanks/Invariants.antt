-- Blanks at the front are no part of a word.
use Rattle.std.proofs.Common.{length, drop, ◌-◌, ◌≡◌, ◌≤◌}
use Rattle.model.specs.Grammar.{words_of}
use Rattle.mmio.proofs.fronts.without_blanks.Given as goal

abbrev pub invariant-loop-start : goal.invariant-loop-start
invariant-loop-start l = record { within : l.start ≤ length l.text; words : words_of (drop l.start l.text) ≡ words_of l.text }

abbrev pub decreases-loop-start : goal.decreases-loop-start
decreases-loop-start l = length l.text - l.start
