-- Words were added as far as a gap.
use Rattle.std.proofs.Common.{◌≡◌, ◌++◌, ◌≤◌, ◌-◌, ◌+◌, drop, length, map}
use Rattle.std.specs.List.{list_all}
use Rattle.model.specs.Grammar.{is_plain, words_of}
use Rattle.lines.proofs.words.add_words.Given as goal

abbrev pub invariant-loop-gap : goal.invariant-loop-gap
invariant-loop-gap l = record {
  within : l.start ≤ length l.line;
  added : map (λ word. word.now) l.initial.words.items ++ words_of l.line ≡ map (λ word. word.now) l.words.items ++ words_of (drop l.start l.line);
  plain : list_all is_plain l.line ≡ list_all is_plain (drop l.start l.line);
}

abbrev pub decreases-loop-gap : goal.decreases-loop-gap
decreases-loop-gap l = length l.line + 1 - l.start
