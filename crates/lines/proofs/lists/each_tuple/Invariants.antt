-- What was read and what is left are all words.
use Rattle.std.proofs.Common.{◌≡◌, drop, map}
use Rattle.model.specs.Grammar.{all_read, tuple_of}
use Rattle.lines.proofs.ReadLaws.{behind}
use Rattle.lines.proofs.lists.each_tuple.Given as goal

abbrev pub invariant-loop-word : goal.invariant-loop-word
invariant-loop-word l = all_read tuple_of (map (λ word. word.now) l.words) ≡ behind l.tuples.items (all_read tuple_of (map (λ word. word.now) (drop l.word-index l.words)))
