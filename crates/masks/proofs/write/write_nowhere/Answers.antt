-- A block without an entry has no word.
use Rattle.std.proofs.Common.{◌∙◌, [], ap, refl}
use Rattle.model.specs.Entries.{word_at}
use Rattle.masks.proofs.BlockLaws.{no_word}
use Rattle.masks.proofs.write.write_nowhere.Goals as goal

pub returns-then-replace-clause-words : goal.returns-then-replace-clause-words
returns-then-replace-clause-words c accum i j low high = rw c.if-replace.true (ap (λ es. word_at es i j) c.new.ensures.entries ∙ no_word [] i j refl)
