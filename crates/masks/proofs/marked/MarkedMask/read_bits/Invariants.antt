use Rattle.model.specs.Entries.{word_at}
use Rattle.masks.specs.Masks.{lets_word}
use Rattle.masks.proofs.ReadBits.{AreRead}
use Rattle.masks.proofs.marked.MarkedMask.read_bits.Given as goal

abbrev pub invariant-loop-at : goal.invariant-loop-at
invariant-loop-at l = record { read : AreRead (λ at. lets_word l.self.test (word_at l.self.bitmap.now.entries at 0)) l.bits.items l.at }
