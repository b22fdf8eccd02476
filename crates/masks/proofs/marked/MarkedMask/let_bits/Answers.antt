use Rattle.std.proofs.Common.{◌∙◌, ◌+◌, ◌*◌, ap, not, refl, sym}
use Rattle.model.specs.Entries.{word_at}
use Rattle.masks.proofs.MarkedLaws.{bit_turned, by_structure}
use Rattle.masks.proofs.marked.MarkedMask.let_bits.Goals as goal

pub returns-then-self-2 : goal.returns-then-self-2
returns-then-self-2 c = λ k small.
    let word = word_at c.args.self.bitmap.now.entries (64 * c.args.at + k) 0 in
    bit_turned c.present-present.result k c.present-present.type_inv small
    ∙ ap not (c.present-present.ensures k small)
    ∙ sym (by_structure c.args.self.test word c.if-self.false ∙ rw c.if-self-2.true refl)
