use Rattle.std.proofs.Common.{◌∙◌}
use Rattle.lanes.proofs.PresentLaws.{bit_of_all, fold_all_more}
use Rattle.lanes.proofs.present.fold_part.Goals as goal

pub returns-then-bits-base : goal.returns-then-bits-base
returns-then-bits-base c =
    let m = c.args.monoid in
    let bits = c.args.bits.now in
    let base = c.args.base in
    c.fold_all.ensures ∙ fold_all_more m.kind m.op.domain m.op.kind bits c.args.words.now base 64 c.args.before m.combines c.requires.inside (λ k low high. bit_of_all bits base k c.requires.whole low high c.if-bits-base.true) c.requires.sum
