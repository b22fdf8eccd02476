use Rattle.std.proofs.Common.{◌∙◌, ◌++◌, arith, refl, sym}
use Rattle.elementwise.proofs.FoldLaws.{fold_made}
use Rattle.elementwise.proofs.parts.fold_behind.Goals as goal

pub returns-else-is_boolean : goal.returns-else-is_boolean
returns-else-is_boolean c = λ others is.
    let m = c.args.monoid in
    let words = c.args.words.now in
    let other = sym c.is_boolean.ensures ∙ c.if-is_boolean.false in
    fold_made m.kind m.op.kind m.op.domain others words (others ++ words) m.combines m.op.offered other (λ k. omega (arith, c.type_inv.words k)) refl is c.fold_words.ensures c.eval.ensures
