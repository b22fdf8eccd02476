use Rattle.std.proofs.Common.{◌≡◌, ◌∙◌, ◌+◌, ◌++◌, ◌∷◌, [], ap, append-nil, append_assoc, arith, get_or, sym, take}
use Rattle.std.proofs.lemmas.List.{take_all, take_more}
use Rattle.std.proofs.lemmas.List.Sums.{fold-append}
use Rattle.algebra.specs.Monoids.{identity_of}
use Rattle.algebra.specs.Operators.{combines_by, eval_of}
use Rattle.lanes.specs.Lists.{fold_of}
use Rattle.elementwise.proofs.parts.fold_on.Goals as goal

pub loop-k-init : goal.loop-k-init
loop-k-init c = λ others is. is ∙ ap (fold_of c.args.monoid.kind c.args.monoid.op.domain) (sym (append-nil others))

pub loop-k-preserved : goal.loop-k-preserved
loop-k-preserved c = λ others is.
    let m = c.args.monoid in
    let words = c.args.words.now in
    let k = c.loop-k.k in
    let word = get_or words k 0 in
    let f = eval_of m.op.kind m.op.domain in
    let before = others ++ take k words in
    let more : others ++ take (k + 1) words ≡ before ++ word ∷ [] = ap (λ ws. others ++ ws) (take_more words k 0 c.loop-k-test.true) ∙ sym (append_assoc others (take k words) (word ∷ [])) in
    let next : f (fold_of m.kind m.op.domain before) word ≡ fold_of m.kind m.op.domain (before ++ word ∷ []) =
    rw m.combines (sym (fold-append (eval_of (combines_by m.kind) m.op.domain) (identity_of m.kind m.op.domain) before (word ∷ []))) in
    c.eval-all.ensures ∙ ap (λ sum. f sum word) (c.loop-k.invariant others is) ∙ next ∙ ap (fold_of m.kind m.op.domain) (sym more)

pub returns : goal.returns
returns c = λ others is.
    let words = c.args.words.now in
    let end = c.loop-k-test.false in
    c.loop-k.invariant others is ∙ ap (λ ws. fold_of c.args.monoid.kind c.args.monoid.op.domain (others ++ ws)) (take_all c.loop-k.k words (omega arith))
