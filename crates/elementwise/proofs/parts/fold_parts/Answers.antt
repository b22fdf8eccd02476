-- The words of one more store follow those of the stores before.
use Rattle.std.proofs.Common.{◌≡◌, ◌∙◌, ◌+◌, ◌<◌, ◌^◌, ◌++◌, ◌∷◌, [], ap, append-nil, arith, get_or, sym, take}
use Rattle.std.proofs.lemmas.List.{take_all, take_more}
use Rattle.std.proofs.lemmas.List.Elements.{All-append}
use Rattle.std.proofs.lemmas.List.Concat.{flat_map-append}
use Rattle.lanes.specs.Lists.{fold_of}
use Rattle.model.specs.Reductions.{all_words}
use Rattle.store.specs.Stored.{Stored, content_of}
use Rattle.elementwise.specs.Sums.{words_of}
use Rattle.elementwise.proofs.parts.fold_parts.Goals as goal

pub loop-k-init : goal.loop-k-init
loop-k-init c = record { sum = c.identity-sum.ensures; words = λ k e within. absurd (omega arith) }

pub loop-k-preserved : goal.loop-k-preserved
loop-k-preserved c =
    let m = c.args.monoid in
    let parts = c.args.parts.now in
    let k = c.loop-k.k in
    let part = c.index-parts-k.result in
    let before = words_of (take k parts) in
    let here = c.words-words.result.now in
    let more : words_of (take (k + 1) parts) ≡ before ++ here =
    ap words_of (take_more parts k part c.loop-k-test.true) ∙ flat_map-append (λ (s : Stored). all_words s.rows s.cols (content_of s)) (take k parts) (get_or parts k part ∷ [])
    ∙ ap (λ ws. before ++ ws) (append-nil (all_words (get_or parts k part).rows (get_or parts k part).cols (content_of (get_or parts k part)))) ∙ ap (λ (s : Stored). before ++ all_words s.rows s.cols (content_of s)) (sym c.index-parts-k.is) ∙ ap (λ ws. before ++ ws) (sym c.words-words.ensures) in
    record {
      sum = c.fold_behind-sum.ensures before c.loop-k.invariant.sum ∙ ap (fold_of m.kind m.op.domain) (sym more);
      words = rw (more) (All-append (λ word. word < 2 ^ 64) before here c.loop-k.invariant.words c.know_words.ensures);
    }

pub returns-clause-sum : goal.returns-clause-sum
returns-clause-sum c =
    let m = c.args.monoid in
    let parts = c.args.parts.now in
    let end = c.loop-k-test.false in
    c.loop-k.invariant.sum ∙ ap (λ ps. fold_of m.kind m.op.domain (words_of ps)) (take_all c.loop-k.k parts (omega arith))
