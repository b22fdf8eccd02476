use Rattle.std.proofs.Common.{◌≡◌, ◌+◌, ◌-◌, ◌∙◌, ap, arith, drop, get_or, sym, take}
use Rattle.std.specs.List.{fold}
use Rattle.algebra.specs.Operators.{eval_of}
use Rattle.lanes.proofs.PresentLaws.{fold_next}
use Rattle.lanes.proofs.present.fold_all.Goals as goal

pub loop-k-preserved : goal.loop-k-preserved
loop-k-preserved c =
    let s = c.loop-k in
    let base = c.args.base in
    let words = c.args.words.now in
    let f = eval_of c.args.monoid.op.kind c.args.monoid.op.domain in
    let before = c.args.before in
    let low = s.auto.k in
    let under = c.loop-k-test.true in
    let place : base + (s.k - base) ≡ s.k = omega arith in
    let next : s.k + 1 - base ≡ s.k - base + 1 = omega arith in
    c.eval-sum.ensures ∙ ap (λ sum. f sum (get_or words s.k 0)) s.invariant
    ∙ ap (λ k. f (fold f before (take (s.k - base) (drop base words))) (get_or words k 0)) (sym place)
    ∙ sym (fold_next f words base (s.k - base) before (omega (arith, c.requires)))
    ∙ ap (λ n. fold f before (take n (drop base words))) (sym next)

pub returns : goal.returns
returns c =
    let s = c.loop-k in
    let base = c.args.base in
    let f = eval_of c.args.monoid.op.kind c.args.monoid.op.domain in
    let bounds = s.auto in
    let past = c.loop-k-test.false in
    let all : s.k - base ≡ 64 = omega (arith, s.auto.k) in
    s.invariant ∙ ap (λ n. fold f c.args.before (take n (drop base c.args.words.now))) all
