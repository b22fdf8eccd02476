use Rattle.std.proofs.Common.{◌≡◌, ◌∙◌, Some, ap, arith, length, refl, slice_get, subst, sym}
use Rattle.std.proofs.lemmas.Option.{slice_get_read}
use Rattle.stages.specs.Numbers.{IsPlace, numbers}
use Rattle.board.proofs.PickLaws.{picked_before, picked_last, picked_open, place_is, rank}
use Rattle.stages.proofs.NumberLaws.{numbers_below}
use Rattle.board.proofs.picking.picked_at.Goals as goal

pub returns-then-at-place : goal.returns-then-at-place
returns-then-at-place c p q n ready parted apart =
    let k = c.index-number.result.now in
    let there = slice_get_read c.args.parted.now.items (length c.args.parted.now.items) c.loop-before.before k refl (omega (arith, c.loop-before-test.true, c.len-before-end.ensures)) c.index-number.ensures in
    picked_open p q n apart c.loop-before.before k c.place_of.result c.args.place
    (ap (λ l. slice_get l c.loop-before.before) (sym parted) ∙ there)
    (subst (λ l. IsPlace l k c.place_of.result) ready c.place_of.ensures) c.if-at-place.true

pub returns-then-at-place-2 : goal.returns-then-at-place-2
returns-then-at-place-2 c p q n ready parted apart =
    let k = c.index-number.result.now in
    let there = slice_get_read c.args.parted.now.items (length c.args.parted.now.items) c.loop-before.before k refl (omega (arith, c.loop-before-test.true, c.len-before-end.ensures)) c.index-number.ensures in
    picked_before p q n apart c.loop-before.before k c.place_of.result c.args.place
    (ap (λ l. slice_get l c.loop-before.before) (sym parted) ∙ there)
    (subst (λ l. IsPlace l k c.place_of.result) ready c.place_of.ensures) c.if-at-place-2.true
    c.loop-before.invariant.0 (c.loop-before.invariant.1 p q n ready parted)

pub loop-before-preserved : goal.loop-before-preserved
loop-before-preserved c = (
  omega (arith, c.if-at-place-2.false, c.if-at-place.false),
  λ p q n ready parted j x d last at is.
      let k = c.index-number.result.now in
      let there = slice_get_read c.args.parted.now.items (length c.args.parted.now.items) c.loop-before.before k refl (omega (arith, c.loop-before-test.true, c.len-before-end.ensures)) c.index-number.ensures in
      let here : j ≡ c.loop-before.before = omega (arith, last) in
      let same : Some k ≡ Some x = sym there ∙ (ap (λ l. slice_get l c.loop-before.before) parted ∙ (ap (slice_get (numbers q n)) (sym here) ∙ at)) in
      let x_is : k ≡ x = cc (same) in
      let low = numbers_below q n j x at in
      let place = place_is p n k c.place_of.result (subst (λ l. IsPlace l k c.place_of.result) ready c.place_of.ensures) (let l = low.0 in omega (arith, l, x_is)) in
      let r : rank p k ≡ rank p x = ap (rank p) x_is in
      omega (arith, c.if-at-place-2.false, c.if-at-place.false, is, place, r, here),
)

pub returns : goal.returns
returns c p q n ready parted apart =
    let a = ap length parted in
    let b = ap length ready in
    let all = c.len.ensures in
    picked_last p q n apart c.len.result c.args.place (omega (arith, all, a))
    (omega (arith, c.requires, a, b, all)) (omega (arith, c.loop-before.invariant.0, c.loop-before.auto.before-end, all, c.len-before-end.ensures, c.loop-before-test.false))
    (λ j x d last at is. c.loop-before.invariant.1 p q n ready parted j x d (omega (arith, last, all, c.len-before-end.ensures, c.loop-before.auto.before-end, c.loop-before-test.false)) at is)
