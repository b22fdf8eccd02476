-- One step more, and all of them.
use Rattle.std.proofs.Common.{refl, arith, get_or}
use Rattle.std.proofs.lemmas.List.{length-set}
use mir.Val.{bool_byte}
use Rattle.elementwise.proofs.Pairing.{pairing_all, pairing_none, pairing_step}
use Rattle.elementwise.proofs.pairs.pair_others.Goals as goal

pub loop-i-init : goal.loop-i-init
loop-i-init c = record {
  pairing = pairing_none c.args.left.now c.args.left_words.now c.args.right.now c.args.right_words.now c.args.inner.now c.args.lefts.now c.args.rights.now;
  inner_long = refl;
  lefts_long = c.requires.lefts_room;
  rights_long = c.requires.rights_room;
}

pub loop-i-preserved : goal.loop-i-preserved
loop-i-preserved c =
    let s = c.loop-i in
    let here = s.invariant in
    let long_i = here.inner_long in
    let long_l = here.lefts_long in
    let long_r = here.rights_long in
    record {
      pairing = pairing_step c.args.left.now c.args.left_words.now c.args.right.now c.args.right_words.now s.i s.j s.k s.inner s.lefts s.rights c.from-i.result c.from-j.result c.from-k.result bool_byte
          here.pairing c.requires.left_words c.requires.right_words c.requires.left_rises c.requires.right_rises (omega arith) (omega arith) (omega arith) c.loop-i-test.true c.if-j-right.true c.from-k.ensures c.from-i.ensures c.from-j.ensures refl refl;
      inner_long = omega (arith, length-set s.inner s.k (get_or c.args.left.now s.i 0));
      lefts_long = omega (arith, length-set s.lefts s.k (get_or c.args.left_words.now s.i 0));
      rights_long = omega (arith, length-set s.rights s.k (get_or c.args.right_words.now s.j 0));
    }

pub returns-else-j-right-clause-met : goal.returns-else-j-right-clause-met
returns-else-j-right-clause-met c = pairing_all c.args.left.now c.args.left_words.now c.args.right.now c.args.right_words.now c.loop-i.i c.loop-i.j c.loop-i.k c.loop-i.inner c.loop-i.lefts c.loop-i.rights c.loop-i.invariant.pairing c.requires.left_words c.requires.right_words c.requires.right_rises (λ more. let done = c.if-j-right.false in omega arith)

pub returns-after-loop-i-clause-met : goal.returns-after-loop-i-clause-met
returns-after-loop-i-clause-met c = pairing_all c.args.left.now c.args.left_words.now c.args.right.now c.args.right_words.now c.loop-i.i c.loop-i.j c.loop-i.k c.loop-i.inner c.loop-i.lefts c.loop-i.rights c.loop-i.invariant.pairing c.requires.left_words c.requires.right_words c.requires.right_rises (λ more. let done = c.loop-i-test.false in absurd (omega arith))
