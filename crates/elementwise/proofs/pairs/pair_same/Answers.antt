use Rattle.std.proofs.Common.{◌++◌, ap, sym, drop, length, refl}
use Rattle.masks.proofs.Joins.{cut_front}
use Rattle.elementwise.proofs.Meets.{same_met}
use Rattle.elementwise.proofs.pairs.pair_same.Goals as goal

pub returns-clause-met : goal.returns-clause-met
returns-clause-met c outer f =
    let n = length c.args.both.now in
    rw (
      cut_front n c.args.both.now (drop n c.args.inner.now) (c.copy_from_slice.new.self ++ (drop n c.args.inner.now)) refl (ap (λ xs. xs ++ (drop n c.args.inner.now)) c.copy_from_slice.ensures.after),
      cut_front n c.args.left_words.now (drop n c.args.lefts.now) (c.copy_from_slice-2.new.self ++ (drop n c.args.lefts.now)) (sym c.requires.left_words) (ap (λ xs. xs ++ (drop n c.args.lefts.now)) c.copy_from_slice-2.ensures.after),
      cut_front n c.args.right_words.now (drop n c.args.rights.now) (c.copy_from_slice-3.new.self ++ (drop n c.args.rights.now)) (sym c.requires.right_words) (ap (λ xs. xs ++ (drop n c.args.rights.now)) c.copy_from_slice-3.ensures.after),
    )
    (same_met f outer c.args.both.now c.args.left_words.now c.args.right_words.now c.requires.left_words c.requires.right_words c.requires.rises)
