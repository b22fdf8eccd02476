use Rattle.std.proofs.Common.{◌++◌, ap, sym, ◌≡◌, ◌∙◌, drop, length, refl, replicate, rules, arith}
use Rattle.std.proofs.lemmas.List.{length-replicate, length-take-le}
use Rattle.masks.proofs.Joins.{cut_front}
use Rattle.masks.proofs.Merges.{same_merge}
use Rattle.masks.proofs.merge.merge_same.Goals as goal

pub returns-clause-merged : goal.returns-clause-merged
returns-clause-merged c outer =
    let n = length c.args.both.now in
    let sides : c.fill.new.self ≡ replicate n 3 = c.fill.ensures.after (λ y same. search rules) ∙ ap (λ n. replicate n 3) (length-take-le n c.args.sides.now (let room = c.requires.inner_room in let long = c.requires.sides_room in omega arith)) in
    let m = same_merge outer c.args.both.now c.args.left_words.now c.args.right_words.now c.requires.left_words c.requires.right_words c.requires.rises in
    rw (
      cut_front n c.args.both.now (drop n c.args.inner.now) (c.copy_from_slice.new.self ++ (drop n c.args.inner.now)) refl (ap (λ xs. xs ++ (drop n c.args.inner.now)) c.copy_from_slice.ensures.after),
      cut_front n c.args.left_words.now (drop n c.args.lefts.now) (c.copy_from_slice-2.new.self ++ (drop n c.args.lefts.now)) (sym c.requires.left_words) (ap (λ xs. xs ++ (drop n c.args.lefts.now)) c.copy_from_slice-2.ensures.after),
      cut_front n c.args.right_words.now (drop n c.args.rights.now) (c.copy_from_slice-3.new.self ++ (drop n c.args.rights.now)) (sym c.requires.right_words) (ap (λ xs. xs ++ (drop n c.args.rights.now)) c.copy_from_slice-3.ensures.after),
      cut_front n (replicate n 3) (drop n c.args.sides.now) (c.fill.new.self ++ (drop n c.args.sides.now)) (sym (length-replicate n 3)) (ap (λ xs. xs ++ (drop n c.args.sides.now)) sides),
    ) m
