use Rattle.std.proofs.Common.{◌∙◌, ap, arith, get_or, cond, eqb}
use Rattle.std.proofs.lemmas.List.{get_or-set_other, length-set}
use Rattle.masks.proofs.JoinedWords.{placed_word, words_done}
use Rattle.masks.proofs.join.put_alone.Goals as goal

pub loop-k-preserved : goal.loop-k-preserved
loop-k-preserved c =
    let k = c.loop-k.k in
    let words = c.loop-k.words in
    let here = c.loop-k.invariant in
    let sides = c.args.sides.now in
    let long = here.long in
    record {
      long = omega (arith, length-set words k c.choose.result);
      done = words_done words k c.choose.result (placed_word sides c.args.lefts.now c.args.rights.now c.args.words.now) (omega arith) here.done
          (c.choose.ensures ∙ ap (λ both. cond (eqb (get_or sides k 0) 1) (get_or c.args.lefts.now k 0) (cond (eqb (get_or sides k 0) 2) (get_or c.args.rights.now k 0) both)) (here.rest k (omega arith) (omega arith)));
      rest = λ n behind within. get_or-set_other words k n c.choose.result 0 (λ same. absurd (omega arith)) ∙ here.rest n (omega arith) within;
    }
