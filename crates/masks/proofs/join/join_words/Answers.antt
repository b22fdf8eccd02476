-- Words of both sides, and over them those of one alone; or those of a union.
use Rattle.std.proofs.Common.{◌∙◌, arith, ap, get_or}
use Rattle.algebra.specs.Operators.{eval_of}
use Rattle.masks.proofs.JoinedWords.{words_chosen, words_united, zipped}
use Rattle.masks.proofs.join.join_words.Goals as goal
use Rattle.masks.proofs.join.join_words.Goals.{in-Accumulate, in-Right}

pub returns-in-Unite-clause-joined : goal.returns-in-Unite-clause-joined
returns-in-Unite-clause-joined c =
    let op = c.in-Unite.op in
    rw c.in-Unite.is (words_united op.kind op.domain c.args.sides.now c.args.lefts.now c.args.rights.now c.unite_words.new.out (omega arith) (omega arith) c.unite_words.ensures)

pub returns-clause-joined : goal.returns-clause-joined
returns-clause-joined c =
    let sides = c.args.sides.now in
    let lefts = c.args.lefts.now in
    let rights = c.args.rights.now in
    let both = c.match-by.words in
    let words = c.put_alone.new.words in
    let chosen = c.put_alone.ensures.words in
    elim c.match-by.branch [
      | in-Right w ↦ rw w.in-Right.is (words_chosen (λ left right. right) sides lefts rights both words (omega arith) c.put_alone.ensures.length (λ k within. ap (λ ws. get_or ws k 0) (w.words-is ∙ w.copy_from_slice.ensures.after)) chosen)
      | in-Accumulate w ↦
          let op = w.in-Accumulate.op in
          rw w.in-Accumulate.is (words_chosen (eval_of op.kind op.domain) sides lefts rights both words (omega arith) c.put_alone.ensures.length (λ k within. ap (λ ws. get_or ws k 0) (w.words-is ∙ w.zip_words.ensures) ∙ zipped (eval_of op.kind op.domain) lefts rights k (omega arith) (omega arith)) chosen)
    ]
