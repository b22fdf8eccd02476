use Rattle.std.proofs.Common.{◌≡◌, ◌-◌, take, arith}
use Rattle.store.proofs.PutLaws.{merge_end, merge_start, merge_step}
use Rattle.store.proofs.putting.merge_back.Goals as goal

pub loop-k-init : goal.loop-k-init
loop-k-init c = merge_start c.args.old c.args.inner.now c.args.words.now c.args.rows.now c.args.row_words.now c.requires.lengths c.requires.row_words c.requires.old_rises c.requires.room

pub loop-k-preserved : goal.loop-k-preserved
loop-k-preserved c =
    let l = c.loop-k in
    let put = c.put_before in
    merge_step (take c.args.old c.args.inner.now) (take c.args.old c.args.words.now) c.args.rows.now c.args.row_words.now l.left l.gap (l.k - 1) l.k l.inner l.words put.result.0 put.result.1 put.new.inner put.new.words l.invariant (omega arith) c.requires.row_words c.requires.rises put.ensures.inner_length put.ensures.words_length put.ensures.high put.ensures.gap put.ensures.kept put.ensures.behind put.ensures.above put.ensures.set

pub returns-clause-put : goal.returns-clause-put
returns-clause-put c =
    let l = c.loop-k in
    let none : l.k ≡ 0 = omega arith in
    merge_end (take c.args.old c.args.inner.now) (take c.args.old c.args.words.now) c.args.rows.now c.args.row_words.now l.left l.gap l.inner l.words (rw none at l.invariant)
